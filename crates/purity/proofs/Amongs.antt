-- Items of lists.
use Rattle.std.proofs.Common.{arith, ◌≡◌, ◌∙◌, ap, sym, subst, refl, inl, inr, ◌⊎◌, ℕ, zero, suc, ◌+◌, ◌<◌, ◌≤◌, ◌==◌}
use Rattle.std.proofs.Common.{Bool, true, false, ◌||◌, List, [], ◌∷◌, ◌++◌, map, length, Option, Some, None}
use Rattle.std.proofs.Common.{slice_get}
use Rattle.std.proofs.lemmas.Bool.{cases_lt}
use Rattle.std.proofs.lemmas.Option.{slice_get_within}
use Rattle.std.specs.List.{flat_map, range_with_len, list_any, Contains}
use Rattle.eager_rules.specs.declared.program.Oper.{Oper}
use Rattle.eager_rules.specs.declared.program.Oper.TheVariants as oper
use Rattle.purity.specs.Effects.{Among}
use Rattle.purity.specs.Marks.{has}
use Rattle.purity.specs.Uses.{name_at, name_of, only_at, only_by}
use Rattle.purity.proofs.MarkLaws.{among_number, not_true, number_among, number_itself, or_cases, or_left, or_right}
use Rattle.purity.proofs.MarkLaws.{same_number}

module _ {A : Type 0} where
  pub among_left : (xs ys : List A) (u : A) → Among xs u → Among (xs ++ ys) u
  among_left [] ys u h = absurd h
  among_left (x ∷ xs) ys u (inl e) = inl e
  among_left (x ∷ xs) ys u (inr h) = inr (among_left xs ys u h)

  pub among_right : (xs ys : List A) (u : A) → Among ys u → Among (xs ++ ys) u
  among_right [] ys u h = h
  among_right (x ∷ xs) ys u h = inr (among_right xs ys u h)

  pub among_cases : (xs ys : List A) (u : A) → Among (xs ++ ys) u → Among xs u ⊎ Among ys u
  among_cases [] ys u h = inr h
  among_cases (x ∷ xs) ys u (inl e) = inl (inl e)
  among_cases (x ∷ xs) ys u (inr h) = elim (among_cases xs ys u h) [ inl a ↦ inl (inr a) | inr b ↦ inr b ]

  pub only_among : (x u : A) → Among (x ∷ []) u → x ≡ u
  only_among x u (inl e) = e
  only_among x u (inr h) = absurd h

module _ {A B : Type 0} (f : A → List B) where
  pub among_flat : (xs : List A) (u : B) → Among (flat_map f xs) u → (x : A) × Among xs x × Among (f x) u
  among_flat [] u h = absurd h
  among_flat (x ∷ xs) u h = elim (among_cases (f x) (flat_map f xs) u h) [
    | inl a ↦ (x, inl refl, a)
    | inr b ↦ let (y, m, a) = among_flat xs u b in (y, inr m, a)
  ]

  pub in_flat : (xs : List A) (x : A) (u : B) → Among xs x → Among (f x) u → Among (flat_map f xs) u
  in_flat [] x u m a = absurd m
  in_flat (y ∷ xs) x u (inl e) a =
      among_left (f y) (flat_map f xs) u (subst (λ (z : A). Among (f z) u) (sym e) a)
  in_flat (y ∷ xs) x u (inr m) a = among_right (f y) (flat_map f xs) u (in_flat xs x u m a)

module _ {A B : Type 0} (f : A → B) where
  pub among_map : (xs : List A) (u : B) → Among (map f xs) u → (x : A) × Among xs x × (f x ≡ u)
  among_map [] u h = absurd h
  among_map (x ∷ xs) u (inl e) = (x, inl refl, e)
  among_map (x ∷ xs) u (inr h) = let (y, m, e) = among_map xs u h in (y, inr m, e)

  pub in_map : (xs : List A) (x : A) → Among xs x → Among (map f xs) (f x)
  in_map [] x m = absurd m
  in_map (y ∷ xs) x (inl e) = inl (ap f e)
  in_map (y ∷ xs) x (inr m) = inr (in_map xs x m)

range_from : (a n i : ℕ) → a ≤ i → i < a + n → Among (range_with_len a n) i
range_from a zero i low high = absurd (omega (arith, low, high))
range_from a (suc n) i low high =
    by_place (cases_lt a i) (λ past. range_from (a + 1) n i (omega (arith, past)) (omega (arith, high)))
  where
    by_place : (a < i) ⊎ (i ≤ a) → (a < i → Among (range_with_len (a + 1) n) i) → Among (range_with_len a (suc n)) i
    by_place (inl past) later = inr (later past)
    by_place (inr back) later = let same : a ≡ i = omega (arith, low, back) in inl same

pub in_range : (n i : ℕ) → i < n → Among (range_with_len 0 n) i
in_range n i h = range_from 0 n i (omega arith) (omega (arith, h))

range_below : (a n i : ℕ) → Among (range_with_len a n) i → i < a + n
range_below a zero i h = absurd h
range_below a (suc n) i (inl e) = omega (arith, e)
range_below a (suc n) i (inr h) = let less : i < (a + 1) + n = range_below (a + 1) n i h in omega (arith, less)

pub below_range : (n i : ℕ) → Among (range_with_len 0 n) i → i < n
below_range n i h = let less : i < 0 + n = range_below 0 n i h in omega (arith, less)

-- tests and items
pub has_among : (n : ℕ) (xs : List ℕ) → has n xs ≡ true → Among xs n
has_among n [] h = absurd (not_true false h refl)
has_among n (x ∷ xs) h = elim (or_cases (x == n) (has n xs) h) [
  | inl e ↦ inl (same_number x n e)
  | inr m ↦ inr (has_among n xs m)
]

pub among_has : (n : ℕ) (xs : List ℕ) → Among xs n → has n xs ≡ true
among_has n [] h = absurd h
among_has n (x ∷ xs) (inl e) = or_left (x == n) (has n xs) (ap (λ m. m == n) e ∙ number_itself n)
among_has n (x ∷ xs) (inr m) = or_right (x == n) (has n xs) (among_has n xs m)

pub among_contains : (xs : List ℕ) (n : ℕ) → Among xs n → Contains xs n
among_contains xs n h = number_among xs n (among_has n xs h)

pub contains_among : (xs : List ℕ) (n : ℕ) → Contains xs n → Among xs n
contains_among xs n h = has_among n xs (among_number xs n h)

-- the name that an operand is
name_found : (o : Option Oper) (n : ℕ) → Among (name_of o) n → o ≡ Some (oper.Name n)
name_found None n h = absurd h
name_found (Some (oper.Int z)) n h = absurd h
name_found (Some (oper.Truth b)) n h = absurd h
name_found (Some (oper.Name name)) n (inl e) = ap (λ (m : ℕ). Some (oper.Name m)) e
name_found (Some (oper.Name name)) n (inr h) = absurd h

pub name_is : (args : List Oper) (r n : ℕ) → Among (name_at args r) n → slice_get args r ≡ Some (oper.Name n)
name_is args r n h = name_found (slice_get args r) n h

pub is_name : (args : List Oper) (r n : ℕ) → slice_get args r ≡ Some (oper.Name n) → Among (name_at args r) n
is_name args r n e = subst (λ (o : Option Oper). Among (name_of o) n) (sym e) (inl refl)

-- an item by a test
pub only_when : (test : Bool) (item x : ℕ) → Among (only_by test item) x → (test ≡ true) × (item ≡ x)
only_when true item x (inl e) = (refl, e)
only_when true item x (inr h) = absurd h
only_when false item x h = absurd h

pub when_only : (test : Bool) (item : ℕ) → test ≡ true → Among (only_by test item) item
when_only true item e = inl refl
when_only false item e = absurd (not_true false e refl)

pub only_here : (number k item x : ℕ) → Among (only_at number k item) x → (number ≡ k) × (item ≡ x)
only_here number k item x h =
    let found = only_when (number == k) item x h in
    (same_number number k found.0, found.1)

pub here_only : (k item : ℕ) → Among (only_at k k item) item
here_only k item = when_only (k == k) item (number_itself k)

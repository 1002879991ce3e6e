-- Marks of numbers.
use Rattle.std.proofs.Common.{◌≡◌, ℕ, zero, suc, ◌+◌, ◌<◌, ◌≤◌, ◌==◌, Bool, true, false, cond, not, ◌||◌, List, []}
use Rattle.std.proofs.Common.{◌∷◌, ◌++◌, length, get_or, set, take, replicate, refl, ap, sym, ◌∙◌, subst, inl, inr}
use Rattle.std.proofs.Common.{arith, add-one, ◌⊎◌}
use Rattle.std.specs.List.{list_any, count_by, Contains}
use Rattle.std.proofs.lemmas.List.Folds.{list_any-append, list_any_at}
use Rattle.std.proofs.lemmas.List.{take_more, get_or-set_same, get_or-set_other}
use Rattle.std.proofs.lemmas.List.Sums.{sum_by-set}
use Rattle.std.proofs.lemmas.Bool.Decides.{nat_tests}
use Rattle.purity.specs.Marks.{has, leads, marked, row}

pub not_true : (b : Bool) → b ≡ true → b ≡ false → ⊥
not_true b h k = cc

pub or_cases : (a b : Bool) → (a || b) ≡ true → (a ≡ true) ⊎ (b ≡ true)
or_cases true b h = inl refl
or_cases false b h = inr h

pub or_left : (a b : Bool) → a ≡ true → (a || b) ≡ true
or_left true b h = refl
or_left false b h = cc

pub or_right : (a b : Bool) → b ≡ true → (a || b) ≡ true
or_right true b h = refl
or_right false b h = h

pub or_assoc : (a b c : Bool) → ((a || b) || c) ≡ (a || (b || c))
or_assoc true b c = refl
or_assoc false b c = refl

pub or_false : (b : Bool) → (b || false) ≡ b
or_false true = refl
or_false false = refl

pub same_number : (a b : ℕ) → (a == b) ≡ true → a ≡ b
same_number a b h = grind (arith, nat_tests)

pub number_itself : (a : ℕ) → (a == a) ≡ true
number_itself a = grind (arith, nat_tests)

pub marked_within : (xs : List Bool) (g : ℕ) → marked xs g ≡ true → g < length xs
marked_within [] g h = absurd (not_true false h refl)
marked_within (x ∷ xs) zero h = omega arith
marked_within (x ∷ xs) (suc g) h = let less : g < length xs = marked_within xs g h in omega arith

pub marked_set : (xs : List Bool) (a g : ℕ) → g < length xs → marked (set xs a true) g ≡ (marked xs g || (a == g))
marked_set xs a g h = by_test (a == g) refl
  where
    by_test : (t : Bool) → (a == g) ≡ t → marked (set xs a true) g ≡ (marked xs g || (a == g))
    by_test true e =
        let same : a ≡ g = same_number a g e in
        ap (λ n. marked (set xs n true) g) same
        ∙ (get_or-set_same xs g true false h ∙ sym (or_right (marked xs g) (a == g) e))
    by_test false e =
        get_or-set_other xs a g true false (λ k. not_true (a == g) (ap (λ n. a == n) k ∙ number_itself a) e)
        ∙ (sym (or_false (marked xs g)) ∙ ap (λ b. marked xs g || b) (sym e))

pub none_marked : (n g : ℕ) → marked (replicate n false) g ≡ false
none_marked zero g = refl
none_marked (suc n) zero = refl
none_marked (suc n) (suc g) = none_marked n g

pub set_unmarked : (xs : List Bool) (f : ℕ) → f < length xs → marked xs f ≡ false
    → count_by not (set xs f true) + 1 ≡ count_by not xs
set_unmarked xs f h k =
    let weight : Bool → ℕ = λ x. cond (not x) 1 0 in
    let whole : count_by not (set xs f true) + weight (marked xs f) ≡ count_by not xs + 0 =
    sum_by-set weight xs f true false h in
    let one : count_by not (set xs f true) + 1 ≡ count_by not xs + 0 =
    subst (λ b. count_by not (set xs f true) + weight b ≡ count_by not xs + 0) k whole in
    omega (arith, one)

pub leads_within : (rows : List (List ℕ)) (to from : ℕ) → leads rows to from ≡ true → to < length rows
leads_within [] to from h = absurd (not_true false h refl)
leads_within (r ∷ rows) zero from h = omega arith
leads_within (r ∷ rows) (suc to) from h =
    let less : to < length rows = leads_within rows to from h in omega arith

-- one more number
pub number_more : (xs : List ℕ) (at g x : ℕ) → at < length xs → x ≡ get_or xs at x
    → list_any (λ f. f == g) (take (at + 1) xs) ≡ (list_any (λ f. f == g) (take at xs) || (x == g))
number_more xs at g x lt is =
    ap (list_any (λ f. f == g)) (take_more xs at x lt ∙ ap (λ y. take at xs ++ y ∷ []) (sym is))
    ∙ (list_any-append (λ f. f == g) (take at xs) (x ∷ [])
    ∙ ap (λ b. list_any (λ f. f == g) (take at xs) || b) (or_false (x == g)))

pub number_among : (xs : List ℕ) (g : ℕ) → list_any (λ f. f == g) xs ≡ true → Contains xs g
number_among [] g h = absurd (not_true false h refl)
number_among (x ∷ xs) g h = elim (or_cases (x == g) (list_any (λ f. f == g) xs) h) [
  | inl e ↦ (0, omega arith, same_number x g e)
  | inr m ↦ let (k, lt, is) = number_among xs g m in (suc k, omega arith, is)
]

pub among_number : (xs : List ℕ) (g : ℕ) → Contains xs g → list_any (λ f. f == g) xs ≡ true
among_number xs g (k, lt, is) = list_any_at (λ f. f == g) xs k g lt (ap (λ n. n == g) is ∙ number_itself g)

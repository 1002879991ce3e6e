-- Lists of tests of bound names: more bound names, and the names of an instance at their places in its kernel.
use Rattle.std.proofs.Common.{◌≡◌, ◌∙◌, ap, sym, subst, refl, inl, inr, ◌⊎◌, arith, ℕ, zero, suc, ◌<◌, ◌≤◌, true}
use Rattle.std.proofs.Common.{List, [], ◌∷◌, map, length, replicate, length-set}
use Rattle.std.proofs.lemmas.Bool.{lt-ltb, ltb-true}
use Rattle.std.specs.Prelude.{nat_lt, slice_set}
use Rattle.std.specs.List.{list_all}
use Rattle.eager_rules.specs.Sound.{Bindings, bound_in, meet, names_fit, operand_bound, put_all}
use Rattle.eager_rules.specs.declared.program.Oper.{Oper}
use Rattle.eager_rules.specs.declared.program.Oper.TheVariants as oper
use Rattle.inline.specs.Places.{placed, renamed}
use Rattle.inline.specs.declared.places.Place.{Place}
use Rattle.inline.proofs.Frames.{and_both}
use Rattle.inline.proofs.TypeTests.{and_left, and_right, not_true}

-- what is bound before is bound after
pub record More (before after : Bindings) : Type 0 where
  pub size : length after ≡ length before
  pub bound : (m : ℕ) → bound_in before m ≡ true → bound_in after m ≡ true

pub same_more : (xs : Bindings) → More xs xs
same_more xs = record { size = refl; bound = λ m h. h }

pub more_then : (xs ys zs : Bindings) → More xs ys → More ys zs → More xs zs
more_then xs ys zs f g = record { size = g.size ∙ f.size; bound = λ m h. g.bound m (f.bound m h) }

pub bound_within : (xs : Bindings) (m : ℕ) → bound_in xs m ≡ true → m < length xs
bound_within [] m h = not_true h
bound_within (x ∷ xs) zero h = omega arith
bound_within (x ∷ xs) (suc m) h = let rest : m < length xs = bound_within xs m h in omega (arith, rest)

-- ---- a name more
pub set_same : (xs : Bindings) (n : ℕ) → n < length xs → bound_in (slice_set xs n true) n ≡ true
set_same [] n lt = absurd (omega (arith, lt))
set_same (x ∷ xs) zero lt = refl
set_same (x ∷ xs) (suc n) lt = set_same xs n (omega (arith, lt))

set_bound : (xs : Bindings) (n m : ℕ) → bound_in xs m ≡ true → bound_in (slice_set xs n true) m ≡ true
set_bound [] n m h = h
set_bound (x ∷ xs) zero zero h = refl
set_bound (x ∷ xs) zero (suc m) h = h
set_bound (x ∷ xs) (suc n) zero h = h
set_bound (x ∷ xs) (suc n) (suc m) h = set_bound xs n m h

set_given : (xs : Bindings) (n m : ℕ) → bound_in (slice_set xs n true) m ≡ true → (m ≡ n) ⊎ (bound_in xs m ≡ true)
set_given [] n m h = not_true h
set_given (x ∷ xs) zero zero h = inl refl
set_given (x ∷ xs) zero (suc m) h = inr h
set_given (x ∷ xs) (suc n) zero h = inr h
set_given (x ∷ xs) (suc n) (suc m) h = elim (set_given xs n m h) [
  | inl e ↦ inl (ap (λ (k : ℕ). suc k) e)
  | inr e ↦ inr e
]

pub set_more : (xs : Bindings) (n : ℕ) → More xs (slice_set xs n true)
set_more xs n = record { size = length-set xs n true; bound = set_bound xs n }

pub put_more : (to : List ℕ) (xs : Bindings) → More xs (put_all to xs)
put_more [] xs = same_more xs
put_more (n ∷ to) xs =
    more_then xs (slice_set xs n true) (put_all to (slice_set xs n true)) (set_more xs n)
    (put_more to (slice_set xs n true))

-- ---- all names
pub all_bound : (n m : ℕ) → m < n → bound_in (replicate n true) m ≡ true
all_bound zero m lt = absurd (omega (arith, lt))
all_bound (suc n) zero lt = refl
all_bound (suc n) (suc m) lt = all_bound n m (omega (arith, lt))

-- ---- two paths
pub meet_given : (xs ys : Bindings) (n : ℕ) → bound_in (meet xs ys) n ≡ true →
    (bound_in xs n ≡ true) × (bound_in ys n ≡ true)
meet_given [] [] n h = not_true h
meet_given [] (y ∷ ys) n h = not_true h
meet_given (x ∷ xs) [] n h = not_true h
meet_given (x ∷ xs) (y ∷ ys) zero h = (and_left x y h, and_right x y h)
meet_given (x ∷ xs) (y ∷ ys) (suc n) h = meet_given xs ys n h

pub meet_bound : (xs ys : Bindings) (n : ℕ) → bound_in xs n ≡ true → bound_in ys n ≡ true →
    bound_in (meet xs ys) n ≡ true
meet_bound [] ys n f g = not_true f
meet_bound (x ∷ xs) [] n f g = not_true g
meet_bound (x ∷ xs) (y ∷ ys) zero f g = and_both x y f g
meet_bound (x ∷ xs) (y ∷ ys) (suc n) f g = meet_bound xs ys n f g

pub meet_most : (xs ys : Bindings) → length (meet xs ys) ≤ length xs
meet_most [] [] = omega arith
meet_most [] (y ∷ ys) = omega arith
meet_most (x ∷ xs) [] = omega arith
meet_most (x ∷ xs) (y ∷ ys) = let rest : length (meet xs ys) ≤ length xs = meet_most xs ys in omega (arith, rest)

pub meet_size : (xs ys : Bindings) → length xs ≡ length ys → length (meet xs ys) ≡ length xs
meet_size [] [] h = refl
meet_size [] (y ∷ ys) h = refl
meet_size (x ∷ xs) [] h = absurd (omega (arith, h))
meet_size (x ∷ xs) (y ∷ ys) h = ap (λ (n : ℕ). suc n) (meet_size xs ys (omega (arith, h)))

pub meet_more : (xs ys zs : Bindings) → More xs ys → More xs zs → More xs (meet ys zs)
meet_more xs ys zs f g = record {
  size = meet_size ys zs (f.size ∙ sym g.size) ∙ f.size;
  bound = λ m h. meet_bound ys zs m (f.bound m h) (g.bound m h);
}

-- ---- operands
pub operand_more : (xs ys : Bindings) → More xs ys → (x : Oper) → operand_bound xs x ≡ true →
    operand_bound ys x ≡ true
operand_more xs ys more (oper.Int z) h = refl
operand_more xs ys more (oper.Truth b) h = refl
operand_more xs ys more (oper.Name n) h = more.bound n h

pub operands_more : (xs ys : Bindings) → More xs ys → (args : List Oper) →
    list_all (operand_bound xs) args ≡ true → list_all (operand_bound ys) args ≡ true
operands_more xs ys more [] h = refl
operands_more xs ys more (x ∷ args) h =
    and_both (operand_bound ys x) (list_all (operand_bound ys) args)
    (operand_more xs ys more x (and_left (operand_bound xs x) (list_all (operand_bound xs) args) h))
    (operands_more xs ys more args (and_right (operand_bound xs x) (list_all (operand_bound xs) args) h))

-- each of these names is bound
abbrev pub AllIn : Bindings → List ℕ → Type 0
AllIn xs to = list_all (bound_in xs) to ≡ true

pub in_more : (xs ys : Bindings) → More xs ys → (to : List ℕ) → AllIn xs to → AllIn ys to
in_more xs ys more [] h = refl
in_more xs ys more (n ∷ to) h =
    and_both (bound_in ys n) (list_all (bound_in ys) to)
    (more.bound n (and_left (bound_in xs n) (list_all (bound_in xs) to) h))
    (in_more xs ys more to (and_right (bound_in xs n) (list_all (bound_in xs) to) h))

pub in_meet : (xs ys : Bindings) (to : List ℕ) → AllIn xs to → AllIn ys to → AllIn (meet xs ys) to
in_meet xs ys [] f g = refl
in_meet xs ys (n ∷ to) f g =
    and_both (bound_in (meet xs ys) n) (list_all (bound_in (meet xs ys)) to)
    (meet_bound xs ys n (and_left (bound_in xs n) (list_all (bound_in xs) to) f)
    (and_left (bound_in ys n) (list_all (bound_in ys) to) g))
    (in_meet xs ys to (and_right (bound_in xs n) (list_all (bound_in xs) to) f)
    (and_right (bound_in ys n) (list_all (bound_in ys) to) g))

-- ---- an instance's names at their places in a kernel of so many names
module _ (p : Place) (count size : ℕ) (inside : (n : ℕ) → n < count → placed p n < size) where
  pub record Kept (mine theirs : Bindings) : Type 0 where
    pub most : length mine ≤ count
    pub bound : (n : ℕ) → bound_in mine n ≡ true → bound_in theirs (placed p n) ≡ true

  pub kept_more : (xs ys zs : Bindings) → Kept xs ys → More ys zs → Kept xs zs
  kept_more xs ys zs h more = record { most = h.most; bound = λ n b. more.bound (placed p n) (h.bound n b) }

  pub kept_meet : (xs ys zs us : Bindings) → Kept xs zs → Kept ys us → Kept (meet xs ys) (meet zs us)
  kept_meet xs ys zs us f g = record {
    most = (let shorter : length (meet xs ys) ≤ length xs = meet_most xs ys in
        let most : length xs ≤ count = f.most in omega (arith, shorter, most));
    bound = λ n h. meet_bound zs us (placed p n) (f.bound n (meet_given xs ys n h).0)
        (g.bound n (meet_given xs ys n h).1);
  }

  pub kept_set : (xs ys : Bindings) (n : ℕ) → length ys ≡ size → n < length xs → Kept xs ys →
      Kept (slice_set xs n true) (slice_set ys (placed p n) true)
  kept_set xs ys n long lt h = record {
    most = (let same : length (slice_set xs n true) ≡ length xs = length-set xs n true in
        let most : length xs ≤ count = h.most in omega (arith, same, most));
    bound = λ m b. by_case m (set_given xs n m b);
  }
    where
      within : placed p n < length ys
      within =
          let most : length xs ≤ count = h.most in
          let low : placed p n < size = inside n (omega (arith, lt, most)) in omega (arith, low, long)

      by_case : (m : ℕ) → (m ≡ n) ⊎ (bound_in xs m ≡ true) →
          bound_in (slice_set ys (placed p n) true) (placed p m) ≡ true
      by_case m (inl e) =
          subst (λ (k : ℕ). bound_in (slice_set ys (placed p n) true) (placed p k) ≡ true) (sym e)
          (set_same ys (placed p n) within)
      by_case m (inr e) = set_bound ys (placed p n) (placed p m) (h.bound m e)

  pub kept_put : (to : List ℕ) (xs ys : Bindings) → length ys ≡ size → names_fit xs to ≡ true → Kept xs ys →
      Kept (put_all to xs) (put_all (map (placed p) to) ys)
  kept_put [] xs ys long fit h = h
  kept_put (n ∷ to) xs ys long fit h =
      kept_put to (slice_set xs n true) (slice_set ys (placed p n) true)
      (length-set ys (placed p n) true ∙ long)
      (ap (λ (k : ℕ). list_all (λ (m : ℕ). nat_lt m k) to) (length-set xs n true)
      ∙ and_right (nat_lt n (length xs)) (names_fit xs to) fit)
      (kept_set xs ys n long (ltb-true n (length xs) (and_left (nat_lt n (length xs)) (names_fit xs to) fit)) h)

  pub kept_names : (to : List ℕ) (xs ys : Bindings) → length ys ≡ size → names_fit xs to ≡ true → Kept xs ys →
      names_fit ys (map (placed p) to) ≡ true
  kept_names [] xs ys long fit h = refl
  kept_names (n ∷ to) xs ys long fit h =
      and_both (nat_lt (placed p n) (length ys)) (names_fit ys (map (placed p) to))
      (let lt : n < length xs = ltb-true n (length xs) (and_left (nat_lt n (length xs)) (names_fit xs to) fit) in
      let most : length xs ≤ count = h.most in
      let low : placed p n < size = inside n (omega (arith, lt, most)) in
      lt-ltb (placed p n) (length ys) (omega (arith, low, long)))
      (kept_names to xs ys long (and_right (nat_lt n (length xs)) (names_fit xs to) fit) h)

  -- names that are bound there already
  pub kept_given : (to : List ℕ) (xs ys : Bindings) → Kept xs ys → AllIn ys (map (placed p) to) →
      Kept (put_all to xs) ys
  kept_given [] xs ys h b = h
  kept_given (n ∷ to) xs ys h b =
      kept_given to (slice_set xs n true) ys (record {
        most = (let same : length (slice_set xs n true) ≡ length xs = length-set xs n true in
            let most : length xs ≤ count = h.most in omega (arith, same, most));
        bound = λ m e. by_case m (set_given xs n m e);
      }) (and_right (bound_in ys (placed p n)) (list_all (bound_in ys) (map (placed p) to)) b)
    where
      by_case : (m : ℕ) → (m ≡ n) ⊎ (bound_in xs m ≡ true) → bound_in ys (placed p m) ≡ true
      by_case m (inl e) =
          ap (λ (k : ℕ). bound_in ys (placed p k)) e
          ∙ and_left (bound_in ys (placed p n)) (list_all (bound_in ys) (map (placed p) to)) b
      by_case m (inr e) = h.bound m e

  pub kept_operand : (xs ys : Bindings) (x : Oper) → Kept xs ys → operand_bound xs x ≡ true →
      operand_bound ys (renamed p x) ≡ true
  kept_operand xs ys (oper.Int z) h b = refl
  kept_operand xs ys (oper.Truth t) h b = refl
  kept_operand xs ys (oper.Name n) h b = h.bound n b

  pub kept_operands : (xs ys : Bindings) (args : List Oper) → Kept xs ys → list_all (operand_bound xs) args ≡ true →
      list_all (operand_bound ys) (map (renamed p) args) ≡ true
  kept_operands xs ys [] h b = refl
  kept_operands xs ys (x ∷ args) h b =
      and_both (operand_bound ys (renamed p x)) (list_all (operand_bound ys) (map (renamed p) args))
      (kept_operand xs ys x h (and_left (operand_bound xs x) (list_all (operand_bound xs) args) b))
      (kept_operands xs ys args h (and_right (operand_bound xs x) (list_all (operand_bound xs) args) b))

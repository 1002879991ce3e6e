-- One dimension of a broadcast: the extents that are other than 1, and what joining them one after another gives.
use Rattle.std.proofs.Common.{◌≡◌, ℕ, zero, suc, ◌+◌, ◌<◌, ◌≤◌, max, List, [], ◌∷◌, map, drop, filter, length, get_or}
use Rattle.std.proofs.Common.{refl, sym, ap, ◌∙◌, arith}
use Rattle.std.proofs.Common.{Bool, true, false, eqb, cond, not, ◌&&◌, inl, inr, ◌⊎◌, Option, Some, None, eq-eqb}
use Rattle.std.proofs.Common.{⊎_elim}
use Rattle.std.specs.List.{list_all}
use Rattle.std.specs.Option.{option_and_then}
use Rattle.std.proofs.lemmas.List.{at_drop_more, at_drop_all}
use borrow.Author.Tests.{eqb-true, eqb-false}
use Rattle.view_places.specs.Alignment.{joined_step, one_extent}
use Rattle.view_places.specs.Arrays.{all_same, extent_back, greatest_rank}

-- the extents other than 1
abbrev pub others : List ℕ → List ℕ
others es = filter (λ n. not (eqb n 1)) es

-- what the one extent so far and further ones give
abbrev pub joining : ℕ → List ℕ → Option ℕ
joining one [] = Some one
joining one (e ∷ es) = option_and_then (λ (next : ℕ). joining next es) (joined_step one e)

joining-other : (one : ℕ) (es : List ℕ) → eqb one 1 ≡ false →
    joining one es ≡ cond (list_all (λ m. eqb m one) (others es)) (Some one) None
joining-other one [] h = refl
joining-other one (e ∷ es) h = by_tests (eqb e 1) refl (eqb e one) refl (eqb one 1) h (joining-other one es h)
  where
    by_tests : (a : Bool) → eqb e 1 ≡ a → (b : Bool) → eqb e one ≡ b → (t : Bool) → t ≡ false →
        joining one es ≡ cond (list_all (λ m. eqb m one) (others es)) (Some one) None →
        option_and_then (λ (next : ℕ). joining next es)
        (cond a (Some one) (cond t (Some e) (cond (eqb e one) (Some one) None))) ≡
        cond (list_all (λ m. eqb m one) (cond (not a) (e ∷ others es) (others es))) (Some one) None
    by_tests true p b q t r rest = rest
    by_tests false p b q true r rest = cc
    by_tests false p true q false r rest = simp q rest
    by_tests false p false q false r rest = simp q

pub joining-one : (es : List ℕ) → joining 1 es ≡ one_extent es
joining-one [] = refl
joining-one (e ∷ es) = by_test (eqb e 1) refl (joining-one es)
  where
    by_test : (a : Bool) → eqb e 1 ≡ a → joining 1 es ≡ one_extent es →
        option_and_then (λ (next : ℕ). joining next es)
        (cond a (Some 1) (cond (eqb 1 1) (Some e) (cond (eqb e 1) (Some 1) None))) ≡
        cond (all_same (cond (not a) (e ∷ others es) (others es)))
        (Some (get_or (cond (not a) (e ∷ others es) (others es)) 0 1)) None
    by_test true p rest = rest
    by_test false p rest = joining-other e es p

-- ---- an extent of the list is 1 or the one
and-left : (a b : Bool) → (a && b) ≡ true → a ≡ true
and-left true b h = refl
and-left false b h = h

and-right : (a b : Bool) → (a && b) ≡ true → b ≡ true
and-right true b h = h
and-right false b h = cc

met-same : (one : ℕ) (es : List ℕ) (i : ℕ) → i < length es → list_all (λ m. eqb m one) (others es) ≡ true →
    (get_or es i 1 ≡ 1) ⊎ (get_or es i 1 ≡ one)
met-same one [] i h same = absurd (omega arith)
met-same one (e ∷ es) zero h same = by_test (eqb e 1) refl same
  where
    by_test : (a : Bool) → eqb e 1 ≡ a →
        list_all (λ m. eqb m one) (cond (not a) (e ∷ others es) (others es)) ≡ true → (e ≡ 1) ⊎ (e ≡ one)
    by_test true p k = inl (eqb-true e 1 p)
    by_test false p k = inr (eqb-true e one (and-left (eqb e one) (list_all (λ m. eqb m one) (others es)) k))
met-same one (e ∷ es) (suc i) h same = met-same one es i (omega arith) (by_test (eqb e 1) refl same)
  where
    by_test : (a : Bool) → eqb e 1 ≡ a →
        list_all (λ m. eqb m one) (cond (not a) (e ∷ others es) (others es)) ≡ true →
        list_all (λ m. eqb m one) (others es) ≡ true
    by_test true p k = k
    by_test false p k = and-right (eqb e one) (list_all (λ m. eqb m one) (others es)) k

pub met-first : (es : List ℕ) (i : ℕ) → i < length es → all_same (others es) ≡ true →
    (get_or es i 1 ≡ 1) ⊎ (get_or es i 1 ≡ get_or (others es) 0 1)
met-first [] i h same = absurd (omega arith)
met-first (e ∷ es) zero h same = by_test (eqb e 1) refl
  where
    by_test : (a : Bool) → eqb e 1 ≡ a → (e ≡ 1) ⊎ (e ≡ get_or (cond (not a) (e ∷ others es) (others es)) 0 1)
    by_test true p = inl (eqb-true e 1 p)
    by_test false p = inr refl
met-first (e ∷ es) (suc i) h same =
    by_test (eqb e 1) refl same (λ k. met-first es i (omega arith) k) (λ k. met-same e es i (omega arith) k)
  where
    by_test : (a : Bool) → eqb e 1 ≡ a → all_same (cond (not a) (e ∷ others es) (others es)) ≡ true →
        (all_same (others es) ≡ true → (get_or es i 1 ≡ 1) ⊎ (get_or es i 1 ≡ get_or (others es) 0 1)) →
        (list_all (λ m. eqb m e) (others es) ≡ true → (get_or es i 1 ≡ 1) ⊎ (get_or es i 1 ≡ e)) →
        (get_or es i 1 ≡ 1) ⊎ (get_or es i 1 ≡ get_or (cond (not a) (e ∷ others es) (others es)) 0 1)
    by_test true p k first other = first k
    by_test false p k first other = other k

-- ---- two extents of which the first is 1 or the second
pub pair-joins : (a b : ℕ) → (a ≡ 1) ⊎ (a ≡ b) →
    (all_same (others (a ∷ b ∷ [])) ≡ true) × (get_or (others (a ∷ b ∷ [])) 0 1 ≡ b)
pair-joins a b h = by_tests (eqb a 1) refl (eqb b 1) refl
  where
    same : eqb a 1 ≡ false → a ≡ b
    same p = ⊎_elim (λ one. absurd (eqb-false a 1 p one)) (λ e. e) h

    by_tests : (x : Bool) → eqb a 1 ≡ x → (y : Bool) → eqb b 1 ≡ y →
        (all_same (cond (not x) (a ∷ cond (not y) (b ∷ []) []) (cond (not y) (b ∷ []) [])) ≡ true) ×
        (get_or (cond (not x) (a ∷ cond (not y) (b ∷ []) []) (cond (not y) (b ∷ []) [])) 0 1 ≡ b)
    by_tests true p true q = (refl, sym (eqb-true b 1 q))
    by_tests true p false q = (refl, refl)
    by_tests false p true q = absurd (eqb-false a 1 p (same p ∙ eqb-true b 1 q))
    by_tests false p false q = (ap (λ (t : Bool). t && true) (eq-eqb b a (sym (same p))), same p)

-- ---- one more of the things that have extents
module _ {A : Type 0} (f : A → List ℕ) (back : ℕ) (xs : List A) (i : ℕ) (d : A) (h : i < length xs) (one e : ℕ)
    (is_e : e ≡ extent_back back (f (get_or xs i d))) where
  pub met-next : (next : ℕ) → joined_step one e ≡ Some next →
      joining one (map (extent_back back) (map f (drop i xs))) ≡
      joining next (map (extent_back back) (map f (drop (i + 1) xs)))
  met-next next met =
      at_drop_more (λ (ys : List A). joining one (map (extent_back back) (map f ys))) xs i d h ∙
      ap (option_and_then (λ (x : ℕ). joining x (map (extent_back back) (map f (drop (i + 1) xs)))))
      (ap (joined_step one) (sym is_e) ∙ met)

  pub met-apart : joined_step one e ≡ None → joining one (map (extent_back back) (map f (drop i xs))) ≡ None
  met-apart met =
      at_drop_more (λ (ys : List A). joining one (map (extent_back back) (map f ys))) xs i d h ∙
      ap (option_and_then (λ (x : ℕ). joining x (map (extent_back back) (map f (drop (i + 1) xs)))))
      (ap (joined_step one) (sym is_e) ∙ met)

pub met-all : {A : Type 0} (f : A → List ℕ) (back : ℕ) (xs : List A) (i : ℕ) → length xs ≤ i → (one : ℕ) →
    Some one ≡ joining one (map (extent_back back) (map f (drop i xs)))
met-all f back xs i h one = sym (at_drop_all (λ ys. joining one (map (extent_back back) (map f ys))) xs i h)

pub rank-next : {A : Type 0} (f : A → List ℕ) (xs : List A) (i : ℕ) (d : A) → i < length xs → (rank r next : ℕ) →
    r ≡ length (f (get_or xs i d)) → next ≡ max rank r →
    max next (greatest_rank (map f (drop (i + 1) xs))) ≡ max rank (greatest_rank (map f (drop i xs)))
rank-next f xs i d h rank r next is_r is_next =
    let more : greatest_rank (map f (drop i xs)) ≡
    max (length (f (get_or xs i d))) (greatest_rank (map f (drop (i + 1) xs))) =
    at_drop_more (λ ys. greatest_rank (map f ys)) xs i d h in
    omega arith

pub rank-all : {A : Type 0} (f : A → List ℕ) (xs : List A) (i : ℕ) → length xs ≤ i → (rank : ℕ) →
    rank ≡ max rank (greatest_rank (map f (drop i xs)))
rank-all f xs i h rank =
    let none : greatest_rank (map f (drop i xs)) ≡ 0 = at_drop_all (λ ys. greatest_rank (map f ys)) xs i h in
    omega arith

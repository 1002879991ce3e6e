-- How strides lead from the indices of a shape, by the shape's dimensions.
use Rattle.std.proofs.Common.{◌≡◌, ℕ, zero, suc, ◌+◌, ◌*◌, ◌<◌, ◌≤◌, List, [], ◌∷◌, ◌++◌, length, get_or, set, take}
use Rattle.std.proofs.Common.{drop, replicate, reverse, insert, remove, refl, sym, ap, subst, ◌∙◌, arith, eqb, cond, ℤ}
use Rattle.std.proofs.Common.{pos, ◌+ℤ◌, ◌*ℤ◌, inl, inr, ◌⊎◌, Bool, true, false, eqb-true, mul_assoc, mul_comm, mul-one}
use borrow.Author.Tests.{eqb-false}
use Rattle.std.proofs.lemmas.Int.{ints}
use Rattle.std.proofs.lemmas.Grind.{reverse_onto}
use Rattle.std.proofs.lemmas.List.{reverse-reverse, length-reverse, set-set, set-get_or}
use Rattle.view_places.specs.Alignment.{Fits}
use Rattle.view_places.specs.Arrays.{element_count, order_of, Inside, clipped}
use Rattle.view_places.specs.Stepping.{first_index}
use Rattle.view_places.specs.Strides.{reach, weights}

pub zero-product : (s : ℤ) → s *ℤ pos 0 ≡ pos 0
zero-product s = omega (arith, ints)

pub reach-nil : (ss : List ℤ) → reach ss [] ≡ pos 0
reach-nil [] = refl
reach-nil (s ∷ ss) = refl

pub length-inside : (ns index : List ℕ) → Inside ns index → length index ≡ length ns
length-inside [] [] h = refl
length-inside [] (i ∷ index) h = absurd h
length-inside (n ∷ ns) [] h = absurd h
length-inside (n ∷ ns) (i ∷ index) h = ap suc (length-inside ns index h.1)

-- the index with nothing but 0
abbrev pub origin : List ℕ → List ℕ
origin ns = first_index ns

pub origin-inside : (ns : List ℕ) → 0 < element_count ns → Inside ns (origin ns)
origin-inside [] h = tt
origin-inside (zero ∷ ns) h = absurd (omega arith)
origin-inside (suc n ∷ ns) h = (omega arith, origin-inside ns (some-behind n (element_count ns) h))
  where
    some-behind : (n c : ℕ) → 0 < suc n * c → 0 < c
    some-behind n zero h = absurd (omega arith)
    some-behind n (suc c) h = omega arith

pub reach-origin : (ss : List ℤ) (ns : List ℕ) → reach ss (origin ns) ≡ pos 0
reach-origin [] ns = refl
reach-origin (s ∷ ss) [] = refl
reach-origin (s ∷ ss) (n ∷ ns) = omega (arith, ints, zero-product s, reach-origin ss ns)

-- strides behind those of an index change nothing
pub reach-append : (ss ts : List ℤ) (index : List ℕ) → length index ≤ length ss →
    reach (ss ++ ts) index ≡ reach ss index
reach-append [] ts [] h = reach-nil ts
reach-append [] ts (i ∷ index) h = absurd (omega arith)
reach-append (s ∷ ss) ts [] h = refl
reach-append (s ∷ ss) ts (i ∷ index) h = ap (λ (z : ℤ). (s *ℤ pos i) +ℤ z) (reach-append ss ts index (omega arith))

pub reach-take : (n : ℕ) (ss : List ℤ) (index : List ℕ) → length index ≤ n → reach (take n ss) index ≡ reach ss index
reach-take zero ss [] h = sym (reach-nil ss)
reach-take zero ss (i ∷ index) h = absurd (omega arith)
reach-take (suc n) [] index h = refl
reach-take (suc n) (s ∷ ss) [] h = refl
reach-take (suc n) (s ∷ ss) (i ∷ index) h = ap (λ (z : ℤ). (s *ℤ pos i) +ℤ z) (reach-take n ss index (omega arith))

-- ---- an index with one more number
pub reach-insert : (ss : List ℤ) (index : List ℕ) (axis i : ℕ) → axis < length ss → axis ≤ length index →
    reach ss (insert index axis i) ≡ (get_or ss axis (pos 0) *ℤ pos i) +ℤ reach (remove ss axis) index
reach-insert [] index axis i h k = absurd (omega arith)
reach-insert (s ∷ ss) index zero i h k = refl
reach-insert (s ∷ ss) [] (suc axis) i h k = absurd (omega arith)
reach-insert (s ∷ ss) (j ∷ index) (suc axis) i h k =
    omega (arith, ints, reach-insert ss index axis i (omega arith) (omega arith))

pub inside-insert : (ns index : List ℕ) (axis i : ℕ) → axis < length ns → i < get_or ns axis 0 →
    Inside (remove ns axis) index → Inside ns (insert index axis i)
inside-insert [] index axis i h k p = absurd (omega arith)
inside-insert (n ∷ ns) index zero i h k p = (k, p)
inside-insert (n ∷ ns) [] (suc axis) i h k p = absurd p
inside-insert (n ∷ ns) (j ∷ index) (suc axis) i h k p = (p.0, inside-insert ns index axis i (omega arith) k p.1)

pub remove-insert : (index : List ℕ) (axis i : ℕ) → axis ≤ length index → remove (insert index axis i) axis ≡ index
remove-insert index zero i h = refl
remove-insert [] (suc axis) i h = absurd (omega arith)
remove-insert (j ∷ index) (suc axis) i h = ap (λ (xs : List ℕ). j ∷ xs) (remove-insert index axis i (omega arith))

pub length-remove : {A : Type 0} (xs : List A) (axis : ℕ) → axis < length xs → length (remove xs axis) + 1 ≡ length xs
length-remove [] axis h = absurd (omega arith)
length-remove (x ∷ xs) zero h = omega arith
length-remove (x ∷ xs) (suc axis) h = omega (arith, length-remove xs axis (omega arith))

-- ---- an index with another number
pub reach-set : (ss : List ℤ) (index : List ℕ) (axis m : ℕ) (t c : ℤ) → axis < length ss → axis < length index →
    get_or ss axis (pos 0) *ℤ pos m ≡ c +ℤ (t *ℤ pos (get_or index axis 0)) →
    reach ss (set index axis m) ≡ c +ℤ reach (set ss axis t) index
reach-set [] index axis m t c h k e = absurd (omega arith)
reach-set (s ∷ ss) [] axis m t c h k e = absurd (omega arith)
reach-set (s ∷ ss) (j ∷ index) zero m t c h k e = omega (arith, ints, e)
reach-set (s ∷ ss) (j ∷ index) (suc axis) m t c h k e =
    omega (arith, ints, reach-set ss index axis m t c (omega arith) (omega arith) e)

pub inside-set : (ns index : List ℕ) (axis n m : ℕ) → axis < length ns → m < get_or ns axis 0 →
    Inside (set ns axis n) index → Inside ns (set index axis m)
inside-set [] index axis n m h k p = absurd (omega arith)
inside-set (o ∷ ns) [] zero n m h k p = absurd p
inside-set (o ∷ ns) [] (suc axis) n m h k p = absurd p
inside-set (o ∷ ns) (j ∷ index) zero n m h k p = (k, p.1)
inside-set (o ∷ ns) (j ∷ index) (suc axis) n m h k p = (p.0, inside-set ns index axis n m (omega arith) k p.1)

pub inside-at : (ns index : List ℕ) (axis : ℕ) → axis < length ns → Inside ns index →
    get_or index axis 0 < get_or ns axis 0
inside-at [] index axis h p = absurd (omega arith)
inside-at (n ∷ ns) [] axis h p = absurd p
inside-at (n ∷ ns) (i ∷ index) zero h p = p.0
inside-at (n ∷ ns) (i ∷ index) (suc axis) h p = inside-at ns index axis (omega arith) p.1

pub set-apart : (a b : List ℕ) (axis x y : ℕ) → axis < length a → axis < length b → set a axis x ≡ set b axis y →
    get_or a axis 0 ≡ get_or b axis 0 → a ≡ b
set-apart a b axis x y h k e p =
    sym (set-get_or a axis 0) ∙ sym (set-set a axis x (get_or a axis 0)) ∙
    ap (λ (xs : List ℕ). set xs axis (get_or a axis 0)) e ∙ set-set b axis y (get_or a axis 0) ∙
    ap (set b axis) p ∙ set-get_or b axis 0

-- ---- reversed indices
pub reverse-cons : {A : Type 0} (x : A) (xs : List A) → reverse (x ∷ xs) ≡ reverse xs ++ x ∷ []
reverse-cons x xs = reverse_onto xs x []

reach-snoc : (ss : List ℤ) (index : List ℕ) (s : ℤ) (i : ℕ) → length ss ≡ length index →
    reach (ss ++ s ∷ []) (index ++ i ∷ []) ≡ reach ss index +ℤ (s *ℤ pos i)
reach-snoc [] [] s i h = omega (arith, ints)
reach-snoc [] (j ∷ index) s i h = absurd (omega arith)
reach-snoc (t ∷ ss) [] s i h = absurd (omega arith)
reach-snoc (t ∷ ss) (j ∷ index) s i h = omega (arith, ints, reach-snoc ss index s i (omega arith))

pub reach-reverse : (ss : List ℤ) (index : List ℕ) → length ss ≡ length index →
    reach (reverse ss) (reverse index) ≡ reach ss index
reach-reverse [] [] h = refl
reach-reverse [] (j ∷ index) h = absurd (omega arith)
reach-reverse (t ∷ ss) [] h = absurd (omega arith)
reach-reverse (t ∷ ss) (j ∷ index) h =
    let e : length (reverse ss) ≡ length (reverse index) = omega (arith, length-reverse ss, length-reverse index) in
    let both : reach (reverse ss ++ t ∷ []) (reverse index ++ j ∷ []) ≡
    reach (reverse ss) (reverse index) +ℤ (t *ℤ pos j) = reach-snoc (reverse ss) (reverse index) t j e in
    ap (λ (xs : List ℤ). reach xs (reverse (j ∷ index))) (reverse-cons t ss) ∙
    ap (reach (reverse ss ++ t ∷ [])) (reverse-cons j index) ∙
    omega (arith, ints, both, reach-reverse ss index (omega arith))

inside-snoc : (ns index : List ℕ) (n i : ℕ) → i < n → Inside ns index → Inside (ns ++ n ∷ []) (index ++ i ∷ [])
inside-snoc [] [] n i h p = (h, tt)
inside-snoc [] (j ∷ index) n i h p = absurd p
inside-snoc (m ∷ ns) [] n i h p = absurd p
inside-snoc (m ∷ ns) (j ∷ index) n i h p = (p.0, inside-snoc ns index n i h p.1)

inside-reverse_only : (ns index : List ℕ) → Inside ns index → Inside (reverse ns) (reverse index)
inside-reverse_only [] [] p = tt
inside-reverse_only [] (j ∷ index) p = absurd p
inside-reverse_only (m ∷ ns) [] p = absurd p
inside-reverse_only (m ∷ ns) (j ∷ index) p =
    subst (λ (xs : List ℕ). Inside xs (reverse (j ∷ index))) (sym (reverse-cons m ns))
    (subst (Inside (reverse ns ++ m ∷ [])) (sym (reverse-cons j index))
    (inside-snoc (reverse ns) (reverse index) m j p.0 (inside-reverse_only ns index p.1)))

pub inside-reverse : (ns index : List ℕ) → Inside (reverse ns) index → Inside ns (reverse index)
inside-reverse ns index p = subst (λ (xs : List ℕ). Inside xs (reverse index)) (reverse-reverse ns)
    (inside-reverse_only (reverse ns) index p)

-- ---- missing dimensions and dimensions of extent 1
pub reach-missing : (m : ℕ) (ss : List ℤ) (index : List ℕ) →
    reach (replicate m (pos 0) ++ ss) index ≡ reach ss (drop m index)
reach-missing zero ss index = refl
reach-missing (suc m) ss [] = sym (reach-nil ss)
reach-missing (suc m) ss (i ∷ index) = omega (arith, ints, reach-missing m ss index)

below-one : (n i m : ℕ) (t : Bool) → eqb n 1 ≡ t → i < m → (n ≡ 1) ⊎ (n ≡ m) → cond t 0 i < n
below-one n i m true e h f = omega (arith, eqb-true n 1 e)
below-one n i m false e h (inl f) = absurd (omega (arith, eqb-false n 1 e))
below-one n i m false e h (inr f) = omega arith

pub inside-clipped : (ns ms index : List ℕ) → Fits ns ms → length ns ≡ length ms → Inside ms index →
    Inside ns (clipped ns index)
inside-clipped [] ms index f e p = tt
inside-clipped (n ∷ ns) [] index f e p = absurd f
inside-clipped (n ∷ ns) (m ∷ ms) [] f e p = absurd p
inside-clipped (n ∷ ns) (m ∷ ms) (i ∷ index) f e p =
    (below-one n i m (eqb n 1) refl p.0 f.0, inside-clipped ns ms index f.1 (omega arith) p.1)

-- no stride is other than 0 along an extent of 1
abbrev pub Still : List ℕ → List ℤ → Type 0
Still extent stride = (axis : ℕ) → get_or extent axis 1 ≡ 1 → get_or stride axis (pos 0) ≡ pos 0

still-tail : (n : ℕ) (ns : List ℕ) (s : ℤ) (ss : List ℤ) → Still (n ∷ ns) (s ∷ ss) → Still ns ss
still-tail n ns s ss h axis e = h (suc axis) e

clipped-step : (n i : ℕ) (s : ℤ) (t : Bool) → eqb n 1 ≡ t → (n ≡ 1 → s ≡ pos 0) → s *ℤ pos (cond t 0 i) ≡ s *ℤ pos i
clipped-step n i s true e h = let z : s ≡ pos 0 = h (eqb-true n 1 e) in
    let same : pos 0 *ℤ pos 0 ≡ pos 0 *ℤ pos i = omega (arith, ints) in ap (λ (x : ℤ). x *ℤ pos 0) z ∙ same ∙
    ap (λ (x : ℤ). x *ℤ pos i) (sym z)
clipped-step n i s false e h = refl

pub reach-clipped : (ns : List ℕ) (ss : List ℤ) (index : List ℕ) → Still ns ss → length index ≤ length ns →
    reach ss (clipped ns index) ≡ reach ss index
reach-clipped [] ss [] h l = refl
reach-clipped [] ss (i ∷ index) h l = absurd (omega arith)
reach-clipped (n ∷ ns) ss [] h l = refl
reach-clipped (n ∷ ns) [] (i ∷ index) h l = refl
reach-clipped (n ∷ ns) (s ∷ ss) (i ∷ index) h l =
    omega (
      arith,
      ints,
      clipped-step n i s (eqb n 1) refl (h 0),
      reach-clipped ns ss index (still-tail n ns s ss h) (omega arith),
    )

-- ---- consecutive places
pub count-append : (ns ms : List ℕ) → element_count (ns ++ ms) ≡ element_count ns * element_count ms
count-append [] ms = omega arith
count-append (n ∷ ns) ms = ap (λ (c : ℕ). n * c) (count-append ns ms) ∙
    sym (mul_assoc n (element_count ns) (element_count ms))

pub reach-weights : (ns ms index : List ℕ) → element_count ms ≡ 1 → length index ≡ length ns →
    reach (weights (ns ++ ms)) index ≡ pos (order_of ns index)
reach-weights [] ms [] e l = reach-nil (weights ms)
reach-weights [] ms (i ∷ index) e l = absurd (omega arith)
reach-weights (n ∷ ns) ms [] e l = absurd (omega arith)
reach-weights (n ∷ ns) ms (i ∷ index) e l =
    let c : element_count (ns ++ ms) ≡ element_count ns = count-append ns ms ∙ ap (λ (k : ℕ). element_count ns * k) e ∙
    mul-one (element_count ns) in
    ap (λ (k : ℕ). (pos k *ℤ pos i) +ℤ reach (weights (ns ++ ms)) index) c ∙
    ap (λ (z : ℤ). (pos (element_count ns) *ℤ pos i) +ℤ z) (reach-weights ns ms index e (omega arith)) ∙
    ap (λ (k : ℕ). pos (k + order_of ns index)) (mul_comm (element_count ns) i)

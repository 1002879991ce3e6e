-- Lists of four entries, written out, and bounds on products.
use Rattle.std.proofs.Common.{◌≡◌, ℕ, zero, suc, ◌*◌, ◌^◌, ◌<◌, ◌≤◌, List, [], ◌∷◌, length, get_or, take, refl, ap, ap₂}
use Rattle.std.proofs.Common.{◌∙◌, arith, ℤ, pos, ◌+ℤ◌, ◌*ℤ◌, unsigned_abs, mul-le-mul, lt_of_le_of_lt, SFits, w64}
use Rattle.std.proofs.lemmas.Int.{ints, unsigned_abs-mul}
use Rattle.view_places.specs.Arrays.{element_count}
use Rattle.view_places.specs.Strides.{reach, led_to, weights}
use Rattle.view_places.proofs.Reach.{reach-nil}

pub mul-below : (a b M N L : ℕ) → a ≤ M → b ≤ N → M * N < L → a * b < L
mul-below a b M N L h k m = lt_of_le_of_lt (mul-le-mul h k) m

pub four-same : {A : Type 0} (xs : List A) (o a b c d : A) → length xs ≡ 4 → a ≡ get_or xs 0 o → b ≡ get_or xs 1 o →
    c ≡ get_or xs 2 o → d ≡ get_or xs 3 o → a ∷ b ∷ c ∷ d ∷ [] ≡ xs
four-same [] o a b c d l p q r s = absurd (omega arith)
four-same (x ∷ []) o a b c d l p q r s = absurd (omega arith)
four-same (x ∷ y ∷ []) o a b c d l p q r s = absurd (omega arith)
four-same (x ∷ y ∷ z ∷ []) o a b c d l p q r s = absurd (omega arith)
four-same (x ∷ y ∷ z ∷ w ∷ []) o a b c d l p q r s = cc
four-same (x ∷ y ∷ z ∷ w ∷ v ∷ xs) o a b c d l p q r s = absurd (omega arith)

pub four-count : (xs : List ℕ) (f p : ℕ) → length xs ≡ 4 → f ≡ get_or xs 0 0 →
    p ≡ get_or xs 1 0 * get_or xs 2 0 * get_or xs 3 0 → f * p ≡ element_count xs
four-count xs f p l e g = ap₂ (λ (x y : ℕ). x * y) e g ∙ written xs l
  where
    written : (xs : List ℕ) → length xs ≡ 4 →
        get_or xs 0 0 * (get_or xs 1 0 * get_or xs 2 0 * get_or xs 3 0) ≡ element_count xs
    written [] l = absurd (omega arith)
    written (x ∷ []) l = absurd (omega arith)
    written (x ∷ y ∷ []) l = absurd (omega arith)
    written (x ∷ y ∷ z ∷ []) l = absurd (omega arith)
    written (x ∷ y ∷ z ∷ w ∷ []) l = omega arith
    written (x ∷ y ∷ z ∷ w ∷ v ∷ xs) l = absurd (omega arith)

pub four-weights : (xs : List ℕ) (a b c d : ℤ) → length xs ≡ 4 →
    a ≡ pos (get_or xs 1 0 * get_or xs 2 0 * get_or xs 3 0) → b ≡ pos (1 * get_or xs 2 0 * get_or xs 3 0) →
    c ≡ pos (1 * 1 * get_or xs 3 0) → d ≡ pos 1 → a ∷ b ∷ c ∷ d ∷ [] ≡ weights xs
four-weights [] a b c d l p q r s = absurd (omega arith)
four-weights (x ∷ []) a b c d l p q r s = absurd (omega arith)
four-weights (x ∷ y ∷ []) a b c d l p q r s = absurd (omega arith)
four-weights (x ∷ y ∷ z ∷ []) a b c d l p q r s = absurd (omega arith)
four-weights (x ∷ y ∷ z ∷ w ∷ []) a b c d l p q r s =
    let first : a ≡ pos (y * (z * (w * 1))) = omega (arith, ints, p) in
    let second : b ≡ pos (z * (w * 1)) = omega (arith, ints, q) in
    let third : c ≡ pos (w * 1) = omega (arith, ints, r) in
    cc
four-weights (x ∷ y ∷ z ∷ w ∷ v ∷ xs) a b c d l p q r s = absurd (omega arith)

pub four-led : (o r a b c d : ℤ) (ss : List ℤ) (ns : List ℕ) → length ss ≡ 4 → length ns ≡ 4 →
    a ≡ get_or ss 0 (pos 0) *ℤ pos (get_or ns 0 0) → b ≡ get_or ss 1 (pos 0) *ℤ pos (get_or ns 1 0) →
    c ≡ get_or ss 2 (pos 0) *ℤ pos (get_or ns 2 0) → d ≡ get_or ss 3 (pos 0) *ℤ pos (get_or ns 3 0) →
    r ≡ o +ℤ (a +ℤ (b +ℤ (c +ℤ d))) → r ≡ led_to o ss ns
four-led o r a b c d ss ns l k p q s t e =
    e ∙ ap (λ (z : ℤ). o +ℤ z) (ap₂ (λ (x y : ℤ). x +ℤ y) p
    (ap₂ (λ (x y : ℤ). x +ℤ y) q (ap₂ (λ (x y : ℤ). x +ℤ y) s t)) ∙ written ss ns l k)
  where
    last : (ss : List ℤ) (ns : List ℕ) → length ss ≡ 1 → length ns ≡ 1 →
        get_or ss 0 (pos 0) *ℤ pos (get_or ns 0 0) ≡ reach ss ns
    last [] ns l k = absurd (omega arith)
    last (s ∷ ss) [] l k = absurd (omega arith)
    last (s ∷ []) (n ∷ ns) l k = omega (arith, ints)
    last (s ∷ t ∷ ss) (n ∷ ns) l k = absurd (omega arith)

    third : (ss : List ℤ) (ns : List ℕ) → length ss ≡ 2 → length ns ≡ 2 →
        (get_or ss 0 (pos 0) *ℤ pos (get_or ns 0 0)) +ℤ (get_or ss 1 (pos 0) *ℤ pos (get_or ns 1 0)) ≡ reach ss ns
    third [] ns l k = absurd (omega arith)
    third (s ∷ ss) [] l k = absurd (omega arith)
    third (s ∷ ss) (n ∷ ns) l k = ap (λ (z : ℤ). (s *ℤ pos n) +ℤ z) (last ss ns (omega arith) (omega arith))

    second : (ss : List ℤ) (ns : List ℕ) → length ss ≡ 3 → length ns ≡ 3 →
        (get_or ss 0 (pos 0) *ℤ pos (get_or ns 0 0)) +ℤ
        ((get_or ss 1 (pos 0) *ℤ pos (get_or ns 1 0)) +ℤ (get_or ss 2 (pos 0) *ℤ pos (get_or ns 2 0))) ≡ reach ss ns
    second [] ns l k = absurd (omega arith)
    second (s ∷ ss) [] l k = absurd (omega arith)
    second (s ∷ ss) (n ∷ ns) l k = ap (λ (z : ℤ). (s *ℤ pos n) +ℤ z) (third ss ns (omega arith) (omega arith))

    written : (ss : List ℤ) (ns : List ℕ) → length ss ≡ 4 → length ns ≡ 4 →
        (get_or ss 0 (pos 0) *ℤ pos (get_or ns 0 0)) +ℤ
        ((get_or ss 1 (pos 0) *ℤ pos (get_or ns 1 0)) +ℤ
        ((get_or ss 2 (pos 0) *ℤ pos (get_or ns 2 0)) +ℤ (get_or ss 3 (pos 0) *ℤ pos (get_or ns 3 0)))) ≡
        reach ss ns
    written [] ns l k = absurd (omega arith)
    written (s ∷ ss) [] l k = absurd (omega arith)
    written (s ∷ ss) (n ∷ ns) l k = ap (λ (z : ℤ). (s *ℤ pos n) +ℤ z) (second ss ns (omega arith) (omega arith))

-- strides that are 0 from the rank on
pub reach-rank : (r : ℕ) (ss : List ℤ) (index : List ℕ) → ((axis : ℕ) → r ≤ axis → get_or ss axis (pos 0) ≡ pos 0) →
    reach ss index ≡ reach ss (take r index)
reach-rank r [] index h = refl
reach-rank zero (s ∷ ss) [] h = refl
reach-rank zero (s ∷ ss) (i ∷ index) h =
    let none : s ≡ pos 0 = h 0 (omega arith) in
    let rest : reach ss index ≡ reach ss [] = reach-rank zero ss index (λ axis k. h (suc axis) (omega arith)) in
    ap (λ (z : ℤ). (z *ℤ pos i) +ℤ reach ss index) none ∙ nothing (reach ss index) i (rest ∙ reach-nil ss)
  where
    nothing : (z : ℤ) (i : ℕ) → z ≡ pos 0 → (pos 0 *ℤ pos i) +ℤ z ≡ pos 0
    nothing z i e = omega (arith, ints, e)
reach-rank (suc r) (s ∷ ss) [] h = refl
reach-rank (suc r) (s ∷ ss) (i ∷ index) h =
    ap (λ (z : ℤ). (s *ℤ pos i) +ℤ z) (reach-rank r ss index (λ axis k. h (suc axis) (omega arith)))

pub led-size : (r s t : ℤ) (m : ℕ) → r ≡ s *ℤ t → SFits w64 s → unsigned_abs t ≤ m → unsigned_abs r ≤ 2 ^ 63 * m
led-size r s t m e h k =
    let size : unsigned_abs r ≡ unsigned_abs s * unsigned_abs t = ap unsigned_abs e ∙ unsigned_abs-mul s t in
    let few : unsigned_abs s ≤ 2 ^ 63 = omega (arith, ints, h) in
    let most : unsigned_abs s * unsigned_abs t ≤ 2 ^ 63 * m = mul-le-mul few k in
    omega arith

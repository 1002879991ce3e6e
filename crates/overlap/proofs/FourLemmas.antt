-- Four dimensions, written out.
use Rattle.std.proofs.Common.{◌≡◌, ℕ, zero, suc, pred, List, [], ◌∷◌, length, get_or, Bool, true, false, ◌&&◌, ◌||◌}
use Rattle.std.proofs.Common.{cond, eqb, ltb, leb, refl, sym, ap, ap₂, ◌∙◌, arith, eqb-true, ℤ, pos, ◌+ℤ◌, ◌*ℤ◌}
use Rattle.std.proofs.Common.{unsigned_abs}
use Rattle.std.proofs.lemmas.Int.{ints}
use Rattle.std.specs.List.{zip}
use Rattle.std.specs.Ordering.{int_eq}
use Rattle.view_places.specs.Rows.{rows}
use Rattle.overlap.specs.Dimensions.{is_zero, fall, climb, low, high, rises_here, rises_by, lacks}
use Rattle.overlap.specs.Divisors.{gcd}
use Rattle.overlap.specs.Spans.{is_empty, least, greatest, rises}
use Rattle.overlap.specs.Verdicts.{divisor, are_alike}
use Rattle.overlap.proofs.SpanLemmas.{none-rows, least-rows, greatest-rows, rises-rows}

four : {A : Type 0} (xs : List A) (d : A) → length xs ≡ 4 →
    xs ≡ get_or xs 0 d ∷ get_or xs 1 d ∷ get_or xs 2 d ∷ get_or xs 3 d ∷ []
four [] d l = absurd (omega arith)
four (x ∷ []) d l = absurd (omega arith)
four (x ∷ y ∷ []) d l = absurd (omega arith)
four (x ∷ y ∷ z ∷ []) d l = absurd (omega arith)
four (x ∷ y ∷ z ∷ w ∷ []) d l = refl
four (x ∷ y ∷ z ∷ w ∷ v ∷ xs) d l = absurd (omega arith)

zero-test : (n : ℕ) → eqb n 0 ≡ is_zero n
zero-test zero = refl
zero-test (suc n) = test (eqb (suc n) 0) refl
  where
    test : (t : Bool) → eqb (suc n) 0 ≡ t → t ≡ false
    test true e = absurd (omega (arith, eqb-true (suc n) 0 e))
    test false e = refl

pub four-sum : (r m i a b c d : ℤ) → i ≡ c +ℤ d → m ≡ b +ℤ i → r ≡ a +ℤ m → r ≡ a +ℤ (b +ℤ (c +ℤ (d +ℤ pos 0)))
four-sum r m i a b c d p q t = t ∙ ap (λ (v : ℤ). a +ℤ v)
    (q ∙ ap (λ (v : ℤ). b +ℤ v) (p ∙ ap (λ (v : ℤ). c +ℤ v) (no-more d)))
  where
    no-more : (d : ℤ) → d ≡ d +ℤ pos 0
    no-more d = omega (arith, ints)

module _ (es : List ℕ) (ss : List ℤ) (four_es : length es ≡ 4) (four_ss : length ss ≡ 4) where
  abbrev e0 : ℕ
  e0 = get_or es 0 0

  abbrev e1 : ℕ
  e1 = get_or es 1 0

  abbrev e2 : ℕ
  e2 = get_or es 2 0

  abbrev e3 : ℕ
  e3 = get_or es 3 0

  abbrev s0 : ℤ
  s0 = get_or ss 0 (pos 0)

  abbrev s1 : ℤ
  s1 = get_or ss 1 (pos 0)

  abbrev s2 : ℤ
  s2 = get_or ss 2 (pos 0)

  abbrev s3 : ℤ
  s3 = get_or ss 3 (pos 0)

  abbrev dims : List (ℕ × ℤ)
  dims = (e0, s0) ∷ (e1, s1) ∷ (e2, s2) ∷ (e3, s3) ∷ []

  written : dims ≡ zip es ss
  written = sym (ap₂ (λ (xs : List ℕ) (ys : List ℤ). zip xs ys) (four es 0 four_es) (four ss (pos 0) four_ss))

  pub four-empty : (o : ℤ) (r : Bool) → r ≡ (eqb e0 0 || (eqb e1 0 || (eqb e2 0 || (eqb e3 0 || false)))) →
      r ≡ is_empty (rows (zip es ss) o)
  four-empty o r h =
      h ∙ ap₂ (λ (a b : Bool). a || b) (zero-test e0)
      (ap₂ (λ (a b : Bool). a || b) (zero-test e1)
      (ap₂ (λ (a b : Bool). a || b) (zero-test e2) (ap (λ (a : Bool). a || false) (zero-test e3)))) ∙
      ap lacks written ∙ sym (none-rows (zip es ss) o)

  some : (o : ℤ) → is_empty (rows (zip es ss) o) ≡ false → lacks (zip es ss) ≡ false
  some o h = sym (none-rows (zip es ss) o) ∙ h

  pub four-least : (o r z a b c d : ℤ) → is_empty (rows (zip es ss) o) ≡ false → a ≡ fall (pred e0) s0 →
      b ≡ fall (pred e1) s1 → c ≡ fall (pred e2) s2 → d ≡ fall (pred e3) s3 →
      z ≡ a +ℤ (b +ℤ (c +ℤ (d +ℤ pos 0))) → r ≡ o +ℤ z → r ≡ least (rows (zip es ss) o)
  four-least o r z a b c d h p q t u s e =
      e ∙ ap (λ (v : ℤ). o +ℤ v) (s ∙ ap₂ (λ (x y : ℤ). x +ℤ y) p
      (ap₂ (λ (x y : ℤ). x +ℤ y) q (ap₂ (λ (x y : ℤ). x +ℤ y) t (ap (λ (x : ℤ). x +ℤ pos 0) u)))) ∙
      ap (λ (ds : List (ℕ × ℤ)). o +ℤ low ds) written ∙ sym (least-rows (zip es ss) o (some o h))

  pub four-greatest : (o r z a b c d : ℤ) → is_empty (rows (zip es ss) o) ≡ false → a ≡ climb (pred e0) s0 →
      b ≡ climb (pred e1) s1 → c ≡ climb (pred e2) s2 → d ≡ climb (pred e3) s3 →
      z ≡ a +ℤ (b +ℤ (c +ℤ (d +ℤ pos 0))) → r ≡ o +ℤ z → r ≡ greatest (rows (zip es ss) o)
  four-greatest o r z a b c d h p q t u s e =
      e ∙ ap (λ (v : ℤ). o +ℤ v) (s ∙ ap₂ (λ (x y : ℤ). x +ℤ y) p
      (ap₂ (λ (x y : ℤ). x +ℤ y) q (ap₂ (λ (x y : ℤ). x +ℤ y) t (ap (λ (x : ℤ). x +ℤ pos 0) u)))) ∙
      ap (λ (ds : List (ℕ × ℤ)). o +ℤ high ds) written ∙ sym (greatest-rows (zip es ss) o (some o h))

  pub four-rises : (o : ℤ) (r : Bool) (x y a b c : ℤ) → is_empty (rows (zip es ss) o) ≡ false →
      a ≡ s1 *ℤ pos (pred e1) → b ≡ s2 *ℤ pos (pred e2) → c ≡ s3 *ℤ pos (pred e3) →
      x ≡ a +ℤ (b +ℤ (c +ℤ pos 0)) → y ≡ b +ℤ (c +ℤ pos 0) →
      r ≡ (rises_here e0 s0 x && (rises_here e1 s1 y && (rises_here e2 s2 c && (rises_here e3 s3 (pos 0) && true)))) →
      r ≡ rises (rows (zip es ss) o)
  four-rises o r x y a b c h p q t f g e =
      let third : c ≡ (s3 *ℤ pos (pred e3)) +ℤ pos 0 = no-more c ∙ ap (λ (v : ℤ). v +ℤ pos 0) t in
      let second : y ≡ (s2 *ℤ pos (pred e2)) +ℤ ((s3 *ℤ pos (pred e3)) +ℤ pos 0) = g ∙
      ap₂ (λ (v w : ℤ). v +ℤ w) q (ap (λ (v : ℤ). v +ℤ pos 0) t) in
      let first : x ≡ (s1 *ℤ pos (pred e1)) +ℤ ((s2 *ℤ pos (pred e2)) +ℤ ((s3 *ℤ pos (pred e3)) +ℤ pos 0)) =
      f ∙ ap₂ (λ (v w : ℤ). v +ℤ w) p (ap₂ (λ (v w : ℤ). v +ℤ w) q (ap (λ (v : ℤ). v +ℤ pos 0) t)) in
      e ∙ ap₂ (λ (a b : Bool). a && b) (ap (rises_here e0 s0) first)
      (ap₂ (λ (a b : Bool). a && b) (ap (rises_here e1 s1) second)
      (ap (λ (v : ℤ). rises_here e2 s2 v && (rises_here e3 s3 (pos 0) && true)) third)) ∙
      ap rises_by written ∙ sym (rises-rows (zip es ss) o (some o h))
    where
      no-more : (c : ℤ) → c ≡ c +ℤ pos 0
      no-more c = omega (arith, ints)

  abbrev joined : ℕ → ℕ → ℤ → ℕ
  joined g n s = cond (ltb 1 n) (gcd g (unsigned_abs s)) g

  pub four-divisor : (a b c d : ℕ) → a ≡ joined 0 e3 s3 → b ≡ joined a e2 s2 → c ≡ joined b e1 s1 →
      d ≡ joined c e0 s0 → d ≡ divisor (zip es ss)
  four-divisor a b c d p q t u =
      u ∙ ap (λ (g : ℕ). joined g e0 s0) (t ∙ ap (λ (g : ℕ). joined g e1 s1) (q ∙ ap (λ (g : ℕ). joined g e2 s2) p)) ∙
      ap divisor written

pub four-alike : (es fs : List ℕ) (ss ts : List ℤ) → length es ≡ 4 → length fs ≡ 4 → length ss ≡ 4 → length ts ≡ 4 →
    (r : Bool) →
    r ≡ ((leb (get_or es 0 0) 1 || int_eq (get_or ss 0 (pos 0)) (get_or ts 0 (pos 0))) &&
    ((leb (get_or es 1 0) 1 || int_eq (get_or ss 1 (pos 0)) (get_or ts 1 (pos 0))) &&
    ((leb (get_or es 2 0) 1 || int_eq (get_or ss 2 (pos 0)) (get_or ts 2 (pos 0))) &&
    ((leb (get_or es 3 0) 1 || int_eq (get_or ss 3 (pos 0)) (get_or ts 3 (pos 0))) && true)))) →
    r ≡ are_alike (zip es ss) (zip fs ts)
four-alike es fs ss ts a b c d r h = h ∙ ap₂ are_alike (written es ss a c) (written fs ts b d)

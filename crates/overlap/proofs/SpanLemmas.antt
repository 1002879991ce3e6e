-- The least, the greatest, the first and the last of rows, and when rows rise.
use Rattle.std.proofs.Common.{◌≡◌, ℕ, zero, suc, ◌*◌, List, [], ◌∷◌, ◌++◌, Bool, true, false, ◌&&◌}
use Rattle.std.proofs.Common.{◌||◌, refl, ap, ap₂, ◌∙◌, arith, append-nil, ℤ, pos, negsuc, neg_ℤ, ◌+ℤ◌, ◌*ℤ◌}
use Rattle.std.proofs.Common.{◌≤ℤ◌, int_lt}
use Rattle.std.proofs.lemmas.Int.{ints, clamps}
use Rattle.std.specs.Int.{int_min, int_max}
use Rattle.std.proofs.Math.IntN.{pos-*ℤ-pos, negsuc-*ℤ-pos}
use Rattle.view_places.specs.Rows.{turns, rows}
use Rattle.overlap.specs.Dimensions.{is_zero, fall, climb, low, high, span, rises_by, lacks}
use Rattle.overlap.specs.Spans.{is_empty, first_of, least, greatest, rises}

-- ---- an element
none-append : (xs ys : List ℤ) → is_empty (xs ++ ys) ≡ (is_empty xs && is_empty ys)
none-append [] ys = refl
none-append (x ∷ xs) ys = refl

none-turns : (n : ℕ) (s : ℤ) (row : ℤ → List ℤ) (o : ℤ) (b : Bool) → ((p : ℤ) → is_empty (row p) ≡ b) →
    is_empty (turns n s row o) ≡ (is_zero n || b)
none-turns zero s row o b h = refl
none-turns (suc n) s row o b h =
    none-append (row o) (turns n s row (o +ℤ s)) ∙
    ap₂ (λ (x y : Bool). x && y) (h o) (none-turns n s row (o +ℤ s) b h) ∙ absorbed b (is_zero n)
  where
    absorbed : (b z : Bool) → (b && (z || b)) ≡ b
    absorbed true true = refl
    absorbed true false = refl
    absorbed false z = refl

pub none-rows : (ds : List (ℕ × ℤ)) (o : ℤ) → is_empty (rows ds o) ≡ lacks ds
none-rows [] o = refl
none-rows (d ∷ ds) o = none-turns d.0 d.1 (rows ds) o (lacks ds) (λ p. none-rows ds p)

some-turns : (n : ℕ) (s : ℤ) (row : ℤ → List ℤ) (o : ℤ) → ((p : ℤ) → is_empty (row p) ≡ false) →
    is_empty (turns (suc n) s row o) ≡ false
some-turns n s row o h = none-turns (suc n) s row o false h

-- ---- the first and the last
first-append : (xs ys : List ℤ) → is_empty xs ≡ false → first_of (xs ++ ys) ≡ first_of xs
first-append [] ys h = cc
first-append (x ∷ xs) ys h = refl

pub first-turns : (n : ℕ) (s : ℤ) (row : ℤ → List ℤ) (o : ℤ) → ((p : ℤ) → is_empty (row p) ≡ false) →
    ((p : ℤ) → first_of (row p) ≡ p) → first_of (turns (suc n) s row o) ≡ o
first-turns n s row o k h = first-append (row o) (turns n s row (o +ℤ s)) (k o) ∙ h o

pub first-rows : (ds : List (ℕ × ℤ)) (o : ℤ) → lacks ds ≡ false → first_of (rows ds o) ≡ o
first-rows [] o h = refl
first-rows ((zero, s) ∷ ds) o h = cc
first-rows ((suc n, s) ∷ ds) o h = first-turns n s (rows ds) o (λ p. none-rows ds p ∙ h) (λ p. first-rows ds p h)

abbrev last_of : List ℤ → ℤ
last_of [] = pos 0
last_of (x ∷ []) = x
last_of (x ∷ y ∷ xs) = last_of (y ∷ xs)

last-append : (xs ys : List ℤ) → is_empty ys ≡ false → last_of (xs ++ ys) ≡ last_of ys
last-append [] ys h = refl
last-append (x ∷ []) [] h = cc
last-append (x ∷ []) (y ∷ ys) h = refl
last-append (x ∷ y ∷ xs) ys h = last-append (y ∷ xs) ys h

no-steps : (o s l : ℤ) → o +ℤ l ≡ o +ℤ ((s *ℤ pos 0) +ℤ l)
no-steps o s l = omega (arith, ints)

more-steps : (o s l : ℤ) (n : ℕ) → (o +ℤ s) +ℤ ((s *ℤ pos n) +ℤ l) ≡ o +ℤ ((s *ℤ pos (suc n)) +ℤ l)
more-steps o s l n = omega (arith, ints)

last-turns : (n : ℕ) (s : ℤ) (row : ℤ → List ℤ) (o l : ℤ) → ((p : ℤ) → is_empty (row p) ≡ false) →
    ((p : ℤ) → last_of (row p) ≡ p +ℤ l) →
    last_of (turns (suc n) s row o) ≡ o +ℤ ((s *ℤ pos n) +ℤ l)
last-turns zero s row o l k h = ap last_of (append-nil (row o)) ∙ h o ∙ no-steps o s l
last-turns (suc n) s row o l k h =
    last-append (row o) (turns (suc n) s row (o +ℤ s)) (some-turns n s row (o +ℤ s) k) ∙
    last-turns n s row (o +ℤ s) l k h ∙ more-steps o s l n

last-rows : (ds : List (ℕ × ℤ)) (o : ℤ) → lacks ds ≡ false → last_of (rows ds o) ≡ o +ℤ span ds
last-rows [] o h = nothing o
  where
    nothing : (o : ℤ) → o ≡ o +ℤ pos 0
    nothing o = omega (arith, ints)
last-rows ((zero, s) ∷ ds) o h = cc
last-rows ((suc n, s) ∷ ds) o h = last-turns n s (rows ds) o (span ds) (λ p. none-rows ds p ∙ h) (λ p. last-rows ds p h)

-- ---- the least
least-append : (xs ys : List ℤ) → is_empty xs ≡ false → is_empty ys ≡ false →
    least (xs ++ ys) ≡ int_min (least xs) (least ys)
least-append [] ys h k = cc
least-append (x ∷ []) [] h k = cc
least-append (x ∷ []) (y ∷ ys) h k = refl
least-append (x ∷ y ∷ xs) ys h k = ap (int_min x) (least-append (y ∷ xs) ys refl k) ∙
    regrouped x (least (y ∷ xs)) (least ys)
  where
    regrouped : (x a b : ℤ) → int_min x (int_min a b) ≡ int_min (int_min x a) b
    regrouped x a b = omega (arith, ints, clamps)

least-first : (o l s : ℤ) → o +ℤ l ≡ o +ℤ (fall 0 s +ℤ l)
least-first o l (pos s) = omega (arith, ints)
least-first o l (negsuc s) = no-steps o (negsuc s) l

falls : (s n : ℕ) → (negsuc s *ℤ pos n) ≤ℤ pos 0
falls s n =
    let product : (negsuc s *ℤ pos n) ≡ neg_ℤ (pos (suc s * n)) = negsuc-*ℤ-pos s n in
    omega (arith, ints, product)

least-step : (o l s : ℤ) (n : ℕ) → int_min (o +ℤ l) ((o +ℤ s) +ℤ (fall n s +ℤ l)) ≡ o +ℤ (fall (suc n) s +ℤ l)
least-step o l (pos s) n = omega (arith, ints, clamps)
least-step o l (negsuc s) n =
    let below : (negsuc s *ℤ pos n) ≤ℤ pos 0 = falls s n in
    let more : (o +ℤ negsuc s) +ℤ ((negsuc s *ℤ pos n) +ℤ l) ≡ o +ℤ ((negsuc s *ℤ pos (suc n)) +ℤ l) =
    more-steps o (negsuc s) l n in
    omega (arith, ints, clamps, below, more)

least-turns : (n : ℕ) (s : ℤ) (row : ℤ → List ℤ) (o l : ℤ) → ((p : ℤ) → is_empty (row p) ≡ false) →
    ((p : ℤ) → least (row p) ≡ p +ℤ l) →
    least (turns (suc n) s row o) ≡ o +ℤ (fall n s +ℤ l)
least-turns zero s row o l k h = ap least (append-nil (row o)) ∙ h o ∙ least-first o l s
least-turns (suc n) s row o l k h =
    least-append (row o) (turns (suc n) s row (o +ℤ s)) (k o) (some-turns n s row (o +ℤ s) k) ∙
    ap₂ int_min (h o) (least-turns n s row (o +ℤ s) l k h) ∙ least-step o l s n

pub least-rows : (ds : List (ℕ × ℤ)) (o : ℤ) → lacks ds ≡ false → least (rows ds o) ≡ o +ℤ low ds
least-rows [] o h = nothing o
  where
    nothing : (o : ℤ) → o ≡ o +ℤ pos 0
    nothing o = omega (arith, ints)
least-rows ((zero, s) ∷ ds) o h = cc
least-rows ((suc n, s) ∷ ds) o h = least-turns n s (rows ds) o (low ds) (λ p. none-rows ds p ∙ h)
    (λ p. least-rows ds p h)

-- ---- the greatest
greatest-append : (xs ys : List ℤ) → is_empty xs ≡ false → is_empty ys ≡ false →
    greatest (xs ++ ys) ≡ int_max (greatest xs) (greatest ys)
greatest-append [] ys h k = cc
greatest-append (x ∷ []) [] h k = cc
greatest-append (x ∷ []) (y ∷ ys) h k = refl
greatest-append (x ∷ y ∷ xs) ys h k = ap (int_max x) (greatest-append (y ∷ xs) ys refl k) ∙
    regrouped x (greatest (y ∷ xs)) (greatest ys)
  where
    regrouped : (x a b : ℤ) → int_max x (int_max a b) ≡ int_max (int_max x a) b
    regrouped x a b = omega (arith, ints, clamps)

greatest-first : (o l s : ℤ) → o +ℤ l ≡ o +ℤ (climb 0 s +ℤ l)
greatest-first o l (pos s) = no-steps o (pos s) l
greatest-first o l (negsuc s) = omega (arith, ints)

climbs : (s n : ℕ) → pos 0 ≤ℤ (pos s *ℤ pos n)
climbs s n =
    let product : (pos s *ℤ pos n) ≡ pos (s * n) = pos-*ℤ-pos s n in
    omega (arith, ints, product)

greatest-step : (o l s : ℤ) (n : ℕ) → int_max (o +ℤ l) ((o +ℤ s) +ℤ (climb n s +ℤ l)) ≡ o +ℤ (climb (suc n) s +ℤ l)
greatest-step o l (pos s) n =
    let above : pos 0 ≤ℤ (pos s *ℤ pos n) = climbs s n in
    let more : (o +ℤ pos s) +ℤ ((pos s *ℤ pos n) +ℤ l) ≡ o +ℤ ((pos s *ℤ pos (suc n)) +ℤ l) =
    more-steps o (pos s) l n in
    omega (arith, ints, clamps, above, more)
greatest-step o l (negsuc s) n = omega (arith, ints, clamps)

greatest-turns : (n : ℕ) (s : ℤ) (row : ℤ → List ℤ) (o l : ℤ) → ((p : ℤ) → is_empty (row p) ≡ false) →
    ((p : ℤ) → greatest (row p) ≡ p +ℤ l) →
    greatest (turns (suc n) s row o) ≡ o +ℤ (climb n s +ℤ l)
greatest-turns zero s row o l k h = ap greatest (append-nil (row o)) ∙ h o ∙ greatest-first o l s
greatest-turns (suc n) s row o l k h =
    greatest-append (row o) (turns (suc n) s row (o +ℤ s)) (k o) (some-turns n s row (o +ℤ s) k) ∙
    ap₂ int_max (h o) (greatest-turns n s row (o +ℤ s) l k h) ∙ greatest-step o l s n

pub greatest-rows : (ds : List (ℕ × ℤ)) (o : ℤ) → lacks ds ≡ false → greatest (rows ds o) ≡ o +ℤ high ds
greatest-rows [] o h = nothing o
  where
    nothing : (o : ℤ) → o ≡ o +ℤ pos 0
    nothing o = omega (arith, ints)
greatest-rows ((zero, s) ∷ ds) o h = cc
greatest-rows ((suc n, s) ∷ ds) o h = greatest-turns n s (rows ds) o (high ds) (λ p. none-rows ds p ∙ h)
    (λ p. greatest-rows ds p h)

-- ---- rising
rises-append : (xs ys : List ℤ) → is_empty xs ≡ false → is_empty ys ≡ false →
    rises (xs ++ ys) ≡ (rises xs && (int_lt (last_of xs) (first_of ys) && rises ys))
rises-append [] ys h k = cc
rises-append (x ∷ []) [] h k = cc
rises-append (x ∷ []) (y ∷ ys) h k = refl
rises-append (x ∷ y ∷ xs) ys h k = ap (λ (b : Bool). int_lt x y && b) (rises-append (y ∷ xs) ys refl k) ∙
    regrouped (int_lt x y) (rises (y ∷ xs)) _
  where
    regrouped : (a b c : Bool) → (a && (b && c)) ≡ ((a && b) && c)
    regrouped true b c = refl
    regrouped false b c = refl

lower-by : (o l s : ℤ) → int_lt (o +ℤ l) (o +ℤ s) ≡ int_lt l s
lower-by o l s = grind (arith, ints)

rises-turns : (n : ℕ) (s : ℤ) (row : ℤ → List ℤ) (o l : ℤ) (r : Bool) → ((p : ℤ) → is_empty (row p) ≡ false) →
    ((p : ℤ) → first_of (row p) ≡ p) → ((p : ℤ) → last_of (row p) ≡ p +ℤ l) →
    ((p : ℤ) → rises (row p) ≡ r) → rises (turns (suc n) s row o) ≡ ((is_zero n || int_lt l s) && r)
rises-turns zero s row o l r k f e h = ap rises (append-nil (row o)) ∙ h o
rises-turns (suc n) s row o l r k f e h =
    rises-append (row o) (turns (suc n) s row (o +ℤ s)) (k o) (some-turns n s row (o +ℤ s) k) ∙
    ap₂ (λ (x y : Bool). x && y) (h o)
    (ap₂ (λ (x y : Bool). x && y) (ap₂ int_lt (e o) (first-turns n s row (o +ℤ s) k f) ∙ lower-by o l s)
    (rises-turns n s row (o +ℤ s) l r k f e h)) ∙
    again r (int_lt l s) (is_zero n)
  where
    again : (r t z : Bool) → (r && (t && ((z || t) && r))) ≡ (t && r)
    again true true true = refl
    again true true false = refl
    again true false z = refl
    again false true z = refl
    again false false z = refl

pub rises-rows : (ds : List (ℕ × ℤ)) (o : ℤ) → lacks ds ≡ false → rises (rows ds o) ≡ rises_by ds
rises-rows [] o h = refl
rises-rows ((zero, s) ∷ ds) o h = cc
rises-rows ((suc n, s) ∷ ds) o h =
    rises-turns n s (rows ds) o (span ds) (rises_by ds) (λ p. none-rows ds p ∙ h) (λ p. first-rows ds p h)
    (λ p. last-rows ds p h) (λ p. rises-rows ds p h)

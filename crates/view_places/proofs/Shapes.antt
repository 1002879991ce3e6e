-- Shapes held in four entries, of which those past the rank are 1: their extents, their number of elements and their
-- limits.
use Rattle.std.proofs.Common.{◌≡◌, ◌≢◌, ℕ, zero, suc, ◌+◌, ◌-◌, ◌*◌, ◌^◌, ◌<◌, ◌≤◌, List, [], ◌∷◌, ◌++◌, length, get_or}
use Rattle.std.proofs.Common.{take, drop, replicate, refl, sym, ap, ap₂, subst, ◌∙◌, arith, eqb, cond, Bool, true}
use Rattle.std.proofs.Common.{false, T, leb, ◌&&◌, ℤ, pos, ◌+ℤ◌, ◌≤ℤ◌, ◌<ℤ◌, unsigned_abs, leb→le, le→leb, mul-one}
use borrow.Author.Tests.{leb-false}
use Rattle.std.specs.List.{list_all, range_with_len}
use Rattle.std.proofs.lemmas.Int.{ints}
use Rattle.std.proofs.lemmas.List.{get_or-take, get_or-drop, get_or-replicate, take-append-drop, length-take-le}
use Rattle.view_places.specs.Arrays.{element_count, order_of, Inside}
use Rattle.view_places.specs.Strides.{reach, led_to, IsArrayShape, IsSettled, LeadsWithin, LeadsApart, settled_strides}
use Rattle.view_places.specs.Strides.{weights, place_at, strided}
use Rattle.view_places.proofs.Indices.{order-below, order-apart, map-indices_same, orders}
use Rattle.view_places.proofs.Reach.{count-append, length-inside, reach-weights}
use Rattle.view_places.proofs.Settled.{some-behind, stride-within, reach-settled, still-settled}

pub nothing-inside : (ns index : List ℕ) → element_count ns ≡ 0 → Inside ns index → ⊥
nothing-inside ns index e p = omega (arith, order-below ns index p)

count-ones : (m : ℕ) → element_count (replicate m 1) ≡ 1
count-ones zero = refl
count-ones (suc m) = omega (arith, count-ones m)

-- the entries past the rank don't count
pub count-take : (r m : ℕ) (extent : List ℕ) → drop r extent ≡ replicate m 1 →
    element_count extent ≡ element_count (take r extent)
count-take r m extent d =
    ap element_count (sym (take-append-drop r extent)) ∙ count-append (take r extent) (drop r extent) ∙
    ap (λ (c : ℕ). element_count (take r extent) * c) (ap element_count d ∙ count-ones m) ∙
    mul-one (element_count (take r extent))

pub some-extent : (ns : List ℕ) (axis : ℕ) → 0 < element_count ns → axis < length ns → 0 < get_or ns axis 0
some-extent [] axis h k = absurd (omega arith)
some-extent (zero ∷ ns) axis h k = absurd (omega arith)
some-extent (suc n ∷ ns) zero h k = omega arith
some-extent (suc n ∷ ns) (suc axis) h k = some-extent ns axis (some-behind (suc n) (element_count ns) h) (omega arith)

-- ---- an array's limits
pub and-both : (a b : Bool) → T a → T b → T (a && b)
and-both true b p q = q
and-both false b p q = absurd p

pub and-first : (a b : Bool) → T (a && b) → T a
and-first true b p = tt
and-first false b p = absurd p

pub and-second : (a b : Bool) → T (a && b) → T b
and-second true b p = p
and-second false b p = absurd p

abbrev pub Limited : List ℕ → Type 0
Limited [] = Unit {0}
Limited (n ∷ ns) = (n ≤ 2 ^ 22) × Limited ns

pub limited_in : (ns : List ℕ) → Limited ns → T (list_all (λ n. leb n (2 ^ 22)) ns)
limited_in [] h = tt
limited_in (n ∷ ns) h = and-both (leb n (2 ^ 22)) (list_all (λ n. leb n (2 ^ 22)) ns) (le→leb n (2 ^ 22) h.0)
    (limited_in ns h.1)

pub limited_out : (ns : List ℕ) → T (list_all (λ n. leb n (2 ^ 22)) ns) → Limited ns
limited_out [] h = tt
limited_out (n ∷ ns) h = (
  leb→le n (2 ^ 22) (and-first (leb n (2 ^ 22)) (list_all (λ n. leb n (2 ^ 22)) ns) h),
  limited_out ns (and-second (leb n (2 ^ 22)) (list_all (λ n. leb n (2 ^ 22)) ns) h),
)

-- ---- the strides of a whole buffer
pub whole-leads : (r m : ℕ) (extent index : List ℕ) → drop r extent ≡ replicate m 1 → Inside (take r extent) index →
    led_to (pos 0) (weights extent) index ≡ pos (order_of (take r extent) index)
whole-leads r m extent index d p =
    let here : reach (weights (take r extent ++ drop r extent)) index ≡ pos (order_of (take r extent) index) =
    reach-weights (take r extent) (drop r extent) index (ap element_count d ∙ count-ones m)
    (length-inside (take r extent) index p) in
    let same : reach (weights extent) index ≡ pos (order_of (take r extent) index) =
    ap (λ (xs : List ℕ). reach (weights xs) index) (sym (take-append-drop r extent)) ∙ here in
    omega (arith, ints, same)

pub whole-within : (r m L : ℕ) (extent : List ℕ) → drop r extent ≡ replicate m 1 → L ≡ element_count (take r extent) →
    LeadsWithin L (take r extent) (pos 0) (weights extent)
whole-within r m L extent d e index p =
    let here : led_to (pos 0) (weights extent) index ≡ pos (order_of (take r extent) index) =
    whole-leads r m extent index d p in
    let below : order_of (take r extent) index < element_count (take r extent) = order-below (take r extent) index p in
    (omega (arith, ints, here), omega (arith, ints, here, below, e))

pub whole-apart : (r m : ℕ) (extent : List ℕ) → drop r extent ≡ replicate m 1 →
    LeadsApart (take r extent) (pos 0) (weights extent)
whole-apart r m extent d a b p q e =
    let same : pos (order_of (take r extent) a) ≡ pos (order_of (take r extent) b) =
    sym (whole-leads r m extent a d p) ∙ e ∙ whole-leads r m extent b d q in
    order-apart (take r extent) a b p q (omega (arith, ints, same))

pub whole-places : (r m : ℕ) (extent : List ℕ) (ss : List ℤ) → drop r extent ≡ replicate m 1 → ss ≡ weights extent →
    strided (pos 0) ss (take r extent) ≡ range_with_len 0 (element_count (take r extent))
whole-places r m extent ss d e =
    ap (λ (ts : List ℤ). strided (pos 0) ts (take r extent)) e ∙
    map-indices_same (place_at (pos 0) (weights extent)) (order_of (take r extent)) (take r extent)
    (λ index p. ap unsigned_abs (whole-leads r m extent index d p)) ∙ orders (take r extent)

-- ---- one offset and strides in place of others that lead the same way
module _ (L : ℕ) (ns : List ℕ) (o p : ℤ) (ss ts : List ℤ)
    (same : (index : List ℕ) → Inside ns index → led_to p ts index ≡ led_to o ss index) where
  pub within-same : LeadsWithin L ns o ss → LeadsWithin L ns p ts
  within-same w index h =
      subst (λ (z : ℤ). (pos 0 ≤ℤ z) × (z <ℤ pos L)) (sym (same index h)) (w index h)

  pub apart-same : LeadsApart ns o ss → LeadsApart ns p ts
  apart-same d a b h k e = d a b h k (sym (same a h) ∙ e ∙ same b k)

-- ---- what an array's shape and places say of the numbers of a view
module _ (rank L axis : ℕ) (extent : List ℕ) (o : ℤ) (ss : List ℤ) (is_shape : IsArrayShape rank extent)
    (four : length extent ≡ 4) (below : axis < 4)
    (some : 0 < element_count (take rank extent)) (w : LeadsWithin L (take rank extent) o ss) where
  pub stride-fits : get_or extent axis 0 ≢ 1 → unsigned_abs (get_or ss axis (pos 0)) < L
  stride-fits other = by_rank (leb rank axis) refl
    where
      past : rank ≤ axis → get_or extent axis 0 ≡ 1
      past h =
          let at : rank + (axis - rank) ≡ axis = omega arith in
          let short : axis - rank < 4 - rank = omega (arith, is_shape.rank_fits) in
          ap (λ (k : ℕ). get_or extent k 0) (sym at) ∙ sym (get_or-drop rank extent (axis - rank) 0) ∙
          ap (λ (xs : List ℕ). get_or xs (axis - rank) 0) is_shape.unused ∙
          get_or-replicate (4 - rank) (axis - rank) 1 0 short

      inner : axis < rank → unsigned_abs (get_or ss axis (pos 0)) < L
      inner h =
          let long : length (take rank extent) ≡ rank =
          length-take-le rank extent (omega (arith, is_shape.rank_fits)) in
          let here : get_or (take rank extent) axis 0 ≡ get_or extent axis 0 = get_or-take rank extent axis 0 h in
          let above : 0 < get_or (take rank extent) axis 0 = some-extent (take rank extent) axis some (omega arith) in
          let apart : get_or (take rank extent) axis 0 ≢ 1 = λ e. other (sym here ∙ e) in
          stride-within L axis (take rank extent) o ss some w (omega arith)

      by_rank : (t : Bool) → leb rank axis ≡ t → unsigned_abs (get_or ss axis (pos 0)) < L
      by_rank true e = absurd (other (past (leb→le rank axis (subst T (sym e) tt))))
      by_rank false e = inner (omega (arith, leb-false rank axis e))

-- four entries, written out
pub four_settled : (extent : List ℕ) (ss : List ℤ) → length extent ≡ 4 → length ss ≡ 4 →
    settled_strides extent ss ≡
    cond (eqb (get_or extent 0 0) 1) (pos 0) (get_or ss 0 (pos 0)) ∷ cond (eqb (get_or extent 1 0) 1) (pos 0)
    (get_or ss 1 (pos 0)) ∷
    cond (eqb (get_or extent 2 0) 1) (pos 0) (get_or ss 2 (pos 0)) ∷ cond (eqb (get_or extent 3 0) 1) (pos 0)
    (get_or ss 3 (pos 0)) ∷ []
four_settled (a ∷ b ∷ c ∷ d ∷ []) (x ∷ y ∷ z ∷ w ∷ []) h k = refl
four_settled [] ss h k = absurd (omega arith)
four_settled (a ∷ []) ss h k = absurd (omega arith)
four_settled (a ∷ b ∷ []) ss h k = absurd (omega arith)
four_settled (a ∷ b ∷ c ∷ []) ss h k = absurd (omega arith)
four_settled (a ∷ b ∷ c ∷ d ∷ e ∷ extent) ss h k = absurd (omega arith)
four_settled (a ∷ b ∷ c ∷ d ∷ []) [] h k = absurd (omega arith)
four_settled (a ∷ b ∷ c ∷ d ∷ []) (x ∷ []) h k = absurd (omega arith)
four_settled (a ∷ b ∷ c ∷ d ∷ []) (x ∷ y ∷ []) h k = absurd (omega arith)
four_settled (a ∷ b ∷ c ∷ d ∷ []) (x ∷ y ∷ z ∷ []) h k = absurd (omega arith)
four_settled (a ∷ b ∷ c ∷ d ∷ []) (x ∷ y ∷ z ∷ w ∷ v ∷ ss) h k = absurd (omega arith)

zero-at : (axis : ℕ) → get_or (replicate 4 (pos 0)) axis (pos 0) ≡ pos 0
zero-at zero = refl
zero-at (suc zero) = refl
zero-at (suc (suc zero)) = refl
zero-at (suc (suc (suc zero))) = refl
zero-at (suc (suc (suc (suc axis)))) = refl

pub settled_without_elements : (ns extent : List ℕ) → IsSettled ns extent (pos 0) (replicate 4 (pos 0))
settled_without_elements ns extent =
    record { still = λ axis h. zero-at axis; no_offset = λ h. refl; no_stride = λ h. refl }

pub settled_with_elements : (ns extent : List ℕ) (o : ℤ) (ss : List ℤ) → length extent ≡ length ss →
    0 < element_count ns → IsSettled ns extent o (settled_strides extent ss)
settled_with_elements ns extent o ss l some =
    record {
      still = still-settled extent ss l;
      no_offset = λ h. absurd (omega arith);
      no_stride =
          λ h. absurd (omega arith);
    }

pub led-settled : (r : ℕ) (extent : List ℕ) (o : ℤ) (ss : List ℤ) (index : List ℕ) → length extent ≡ length ss →
    Inside (take r extent) index → led_to o (settled_strides extent ss) index ≡ led_to o ss index
led-settled r extent o ss index l p = ap (λ (z : ℤ). o +ℤ z) (reach-settled r extent ss index l p)

module _ (extent : List ℕ) (o p : ℤ) (ss : List ℤ) (a b c d : ℤ) (four : length extent ≡ 4)
    (four_strides : length ss ≡ 4) (same : p ≡ o)
    (first : a ≡ cond (eqb (get_or extent 0 0) 1) (pos 0) (get_or ss 0 (pos 0)))
    (second : b ≡ cond (eqb (get_or extent 1 0) 1) (pos 0) (get_or ss 1 (pos 0)))
    (third : c ≡ cond (eqb (get_or extent 2 0) 1) (pos 0) (get_or ss 2 (pos 0)))
    (fourth : d ≡ cond (eqb (get_or extent 3 0) 1) (pos 0) (get_or ss 3 (pos 0))) where
  abcd : a ∷ b ∷ c ∷ d ∷ [] ≡ settled_strides extent ss
  abcd =
      ap₂ (λ (x : ℤ) (xs : List ℤ). x ∷ xs) first
      (ap₂ (λ (x : ℤ) (xs : List ℤ). x ∷ xs) second
      (ap₂ (λ (x : ℤ) (xs : List ℤ). x ∷ xs) third (ap (λ (x : ℤ). x ∷ []) fourth))) ∙
      sym (four_settled extent ss four four_strides)

  pub same-settled : (ns : List ℕ) → 0 < element_count ns → IsSettled ns extent p (a ∷ b ∷ c ∷ d ∷ [])
  same-settled ns some = subst (λ (xs : List ℤ). IsSettled ns extent p xs) (sym abcd)
      (settled_with_elements ns extent p ss (omega arith) some)

  pub same-led : (r : ℕ) (index : List ℕ) → Inside (take r extent) index →
      led_to p (a ∷ b ∷ c ∷ d ∷ []) index ≡ led_to o ss index
  same-led r index h =
      ap (λ (xs : List ℤ). led_to p xs index) abcd ∙ led-settled r extent p ss index (omega arith) h ∙
      ap (λ (z : ℤ). led_to z ss index) same

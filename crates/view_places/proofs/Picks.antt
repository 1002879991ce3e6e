-- What a slice picks, and that the entries that it picks are a view again.
use Rattle.std.proofs.Common.{◌≡◌, ◌≢◌, ℕ, zero, suc, ◌*◌, ◌/◌, ◌^◌, ◌<◌, ◌≤◌, List, map, length, get_or, set, take}
use Rattle.std.proofs.Common.{drop, refl, sym, ap, ap₂, subst, ◌∙◌, arith, Bool, true, false, T, ℤ, pos, negsuc, ◌+ℤ◌}
use Rattle.std.proofs.Common.{◌*ℤ◌, ◌≤ℤ◌, ◌<ℤ◌, ◌↔◌, unsigned_abs, IsTrue}
use Rattle.std.specs.List.{range_with_len}
use Rattle.std.proofs.Math.Nat.{mul-div_cancel}
use lib.Signed.{lt_z}
use Rattle.std.proofs.lemmas.Int.{ints}
use Rattle.std.proofs.lemmas.List.{get_or-map, get_or-set_same, drop-set-lt, length-take-le, length-set, length-map}
use Rattle.std.proofs.lemmas.List.FromFn.{length-map-range_with_len, get_or-map-range_with_len}
use Rattle.view_places.specs.Arrays.{element_count, indices, entry, is_small, Inside, renumbered, sliced}
use Rattle.view_places.specs.Slice.{IsDistance, after_steps, walk, from_front}
use Rattle.view_places.specs.Strides.{reach, led_to, strided, IsArrayShape, LeadsWithin, LeadsApart}
use Rattle.view_places.specs.Walk.{picks, StaysWithin}
use Rattle.view_places.specs.declared.walk.Walk.{Walk}
use Rattle.view_places.proofs.PartLemmas.{within-changed, apart-changed, places-changed, small_in, small_limited}
use Rattle.view_places.proofs.PartLemmas.{small_count, small-at, take-set-lt, limited-set, count-set, mul-add, mul-swap}
use Rattle.view_places.proofs.Reach.{length-inside, reach-set, inside-set, inside-at, set-apart}
use Rattle.view_places.proofs.WalkLemmas.{rising-walk, falling-walk, falling-inside}

-- ---- bounds and distances
pub front-behind : (n : ℕ) (z : ℤ) → z <ℤ pos 0 → from_front n z ≡ z +ℤ pos n
front-behind n (pos i) h = absurd (omega (arith, ints, h))
front-behind n (negsuc i) h = omega (arith, ints)

pub front-here : (n : ℕ) (z : ℤ) → pos 0 ≤ℤ z → from_front n z ≡ z
front-here n (pos i) h = refl
front-here n (negsuc i) h = absurd (omega (arith, ints, h))

pub distance-few : (start stop : ℤ) (d n : ℕ) → IsDistance start stop d → pos 0 ≤ℤ start → stop ≤ℤ pos n → d ≤ n
distance-few start stop d n dist low high = by_test (lt_z start stop) refl
  where
    by_test : (t : Bool) → lt_z start stop ≡ t → d ≤ n
    by_test true e = let ahead : start <ℤ stop = record { lt = subst T (sym e) tt } in
        omega (arith, ints, dist.past ahead, low, high)
    by_test false e = let behind : stop ≤ℤ start = omega (arith, ints, e) in omega (arith, dist.none behind)

pub distance-few_back : (start stop : ℤ) (d n : ℕ) → IsDistance stop start d → negsuc 0 ≤ℤ stop → start <ℤ pos n → d ≤ n
distance-few_back start stop d n dist low high = by_test (lt_z stop start) refl
  where
    by_test : (t : Bool) → lt_z stop start ≡ t → d ≤ n
    by_test true e = let ahead : stop <ℤ start = record { lt = subst T (sym e) tt } in
        omega (arith, ints, dist.past ahead, low, high)
    by_test false e = let behind : start ≤ℤ stop = omega (arith, ints, e) in omega (arith, dist.none behind)

module _ (n : ℕ) (w : Walk) (start stop step : ℤ) (d m : ℕ) (is_start : w.start ≡ start) (is_step : w.step ≡ step)
    (is_length : m ≡ unsigned_abs step)
    (steps : (k : ℕ) → (k < w.count) ↔ (k * m < d)) (few : w.count ≤ d) where
  steps_of : (k : ℕ) → (k < w.count) ↔ (k * unsigned_abs step < d)
  steps_of k = subst (λ (z : ℕ). (k < w.count) ↔ (k * z < d)) is_length (steps k)

  named : map unsigned_abs (map (after_steps start step) (range_with_len 0 w.count)) ≡ picks w
  named = ap₂ (λ (p q : ℤ). map unsigned_abs (map (after_steps p q) (range_with_len 0 w.count))) (sym is_start)
      (sym is_step)

  pub rising-picks : (a b : ℤ) → start ≡ a → stop ≡ b → pos 0 <ℤ step → IsDistance start stop d → pos 0 ≤ℤ start →
      stop ≤ℤ pos n → map unsigned_abs (walk n a b step) ≡ picks w
  rising-picks a b ea eb up_step dist low high =
      let less : d ≤ n = distance-few start stop d n dist low high in
      ap₂ (λ (p q : ℤ). map unsigned_abs (walk n p q step)) (sym ea) (sym eb) ∙
      ap (map unsigned_abs) (rising-walk n start stop step w.count d up_step dist steps_of (omega arith)) ∙ named

  pub falling-picks : (a b : ℤ) → start ≡ a → stop ≡ b → step <ℤ pos 0 → IsDistance stop start d → negsuc 0 ≤ℤ stop →
      start <ℤ pos n → map unsigned_abs (walk n a b step) ≡ picks w
  falling-picks a b ea eb down_step dist low high =
      let less : d ≤ n = distance-few_back start stop d n dist low high in
      ap₂ (λ (p q : ℤ). map unsigned_abs (walk n p q step)) (sym ea) (sym eb) ∙
      ap (map unsigned_abs) (falling-walk n start stop step w.count d down_step dist steps_of (omega arith)) ∙ named

  pub falling-stays : step <ℤ pos 0 → IsDistance stop start d → negsuc 0 ≤ℤ stop → start <ℤ pos n → StaysWithin n w
  falling-stays down_step dist low high =
      let less : d ≤ n = distance-few_back start stop d n dist low high in
      record {
        few = omega arith;
        moves = λ e. let z : step ≡ pos 0 = sym is_step ∙ e in omega (arith, ints, z, down_step);
        inside = λ k h.
            subst (λ (z : ℤ). (pos 0 ≤ℤ z) × (z <ℤ pos n))
            (ap₂ (λ (p q : ℤ). after_steps p q k) (sym is_start) (sym is_step))
            (falling-inside start stop step n w.count d k down_step dist (steps_of k) low high h);
      }

-- ---- the entries that a walk meets
natural : (z : ℤ) → pos 0 ≤ℤ z → z ≡ pos (unsigned_abs z)
natural (pos n) h = refl
natural (negsuc n) h = absurd (omega (arith, ints, h))

pub length-picks : (w : Walk) → length (picks w) ≡ w.count
length-picks w = length-map (map (after_steps w.start w.step) (range_with_len 0 w.count)) unsigned_abs ∙
    length-map-range_with_len (after_steps w.start w.step) 0 w.count

picks-at : (w : Walk) (i : ℕ) → i < w.count → get_or (picks w) i 0 ≡ unsigned_abs (after_steps w.start w.step i)
picks-at w i h =
    let long : length (map (after_steps w.start w.step) (range_with_len 0 w.count)) ≡ w.count =
    length-map-range_with_len (after_steps w.start w.step) 0 w.count in
    get_or-map unsigned_abs (map (after_steps w.start w.step) (range_with_len 0 w.count)) i (pos 0) 0 (omega arith) ∙
    ap unsigned_abs (get_or-map-range_with_len (after_steps w.start w.step) 0 w.count i i (pos 0) h (omega arith))

same-number : (m i j : ℕ) → i * suc m ≡ j * suc m → i ≡ j
same-number m i j e = sym (mul-div_cancel i {n = suc m} (omega arith)) ∙ ap (λ (z : ℕ). z / suc m) e ∙
    mul-div_cancel j {n = suc m} (omega arith)

steps-apart : (start step : ℤ) (i j : ℕ) → step ≢ pos 0 → after_steps start step i ≡ after_steps start step j → i ≡ j
steps-apart start (pos zero) i j moves e = absurd (moves refl)
steps-apart start (pos (suc m)) i j moves e = same-number m i j (omega (arith, ints, e))
steps-apart start (negsuc m) i j moves e = same-number m i j (omega (arith, ints, e))

module _ (rank axis L : ℕ) (extent E : List ℕ) (o p : ℤ) (ss S : List ℤ) (w : Walk)
    (is_shape : IsArrayShape rank extent) (four : length extent ≡ 4) (four_strides : length ss ≡ 4)
    (below : axis < rank) (stays : StaysWithin (get_or (take rank extent) axis 0) w) (e : E ≡ set extent axis w.count)
    (s : S ≡ set ss axis (get_or ss axis (pos 0) *ℤ w.step))
    (start : p ≡ o +ℤ (get_or ss axis (pos 0) *ℤ w.start)) where
  long : length (take rank extent) ≡ rank
  long = length-take-le rank extent (omega (arith, is_shape.rank_fits))

  pub picked-extents : take rank E ≡ set (take rank extent) axis w.count
  picked-extents = ap (take rank) e ∙ take-set-lt rank axis w.count extent below

  picked-small : IsTrue (is_small (set (take rank extent) axis w.count))
  picked-small =
      let most : get_or (take rank extent) axis 0 ≤ 2 ^ 22 = small-at (take rank extent) axis is_shape.small in
      let few : element_count (take rank extent) ≤ 2 ^ 22 = small_count (take rank extent) is_shape.small in
      let fewer : element_count (set (take rank extent) axis w.count) ≤ element_count (take rank extent) =
      count-set (take rank extent) axis w.count stays.few in
      small_in (set (take rank extent) axis w.count)
      (limited-set (take rank extent) axis w.count (omega (arith, stays.few))
      (small_limited (take rank extent) is_shape.small)) (omega arith)

  pub picked-shape : IsArrayShape rank E
  picked-shape =
      record {
        rank_fits = is_shape.rank_fits;
        unused = ap (drop rank) e ∙ drop-set-lt rank extent axis w.count below ∙ is_shape.unused;
        small = subst (λ (xs : List ℕ). IsTrue (is_small xs)) (sym picked-extents) picked-small;
      }

  counted : (index : List ℕ) → Inside (set (take rank extent) axis w.count) index → get_or index axis 0 < w.count
  counted index h =
      let same_length : length (set (take rank extent) axis w.count) ≡ length (take rank extent) =
      length-set (take rank extent) axis w.count in
      let here : get_or (set (take rank extent) axis w.count) axis 0 ≡ w.count =
      get_or-set_same (take rank extent) axis w.count 0 (omega (arith, long)) in
      let inner : get_or index axis 0 < get_or (set (take rank extent) axis w.count) axis 0 =
      inside-at (set (take rank extent) axis w.count) index axis (omega (arith, long)) h in
      omega arith

  met : (index : List ℕ) → Inside (set (take rank extent) axis w.count) index →
      pos (get_or (picks w) (get_or index axis 0) 0) ≡ after_steps w.start w.step (get_or index axis 0)
  met index h =
      let below_count : get_or index axis 0 < w.count = counted index h in
      ap pos (picks-at w (get_or index axis 0) below_count) ∙
      sym (natural (after_steps w.start w.step (get_or index axis 0))
      (stays.inside (get_or index axis 0) below_count).0)

  picked-inner : (index : List ℕ) → Inside (set (take rank extent) axis w.count) index →
      Inside (take rank extent) (renumbered axis (picks w) index)
  picked-inner index h =
      let here : pos (get_or (picks w) (get_or index axis 0) 0) ≡ after_steps w.start w.step (get_or index axis 0) =
      met index h in
      let high : after_steps w.start w.step (get_or index axis 0) <ℤ pos (get_or (take rank extent) axis 0) =
      (stays.inside (get_or index axis 0) (counted index h)).1 in
      let high_pick : pos (get_or (picks w) (get_or index axis 0) 0) <ℤ pos (get_or (take rank extent) axis 0) =
      subst (λ (z : ℤ). z <ℤ pos (get_or (take rank extent) axis 0)) (sym here) high in
      inside-set (take rank extent) index axis w.count (get_or (picks w) (get_or index axis 0) 0) (omega (arith, long))
      (omega (arith, ints, high_pick)) h

  stride-split : (a b c : ℤ) (i : ℕ) → a *ℤ (b +ℤ (pos i *ℤ c)) ≡ (a *ℤ b) +ℤ ((a *ℤ c) *ℤ pos i)
  stride-split a b c i = mul-add a b (pos i *ℤ c) ∙ ap (λ (z : ℤ). (a *ℤ b) +ℤ z) (mul-swap a c i)

  picked-same : (index : List ℕ) → Inside (set (take rank extent) axis w.count) index →
      led_to p S index ≡ led_to o ss (renumbered axis (picks w) index)
  picked-same index h =
      let as_long : length index ≡ length (set (take rank extent) axis w.count) =
      length-inside (set (take rank extent) axis w.count) index h in
      let same_length : length (set (take rank extent) axis w.count) ≡ length (take rank extent) =
      length-set (take rank extent) axis w.count in
      let whole : reach ss (set index axis (get_or (picks w) (get_or index axis 0) 0)) ≡
      (get_or ss axis (pos 0) *ℤ w.start) +ℤ reach (set ss axis (get_or ss axis (pos 0) *ℤ w.step)) index =
      reach-set ss index axis (get_or (picks w) (get_or index axis 0) 0) (get_or ss axis (pos 0) *ℤ w.step)
      (get_or ss axis (pos 0) *ℤ w.start) (omega (arith, is_shape.rank_fits)) (omega (arith, long))
      (ap (λ (z : ℤ). get_or ss axis (pos 0) *ℤ z) (met index h) ∙
      stride-split (get_or ss axis (pos 0)) w.start w.step (get_or index axis 0)) in
      ap₂ (λ (z : ℤ) (ts : List ℤ). led_to z ts index) start s ∙
      regroup o (get_or ss axis (pos 0) *ℤ w.start) (reach (set ss axis (get_or ss axis (pos 0) *ℤ w.step)) index) ∙
      ap (λ (z : ℤ). o +ℤ z) (sym whole)
    where
      regroup : (a b c : ℤ) → (a +ℤ b) +ℤ c ≡ a +ℤ (b +ℤ c)
      regroup a b c = omega (arith, ints)

  picked-one : (a b : List ℕ) → Inside (set (take rank extent) axis w.count) a →
      Inside (set (take rank extent) axis w.count) b → renumbered axis (picks w) a ≡ renumbered axis (picks w) b → a ≡ b
  picked-one a b h k q =
      let same_length : length (set (take rank extent) axis w.count) ≡ length (take rank extent) =
      length-set (take rank extent) axis w.count in
      let long_a : length a ≡ length (set (take rank extent) axis w.count) =
      length-inside (set (take rank extent) axis w.count) a h in
      let long_b : length b ≡ length (set (take rank extent) axis w.count) =
      length-inside (set (take rank extent) axis w.count) b k in
      let picks_same : get_or (picks w) (get_or a axis 0) 0 ≡ get_or (picks w) (get_or b axis 0) 0 =
      sym (get_or-set_same a axis (get_or (picks w) (get_or a axis 0) 0) 0 (omega (arith, long))) ∙
      ap (λ (xs : List ℕ). get_or xs axis 0) q ∙
      get_or-set_same b axis (get_or (picks w) (get_or b axis 0) 0) 0 (omega (arith, long)) in
      set-apart a b axis (get_or (picks w) (get_or a axis 0) 0) (get_or (picks w) (get_or b axis 0) 0)
      (omega (arith, long)) (omega (arith, long)) q
      (steps-apart w.start w.step (get_or a axis 0) (get_or b axis 0) stays.moves
      (sym (met a h) ∙ ap pos picks_same ∙ met b k))

  pub picked-within : LeadsWithin L (take rank extent) o ss → LeadsWithin L (take rank E) p S
  picked-within within =
      subst (λ (xs : List ℕ). LeadsWithin L xs p S) (sym picked-extents)
      (within-changed L (take rank extent) (set (take rank extent) axis w.count) o p ss S
      (renumbered axis (picks w)) picked-inner picked-same within)

  pub picked-apart : LeadsApart (take rank extent) o ss → LeadsApart (take rank E) p S
  picked-apart d =
      subst (λ (xs : List ℕ). LeadsApart xs p S) (sym picked-extents)
      (apart-changed L (take rank extent) (set (take rank extent) axis w.count) o p ss S
      (renumbered axis (picks w)) picked-inner picked-same picked-one d)

  pub picked-places : strided p S (take rank E) ≡
      sliced 0 axis (picks w) (take rank extent) (strided o ss (take rank extent))
  picked-places =
      ap (strided p S) picked-extents ∙
      places-changed L (take rank extent) (set (take rank extent) axis w.count) o p ss S
      (renumbered axis (picks w)) picked-inner picked-same ∙
      ap (λ (m : ℕ). map (λ index. entry 0 (take rank extent) (strided o ss (take rank extent))
      (renumbered axis (picks w) index)) (indices (set (take rank extent) axis m))) (sym (length-picks w))

-- Consecutive places: they are those whose strides are the whole buffer's.
use Rattle.std.proofs.Common.{◌≡◌, ℕ, zero, suc, ◌+◌, ◌-◌, List, [], ◌∷◌, length, take, refl, sym, ap, subst, ◌∙◌}
use Rattle.std.proofs.Common.{arith, ℤ, pos, negsuc, ◌+ℤ◌, ◌≤ℤ◌, unsigned_abs}
use Rattle.std.specs.List.{range_with_len}
use Rattle.std.proofs.lemmas.Int.{ints}
use Rattle.std.proofs.lemmas.List.{length-map, nil_from_length}
use Rattle.std.proofs.lemmas.List.FromFn.{get_or-range_with_len}
use Rattle.view_places.specs.Arrays.{element_count, indices, order_of, entry, Inside}
use Rattle.view_places.specs.Strides.{reach, led_to, place_at, strided, IsArrayShape, IsSettled, LeadsWithin}
use Rattle.view_places.specs.View.{extents, places, IsConsecutive}
use Rattle.view_places.specs.declared.view.View.{View}
use Rattle.view_places.proofs.Indices.{order-below, entry-map, map-indices_same, orders_from, length-indices}
use Rattle.view_places.proofs.OneView.{extents-one}
use Rattle.view_places.proofs.Reach.{origin, origin-inside, reach-origin}
use Rattle.view_places.proofs.Settled.{offset-within, led-place, only_strides}

pub natural : (z : ℤ) → pos 0 ≤ℤ z → z ≡ pos (unsigned_abs z)
natural (pos n) h = refl
natural (negsuc n) h = absurd (omega (arith, ints, h))

pub order-origin : (ns : List ℕ) → order_of ns (origin ns) ≡ 0
order-origin [] = refl
order-origin (n ∷ ns) = omega (arith, order-origin ns)

-- consecutive places: an index leads as far past the first as its order says
led-consecutive : (L f : ℕ) (ns : List ℕ) (o : ℤ) (ss : List ℤ) → LeadsWithin L ns o ss →
    strided o ss ns ≡ range_with_len f (element_count ns) →
    (index : List ℕ) → Inside ns index → led_to o ss index ≡ pos (f + order_of ns index)
led-consecutive L f ns o ss w e index h =
    led-place L ns o ss index w h ∙
    ap pos
    (sym (entry-map 0 (place_at o ss) ns index h) ∙ ap (λ (xs : List ℕ). entry 0 ns xs index) e ∙
    get_or-range_with_len f (element_count ns) (order_of ns index) 0 (order-below ns index h))

pub length-strided : (o : ℤ) (ss : List ℤ) (ns : List ℕ) → length (strided o ss ns) ≡ element_count ns
length-strided o ss ns = length-map (indices ns) (place_at o ss) ∙ length-indices ns

module _ (rank L M : ℕ) (extent : List ℕ) (o q : ℤ) (ss ts : List ℤ) (is_shape : IsArrayShape rank extent)
    (four : length extent ≡ 4) (four_strides : length ss ≡ 4) (four_whole : length ts ≡ 4)
    (settled : IsSettled (take rank extent) extent o ss) (settled_whole : IsSettled (take rank extent) extent q ts)
    (w : LeadsWithin L (take rank extent) o ss) (v : LeadsWithin M (take rank extent) q ts)
    (whole : strided q ts (take rank extent) ≡ range_with_len 0 (element_count (take rank extent))) where
  led-whole : (index : List ℕ) → Inside (take rank extent) index →
      led_to q ts index ≡ pos (0 + order_of (take rank extent) index)
  led-whole index h = led-consecutive M 0 (take rank extent) q ts v whole index h

  strides-from : (f : ℕ) → strided o ss (take rank extent) ≡ range_with_len f (element_count (take rank extent)) →
      (c : ℕ) → element_count (take rank extent) ≡ c → ss ≡ ts
  strides-from f e zero none = settled.no_stride none ∙ sym (settled_whole.no_stride none)
  strides-from f e (suc c) some =
      (only_strides rank (4 - rank) extent o (pos f +ℤ q) ss ts (four_strides ∙ sym four)
      (four_whole ∙ sym four) is_shape.unused (omega arith) settled.still settled_whole.still
      (λ index h.
      let here : led_to o ss index ≡ pos (f + order_of (take rank extent) index) =
      led-consecutive L f (take rank extent) o ss w e index h in
      let there : led_to q ts index ≡ pos (0 + order_of (take rank extent) index) = led-whole index h in
      omega (arith, ints, here, there))).1

  pub strides-whole : IsConsecutive (strided o ss (take rank extent)) → ss ≡ ts
  strides-whole (f, e) =
      strides-from f (e ∙ ap (range_with_len f) (length-strided o ss (take rank extent)))
      (element_count (take rank extent)) refl

  places-from : ss ≡ ts → (c : ℕ) → element_count (take rank extent) ≡ c →
      IsConsecutive (strided o ss (take rank extent))
  places-from e zero none =
      let nothing : length (strided o ss (take rank extent)) ≡ 0 = length-strided o ss (take rank extent) ∙ none in
      (0, nil_from_length (strided o ss (take rank extent)) nothing ∙ ap (range_with_len 0) (sym nothing))
  places-from e (suc c) some =
      let inner : Inside (take rank extent) (origin (take rank extent)) =
      origin-inside (take rank extent) (omega arith) in
      let first : led_to q ts (origin (take rank extent)) ≡
      pos (0 + order_of (take rank extent) (origin (take rank extent))) =
      led-whole (origin (take rank extent)) inner in
      let none : reach ts (origin (take rank extent)) ≡ pos 0 = reach-origin ts (take rank extent) in
      let at_start : q ≡ pos 0 = omega (arith, ints, first, none, order-origin (take rank extent)) in
      let low : pos 0 ≤ℤ o = (offset-within L (take rank extent) o ss (omega arith) w).0 in
      let is_place : o ≡ pos (unsigned_abs o) = natural o low in (
        unsigned_abs o,
        map-indices_same (place_at o ss) (λ (index : List ℕ). unsigned_abs o + order_of (take rank extent) index)
            (take rank extent)
            (λ index h.
            let there : led_to q ts index ≡ pos (0 + order_of (take rank extent) index) = led-whole index h in
            let same : reach ss index ≡ reach ts index = ap (λ (xs : List ℤ). reach xs index) e in
            let here : led_to o ss index ≡ pos (unsigned_abs o + order_of (take rank extent) index) =
            omega (arith, ints, there, same, at_start, is_place) in
            ap unsigned_abs here) ∙
            orders_from (unsigned_abs o) (take rank extent) ∙
            ap (range_with_len (unsigned_abs o)) (sym (length-strided o ss (take rank extent))),
      )

  pub places-whole : ss ≡ ts → IsConsecutive (strided o ss (take rank extent))
  places-whole e = places-from e (element_count (take rank extent)) refl

-- a view beside the whole one of its shape
module _ (a b : View) (four_a : length a.extent ≡ 4) (four_b : length b.extent ≡ 4) (strides_a : length a.stride ≡ 4)
    (strides_b : length b.stride ≡ 4)
    (e : extents b ≡ extents a) (p : places b ≡ range_with_len 0 (element_count (extents a))) where
  shapes : (b.rank ≡ a.rank) × (b.extent ≡ a.extent)
  shapes = extents-one b.rank a.rank b.extent a.extent b.shape a.shape four_b four_a e

  settled_b : IsSettled (take a.rank a.extent) a.extent b.offset b.stride
  settled_b =
      subst (λ (r : ℕ). IsSettled (take r a.extent) a.extent b.offset b.stride) shapes.0
      (subst (λ (xs : List ℕ). IsSettled (take b.rank xs) xs b.offset b.stride) shapes.1 b.settled)

  within_b : LeadsWithin b.length (take a.rank a.extent) b.offset b.stride
  within_b = subst (λ (xs : List ℕ). LeadsWithin b.length xs b.offset b.stride) e b.within

  whole_b : strided b.offset b.stride (take a.rank a.extent) ≡ range_with_len 0 (element_count (take a.rank a.extent))
  whole_b = ap (strided b.offset b.stride) (sym e) ∙ p

  pub same-consecutive : a.stride ≡ b.stride → IsConsecutive (places a)
  same-consecutive h =
      places-whole a.rank a.length b.length a.extent a.offset b.offset a.stride b.stride a.shape four_a strides_a
      strides_b a.settled settled_b a.within within_b whole_b h

  pub consecutive-same : IsConsecutive (places a) → a.stride ≡ b.stride
  consecutive-same h =
      strides-whole a.rank a.length b.length a.extent a.offset b.offset a.stride b.stride a.shape four_a strides_a
      strides_b a.settled settled_b a.within within_b whole_b h

-- The places of a view are distinct and below its length.
use Rattle.std.proofs.Common.{◌≡◌, ℕ, ◌<◌, List, [], length, get_or, sym, ap, ◌∙◌, arith, ℤ, pos, ◌<ℤ◌}
use Rattle.std.proofs.lemmas.Int.{ints}
use Rattle.std.proofs.lemmas.List.{length-map, get_or-map}
use Rattle.view_places.specs.Arrays.{element_count, indices, order_of}
use Rattle.view_places.specs.Strides.{led_to, place_at, strided, LeadsWithin, LeadsApart}
use Rattle.view_places.proofs.Indices.{length-indices, inside-at_order, order-at}
use Rattle.view_places.proofs.Settled.{led-place}

pub length-places : (ns : List ℕ) (o : ℤ) (ss : List ℤ) → length (strided o ss ns) ≡ element_count ns
length-places ns o ss = length-map (indices ns) (place_at o ss) ∙ length-indices ns

module _ (L : ℕ) (ns : List ℕ) (o : ℤ) (ss : List ℤ) (w : LeadsWithin L ns o ss) where
  counted : (i : ℕ) → i < length (strided o ss ns) → i < element_count ns
  counted i h = omega (arith, length-places ns o ss)

  led-at : (i : ℕ) → i < length (strided o ss ns) →
      led_to o ss (get_or (indices ns) i []) ≡ pos (get_or (strided o ss ns) i 0)
  led-at i h =
      let below : i < element_count ns = counted i h in
      led-place L ns o ss (get_or (indices ns) i []) w (inside-at_order ns i below) ∙
      ap pos (sym (get_or-map (place_at o ss) (indices ns) i [] 0 (omega (arith, length-indices ns))))

  pub places-below : (i : ℕ) → i < length (strided o ss ns) → get_or (strided o ss ns) i 0 < L
  places-below i h =
      let high : led_to o ss (get_or (indices ns) i []) <ℤ pos L =
      (w (get_or (indices ns) i []) (inside-at_order ns i (counted i h))).1 in
      omega (arith, ints, led-at i h, high)

  pub places-distinct : LeadsApart ns o ss → (i j : ℕ) → i < length (strided o ss ns) → j < length (strided o ss ns) →
      get_or (strided o ss ns) i 0 ≡ get_or (strided o ss ns) j 0 → i ≡ j
  places-distinct d i j h k e =
      sym (order-at ns i (counted i h)) ∙
      ap (order_of ns)
      (d (get_or (indices ns) i []) (get_or (indices ns) j []) (inside-at_order ns i (counted i h))
      (inside-at_order ns j (counted j k)) (led-at i h ∙ ap pos e ∙ sym (led-at j k))) ∙
      order-at ns j (counted j k)

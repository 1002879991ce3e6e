use Rattle.std.proofs.Common.{◌≡◌, ℕ, ◌*◌, ◌^◌, ◌<◌, ◌≤◌, get_or, arith, rules, refl, ap₂, subst, ◌∙◌, ℤ, pos, ◌+ℤ◌}
use Rattle.std.proofs.Common.{◌*ℤ◌, unsigned_abs, SFits, w64, to_z-of_z}
use Rattle.std.proofs.lemmas.Int.{ints}
use Rattle.view_places.proofs.Fours.{led-size}
use Rattle.view_places.proofs.Operations.{at_view-shape, at_view-extents, at_view-within, at_view-apart, at_view-places}
use Rattle.view_places.proofs.view.View.at.Goals as goal

pub plus-offset-requires-clause-second : goal.plus-offset-requires-clause-second
plus-offset-requires-clause-second c =
    let fits : SFits w64 (get_or c.args.self.now.stride c.from.result (pos 0)) = search rules in
    let fits_number : SFits w64 c.from-2.result = search rules in
    let is_axis : c.from.result ≡ c.args.axis = omega arith in
    let is_number : c.from-2.result ≡ pos c.args.k = omega (arith, ints) in
    let exact : c.led_by-along.result ≡ get_or c.args.self.now.stride c.from.result (pos 0) *ℤ c.from-2.result =
    simp to_z-of_z at c.led_by-along.ensures in
    let e : c.led_by-along.result ≡ get_or c.args.self.now.stride c.args.axis (pos 0) *ℤ pos c.args.k = exact ∙
    ap₂ (λ (i : ℕ) (z : ℤ). get_or c.args.self.now.stride i (pos 0) *ℤ z) is_axis is_number in
    let small : c.args.k < 2 ^ 32 = omega arith in
    let fits_axis : SFits w64 (get_or c.args.self.now.stride c.args.axis (pos 0)) =
    subst (λ (i : ℕ). SFits w64 (get_or c.args.self.now.stride i (pos 0))) is_axis fits in
    let size : unsigned_abs c.led_by-along.result ≤ 2 ^ 63 * 2 ^ 32 =
    led-size c.led_by-along.result (get_or c.args.self.now.stride c.args.axis (pos 0)) (pos c.args.k)
    (2 ^ 32) e fits_axis (omega arith) in
    omega (arith, ints, size)

pub view-requires-clause-shape : goal.view-requires-clause-shape
view-requires-clause-shape c = at_view-shape c.args.self.now.rank c.args.axis c.args.k c.args.self.now.length
    c.args.self.now.extent c.without-extent.result c.args.self.now.offset
    (c.args.self.now.offset +ℤ (get_or c.args.self.now.stride c.args.axis (pos 0) *ℤ pos c.args.k))
    c.args.self.now.stride c.widened-stride.result c.args.self.now.shape (search rules) (search rules)
    c.requires.axis c.requires.inside c.without-extent.ensures
    (c.widened-stride.ensures ∙ c.without-stride.ensures) refl

pub view-requires-clause-within : goal.view-requires-clause-within
view-requires-clause-within c =
    let fits : SFits w64 (get_or c.args.self.now.stride c.from.result (pos 0)) = search rules in
    let fits_number : SFits w64 c.from-2.result = search rules in
    let is_axis : c.from.result ≡ c.args.axis = omega arith in
    let is_number : c.from-2.result ≡ pos c.args.k = omega (arith, ints) in
    let exact : c.led_by-along.result ≡ get_or c.args.self.now.stride c.from.result (pos 0) *ℤ c.from-2.result =
    simp to_z-of_z at c.led_by-along.ensures in
    let e : c.led_by-along.result ≡ get_or c.args.self.now.stride c.args.axis (pos 0) *ℤ pos c.args.k = exact ∙
    ap₂ (λ (i : ℕ) (z : ℤ). get_or c.args.self.now.stride i (pos 0) *ℤ z) is_axis is_number in
    at_view-within c.args.self.now.rank c.args.axis c.args.k c.args.self.now.length c.args.self.now.extent
    c.without-extent.result c.args.self.now.offset _ c.args.self.now.stride c.widened-stride.result
    c.args.self.now.shape (search rules) (search rules)
    c.requires.axis c.requires.inside c.without-extent.ensures (c.widened-stride.ensures ∙ c.without-stride.ensures)
    (omega (arith, ints, e, c.plus-offset.ensures)) c.args.self.now.within

pub view-requires-clause-apart : goal.view-requires-clause-apart
view-requires-clause-apart c =
    let fits : SFits w64 (get_or c.args.self.now.stride c.from.result (pos 0)) = search rules in
    let fits_number : SFits w64 c.from-2.result = search rules in
    let is_axis : c.from.result ≡ c.args.axis = omega arith in
    let is_number : c.from-2.result ≡ pos c.args.k = omega (arith, ints) in
    let exact : c.led_by-along.result ≡ get_or c.args.self.now.stride c.from.result (pos 0) *ℤ c.from-2.result =
    simp to_z-of_z at c.led_by-along.ensures in
    let e : c.led_by-along.result ≡ get_or c.args.self.now.stride c.args.axis (pos 0) *ℤ pos c.args.k = exact ∙
    ap₂ (λ (i : ℕ) (z : ℤ). get_or c.args.self.now.stride i (pos 0) *ℤ z) is_axis is_number in
    at_view-apart c.args.self.now.rank c.args.axis c.args.k c.args.self.now.length c.args.self.now.extent
    c.without-extent.result c.args.self.now.offset _ c.args.self.now.stride c.widened-stride.result
    c.args.self.now.shape (search rules) (search rules)
    c.requires.axis c.requires.inside c.without-extent.ensures (c.widened-stride.ensures ∙ c.without-stride.ensures)
    (omega (arith, ints, e, c.plus-offset.ensures)) c.args.self.now.apart

pub returns : goal.returns
returns c =
    let fits : SFits w64 (get_or c.args.self.now.stride c.from.result (pos 0)) = search rules in
    let fits_number : SFits w64 c.from-2.result = search rules in
    let is_axis : c.from.result ≡ c.args.axis = omega arith in
    let is_number : c.from-2.result ≡ pos c.args.k = omega (arith, ints) in
    let exact : c.led_by-along.result ≡ get_or c.args.self.now.stride c.from.result (pos 0) *ℤ c.from-2.result =
    simp to_z-of_z at c.led_by-along.ensures in
    let e : c.led_by-along.result ≡ get_or c.args.self.now.stride c.args.axis (pos 0) *ℤ pos c.args.k = exact ∙
    ap₂ (λ (i : ℕ) (z : ℤ). get_or c.args.self.now.stride i (pos 0) *ℤ z) is_axis is_number in
    record {
      buffer = c.view.ensures.buffer;
      length = c.view.ensures.length;
      extents = c.view.ensures.extents ∙
          at_view-extents c.args.self.now.rank c.args.axis c.args.k c.args.self.now.length c.args.self.now.extent
          c.without-extent.result c.args.self.now.offset
          (c.args.self.now.offset +ℤ (get_or c.args.self.now.stride c.args.axis (pos 0) *ℤ pos c.args.k))
          c.args.self.now.stride c.widened-stride.result c.args.self.now.shape (search rules) (search rules)
          c.requires.axis c.requires.inside c.without-extent.ensures
          (c.widened-stride.ensures ∙ c.without-stride.ensures) refl;
      places = c.view.ensures.places ∙ at_view-places c.args.self.now.rank c.args.axis c.args.k c.args.self.now.length
          c.args.self.now.extent c.without-extent.result c.args.self.now.offset _ c.args.self.now.stride
          c.widened-stride.result c.args.self.now.shape (search rules) (search rules)
          c.requires.axis c.requires.inside c.without-extent.ensures
          (c.widened-stride.ensures ∙ c.without-stride.ensures) (omega (arith, ints, e, c.plus-offset.ensures));
    }

use Rattle.std.proofs.Common.{◌≡◌, ℕ, ◌*◌, ◌^◌, ◌≤◌, List, length, get_or, take, set, arith, rules, refl, sym, ap, ap₂}
use Rattle.std.proofs.Common.{subst, ◌∙◌, ℤ, pos, ◌+ℤ◌, ◌*ℤ◌, unsigned_abs, SFits, w64, to_z-of_z}
use mir.Syntax.{w128}
use Rattle.std.proofs.lemmas.Int.{ints}
use Rattle.view_places.specs.Walk.{picks}
use Rattle.view_places.proofs.Fours.{led-size}
use Rattle.view_places.proofs.Picks.{picked-shape, picked-extents, picked-within, picked-apart, picked-places}
use Rattle.view_places.proofs.Picks.{length-picks}
use Rattle.view_places.proofs.view.View.picked.Goals as goal

pub plus-offset-requires-clause-second : goal.plus-offset-requires-clause-second
plus-offset-requires-clause-second c =
    let fits : SFits w64 (get_or c.args.self.now.stride c.from.result (pos 0)) = search rules in
    let fits_start : SFits w64 c.args.walk.start = search rules in
    let is_axis : c.from.result ≡ c.args.axis = omega arith in
    let start_there : c.led_by-start.result ≡
    get_or c.args.self.now.stride c.from.result (pos 0) *ℤ c.args.walk.start =
    simp to_z-of_z at c.led_by-start.ensures in
    let e : c.led_by-start.result ≡ get_or c.args.self.now.stride c.args.axis (pos 0) *ℤ c.args.walk.start =
    start_there ∙ ap (λ (i : ℕ). get_or c.args.self.now.stride i (pos 0) *ℤ c.args.walk.start) is_axis in
    let fits_axis : SFits w64 (get_or c.args.self.now.stride c.args.axis (pos 0)) =
    subst (λ (i : ℕ). SFits w64 (get_or c.args.self.now.stride i (pos 0))) is_axis fits in
    let size : unsigned_abs c.led_by-start.result ≤ 2 ^ 63 * 2 ^ 63 =
    led-size c.led_by-start.result (get_or c.args.self.now.stride c.args.axis (pos 0)) c.args.walk.start
    (2 ^ 63) e fits_axis (omega (arith, ints, fits_start)) in
    omega (arith, ints, size)

pub view-requires-clause-shape : goal.view-requires-clause-shape
view-requires-clause-shape c =
    let fits : SFits w64 (get_or c.args.self.now.stride c.from.result (pos 0)) = search rules in
    let fits_start : SFits w64 c.args.walk.start = search rules in
    let fits_step : SFits w64 c.args.walk.step = search rules in
    let fits_far : SFits w128 c.led_by-step.result = search rules in
    let is_axis : c.from.result ≡ c.args.axis = omega arith in
    let start_there : c.led_by-start.result ≡
    get_or c.args.self.now.stride c.from.result (pos 0) *ℤ c.args.walk.start =
    simp to_z-of_z at c.led_by-start.ensures in
    let step_there : c.led_by-step.result ≡ get_or c.args.self.now.stride c.from.result (pos 0) *ℤ c.args.walk.step =
    simp to_z-of_z at c.led_by-step.ensures in
    let e : c.led_by-start.result ≡ get_or c.args.self.now.stride c.args.axis (pos 0) *ℤ c.args.walk.start =
    start_there ∙ ap (λ (i : ℕ). get_or c.args.self.now.stride i (pos 0) *ℤ c.args.walk.start) is_axis in
    let g : c.led_by-step.result ≡ get_or c.args.self.now.stride c.args.axis (pos 0) *ℤ c.args.walk.step = step_there ∙
    ap (λ (i : ℕ). get_or c.args.self.now.stride i (pos 0) *ℤ c.args.walk.step) is_axis in
    let placed : c.replaced-stride.result ≡ set c.widened-wide.result c.args.axis c.led_by-step.result =
    simp to_z-of_z at c.replaced-stride.ensures in
    let s : c.replaced-stride.result ≡
    set c.args.self.now.stride c.args.axis
    (get_or c.args.self.now.stride c.args.axis (pos 0) *ℤ c.args.walk.step) = placed ∙
    ap₂ (λ (xs : List ℤ) (z : ℤ). set xs c.args.axis z) c.widened-wide.ensures g in
    picked-shape c.args.self.now.rank c.args.axis c.args.self.now.length c.args.self.now.extent
    c.replaced-extent.result c.args.self.now.offset
    (c.args.self.now.offset +ℤ (get_or c.args.self.now.stride c.args.axis (pos 0) *ℤ c.args.walk.start))
    c.args.self.now.stride c.replaced-stride.result c.args.walk c.args.self.now.shape (search rules)
    (search rules) c.requires.axis c.requires.within c.replaced-extent.ensures s refl

pub view-requires-clause-within : goal.view-requires-clause-within
view-requires-clause-within c =
    let fits : SFits w64 (get_or c.args.self.now.stride c.from.result (pos 0)) = search rules in
    let fits_start : SFits w64 c.args.walk.start = search rules in
    let fits_step : SFits w64 c.args.walk.step = search rules in
    let fits_far : SFits w128 c.led_by-step.result = search rules in
    let is_axis : c.from.result ≡ c.args.axis = omega arith in
    let start_there : c.led_by-start.result ≡
    get_or c.args.self.now.stride c.from.result (pos 0) *ℤ c.args.walk.start =
    simp to_z-of_z at c.led_by-start.ensures in
    let step_there : c.led_by-step.result ≡ get_or c.args.self.now.stride c.from.result (pos 0) *ℤ c.args.walk.step =
    simp to_z-of_z at c.led_by-step.ensures in
    let e : c.led_by-start.result ≡ get_or c.args.self.now.stride c.args.axis (pos 0) *ℤ c.args.walk.start =
    start_there ∙ ap (λ (i : ℕ). get_or c.args.self.now.stride i (pos 0) *ℤ c.args.walk.start) is_axis in
    let g : c.led_by-step.result ≡ get_or c.args.self.now.stride c.args.axis (pos 0) *ℤ c.args.walk.step = step_there ∙
    ap (λ (i : ℕ). get_or c.args.self.now.stride i (pos 0) *ℤ c.args.walk.step) is_axis in
    let placed : c.replaced-stride.result ≡ set c.widened-wide.result c.args.axis c.led_by-step.result =
    simp to_z-of_z at c.replaced-stride.ensures in
    let s : c.replaced-stride.result ≡
    set c.args.self.now.stride c.args.axis
    (get_or c.args.self.now.stride c.args.axis (pos 0) *ℤ c.args.walk.step) = placed ∙
    ap₂ (λ (xs : List ℤ) (z : ℤ). set xs c.args.axis z) c.widened-wide.ensures g in
    picked-within c.args.self.now.rank c.args.axis c.args.self.now.length c.args.self.now.extent
    c.replaced-extent.result c.args.self.now.offset _ c.args.self.now.stride c.replaced-stride.result c.args.walk
    c.args.self.now.shape (search rules)
    (search rules) c.requires.axis c.requires.within c.replaced-extent.ensures s
    (omega (arith, ints, e, c.plus-offset.ensures)) c.args.self.now.within

pub view-requires-clause-apart : goal.view-requires-clause-apart
view-requires-clause-apart c =
    let fits : SFits w64 (get_or c.args.self.now.stride c.from.result (pos 0)) = search rules in
    let fits_start : SFits w64 c.args.walk.start = search rules in
    let fits_step : SFits w64 c.args.walk.step = search rules in
    let fits_far : SFits w128 c.led_by-step.result = search rules in
    let is_axis : c.from.result ≡ c.args.axis = omega arith in
    let start_there : c.led_by-start.result ≡
    get_or c.args.self.now.stride c.from.result (pos 0) *ℤ c.args.walk.start =
    simp to_z-of_z at c.led_by-start.ensures in
    let step_there : c.led_by-step.result ≡ get_or c.args.self.now.stride c.from.result (pos 0) *ℤ c.args.walk.step =
    simp to_z-of_z at c.led_by-step.ensures in
    let e : c.led_by-start.result ≡ get_or c.args.self.now.stride c.args.axis (pos 0) *ℤ c.args.walk.start =
    start_there ∙ ap (λ (i : ℕ). get_or c.args.self.now.stride i (pos 0) *ℤ c.args.walk.start) is_axis in
    let g : c.led_by-step.result ≡ get_or c.args.self.now.stride c.args.axis (pos 0) *ℤ c.args.walk.step = step_there ∙
    ap (λ (i : ℕ). get_or c.args.self.now.stride i (pos 0) *ℤ c.args.walk.step) is_axis in
    let placed : c.replaced-stride.result ≡ set c.widened-wide.result c.args.axis c.led_by-step.result =
    simp to_z-of_z at c.replaced-stride.ensures in
    let s : c.replaced-stride.result ≡
    set c.args.self.now.stride c.args.axis
    (get_or c.args.self.now.stride c.args.axis (pos 0) *ℤ c.args.walk.step) = placed ∙
    ap₂ (λ (xs : List ℤ) (z : ℤ). set xs c.args.axis z) c.widened-wide.ensures g in
    picked-apart c.args.self.now.rank c.args.axis c.args.self.now.length c.args.self.now.extent
    c.replaced-extent.result c.args.self.now.offset _ c.args.self.now.stride c.replaced-stride.result c.args.walk
    c.args.self.now.shape (search rules)
    (search rules) c.requires.axis c.requires.within c.replaced-extent.ensures s
    (omega (arith, ints, e, c.plus-offset.ensures)) c.args.self.now.apart

pub returns : goal.returns
returns c =
    let fits : SFits w64 (get_or c.args.self.now.stride c.from.result (pos 0)) = search rules in
    let fits_start : SFits w64 c.args.walk.start = search rules in
    let fits_step : SFits w64 c.args.walk.step = search rules in
    let fits_far : SFits w128 c.led_by-step.result = search rules in
    let is_axis : c.from.result ≡ c.args.axis = omega arith in
    let start_there : c.led_by-start.result ≡
    get_or c.args.self.now.stride c.from.result (pos 0) *ℤ c.args.walk.start =
    simp to_z-of_z at c.led_by-start.ensures in
    let step_there : c.led_by-step.result ≡ get_or c.args.self.now.stride c.from.result (pos 0) *ℤ c.args.walk.step =
    simp to_z-of_z at c.led_by-step.ensures in
    let e : c.led_by-start.result ≡ get_or c.args.self.now.stride c.args.axis (pos 0) *ℤ c.args.walk.start =
    start_there ∙ ap (λ (i : ℕ). get_or c.args.self.now.stride i (pos 0) *ℤ c.args.walk.start) is_axis in
    let g : c.led_by-step.result ≡ get_or c.args.self.now.stride c.args.axis (pos 0) *ℤ c.args.walk.step = step_there ∙
    ap (λ (i : ℕ). get_or c.args.self.now.stride i (pos 0) *ℤ c.args.walk.step) is_axis in
    let placed : c.replaced-stride.result ≡ set c.widened-wide.result c.args.axis c.led_by-step.result =
    simp to_z-of_z at c.replaced-stride.ensures in
    let s : c.replaced-stride.result ≡
    set c.args.self.now.stride c.args.axis
    (get_or c.args.self.now.stride c.args.axis (pos 0) *ℤ c.args.walk.step) = placed ∙
    ap₂ (λ (xs : List ℤ) (z : ℤ). set xs c.args.axis z) c.widened-wide.ensures g in
    let count : c.args.walk.count ≡ length (picks c.args.walk) = sym (length-picks c.args.walk) in
    record {
      buffer = c.view.ensures.buffer;
      length = c.view.ensures.length;
      extents = c.view.ensures.extents ∙
          picked-extents c.args.self.now.rank c.args.axis c.args.self.now.length c.args.self.now.extent
          c.replaced-extent.result c.args.self.now.offset
          (c.args.self.now.offset +ℤ (get_or c.args.self.now.stride c.args.axis (pos 0) *ℤ c.args.walk.start))
          c.args.self.now.stride c.replaced-stride.result c.args.walk c.args.self.now.shape (search rules)
          (search rules) c.requires.axis c.requires.within c.replaced-extent.ensures s refl ∙
          ap (set (take c.args.self.now.rank c.args.self.now.extent) c.args.axis) count;
      places = c.view.ensures.places ∙ picked-places c.args.self.now.rank c.args.axis c.args.self.now.length
          c.args.self.now.extent c.replaced-extent.result c.args.self.now.offset _ c.args.self.now.stride
          c.replaced-stride.result c.args.walk c.args.self.now.shape (search rules)
          (search rules) c.requires.axis c.requires.within c.replaced-extent.ensures s
          (omega (arith, ints, e, c.plus-offset.ensures));
    }

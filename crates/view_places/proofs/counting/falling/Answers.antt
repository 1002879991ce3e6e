use Rattle.std.proofs.Common.{◌≡◌, arith, rules, ap, ◌∙◌, ℤ, pos, negsuc, ◌-ℤ◌, unsigned_abs, SFits, w64, to_z-of_z}
use Rattle.std.proofs.lemmas.Int.{ints}
use Rattle.view_places.specs.Slice.{bound, IsDistance}
use Rattle.view_places.proofs.Picks.{falling-picks, falling-stays}
use Rattle.view_places.proofs.counting.falling.Goals as goal

pub returns-clause-value : goal.returns-clause-value
returns-clause-value c =
    let fits_start : SFits w64 c.bound_of-start.result = search rules in
    let fits_stop : SFits w64 c.bound_of-stop.result = search rules in
    let fits_step : SFits w64 c.args.step = search rules in
    let fits_from : SFits w64 c.from-most.result = search rules in
    let fits_most : SFits w64 (c.from-most.result -ℤ pos 1) = search (rules, ints) in
    let is_most : c.from-most.result -ℤ pos 1 ≡ pos c.args.n -ℤ pos 1 = omega (arith, ints) in
    let first : c.bound_of-start.result ≡
    bound c.args.n (negsuc 0) (c.from-most.result -ℤ pos 1) (c.from-most.result -ℤ pos 1) c.args.s.now.start =
    simp to_z-of_z at c.bound_of-start.ensures.value in
    let last : c.bound_of-stop.result ≡
    bound c.args.n (negsuc 0) (c.from-most.result -ℤ pos 1) (negsuc 0) c.args.s.now.stop =
    simp to_z-of_z at c.bound_of-stop.ensures.value in
    let far : IsDistance c.bound_of-stop.result c.bound_of-start.result c.distance-far.result =
    simp to_z-of_z at c.distance-far.ensures in
    let size : c.unsigned_abs.result ≡ unsigned_abs c.args.step = simp to_z-of_z at c.unsigned_abs.ensures.value in
    falling-picks c.args.n _ c.bound_of-start.result c.bound_of-stop.result c.args.step c.distance-far.result
    c.unsigned_abs.result (to_z-of_z fits_start) (to_z-of_z fits_step) size
    c.steps_in-count.ensures.steps c.steps_in-count.ensures.few
    (bound c.args.n (negsuc 0) (pos c.args.n -ℤ pos 1) (pos c.args.n -ℤ pos 1) c.args.s.now.start)
    (bound c.args.n (negsuc 0) (pos c.args.n -ℤ pos 1) (negsuc 0) c.args.s.now.stop)
    (first ∙ ap (λ (z : ℤ). bound c.args.n (negsuc 0) z z c.args.s.now.start) is_most)
    (last ∙ ap (λ (z : ℤ). bound c.args.n (negsuc 0) z (negsuc 0) c.args.s.now.stop) is_most)
    c.requires.step far (omega (arith, ints, c.bound_of-stop.ensures.least))
    (omega (arith, ints, is_most, c.bound_of-start.ensures.most))

pub returns-clause-within : goal.returns-clause-within
returns-clause-within c =
    let fits_start : SFits w64 c.bound_of-start.result = search rules in
    let fits_stop : SFits w64 c.bound_of-stop.result = search rules in
    let fits_step : SFits w64 c.args.step = search rules in
    let far : IsDistance c.bound_of-stop.result c.bound_of-start.result c.distance-far.result =
    simp to_z-of_z at c.distance-far.ensures in
    let size : c.unsigned_abs.result ≡ unsigned_abs c.args.step = simp to_z-of_z at c.unsigned_abs.ensures.value in
    falling-stays c.args.n _ c.bound_of-start.result c.bound_of-stop.result c.args.step c.distance-far.result
    c.unsigned_abs.result (to_z-of_z fits_start) (to_z-of_z fits_step) size
    c.steps_in-count.ensures.steps c.steps_in-count.ensures.few
    c.requires.step far (omega (arith, ints, c.bound_of-stop.ensures.least))
    (omega (arith, ints, c.bound_of-start.ensures.most))

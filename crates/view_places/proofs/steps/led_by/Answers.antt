use Rattle.std.proofs.Common.{◌^◌, arith, lit<, to_z, of_z}
use mir.Syntax.{w128}
use Rattle.std.proofs.lemmas.Int.{ints}
use Rattle.std.proofs.lemmas.Int.{fits_signed_mul}
use Rattle.view_places.proofs.steps.led_by.Goals as goal

pub overflow_mul-result : goal.overflow_mul-result
overflow_mul-result c =
    fits_signed_mul w128 (to_z w128 (of_z w128 c.from.result)) (to_z w128 (of_z w128 c.from-2.result)) (2 ^ 63)
    (2 ^ 63) (omega (arith, ints)) (omega (arith, ints)) (lit< tt)

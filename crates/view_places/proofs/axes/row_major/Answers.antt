use Rattle.std.proofs.Common.{arith, rules}
use Rattle.std.proofs.lemmas.Int.{ints}
use Rattle.view_places.proofs.Fours.{four-weights}
use Rattle.view_places.proofs.axes.row_major.Goals as goal

pub returns : goal.returns
returns c = four-weights c.args.extent.now _ _ _ _ (search rules) (omega (arith, ints)) (omega (arith, ints))
    (omega (arith, ints)) (omega (arith, ints))

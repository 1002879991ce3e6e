use Rattle.std.proofs.Common.{arith, rules, pos}
use Rattle.std.proofs.lemmas.Int.{ints}
use Rattle.view_places.proofs.Fours.{four-same}
use Rattle.view_places.proofs.axes.widened.Goals as goal

pub returns : goal.returns
returns c = four-same c.args.stride.now (pos 0) _ _ _ _ (search rules) (omega (arith, ints)) (omega (arith, ints))
    (omega (arith, ints)) (omega (arith, ints))

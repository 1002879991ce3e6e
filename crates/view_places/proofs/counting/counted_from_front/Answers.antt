use Rattle.std.proofs.Common.{arith}
use Rattle.std.proofs.lemmas.Int.{ints}
use Rattle.view_places.proofs.Picks.{front-behind, front-here}
use Rattle.view_places.proofs.counting.counted_from_front.Goals as goal

pub returns-then-given-lt0 : goal.returns-then-given-lt0
returns-then-given-lt0 c = omega (arith, ints, front-behind c.args.n c.args.given (omega (arith, ints)))

pub returns-else-given-lt0 : goal.returns-else-given-lt0
returns-else-given-lt0 c = omega (arith, ints, front-here c.args.n c.args.given (omega (arith, ints)))

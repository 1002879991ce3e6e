use Rattle.std.proofs.Common.{length}
use Rattle.array_ops.proofs.subscript.+pick_from.Given as goal

abbrev pub decreases-pick_from : goal.decreases-pick_from
decreases-pick_from l = length l.subscripts.now

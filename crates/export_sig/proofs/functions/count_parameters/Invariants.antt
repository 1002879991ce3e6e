use Rattle.std.proofs.Common.{◌≤◌, length, drop}
use Rattle.export_sig.specs.Counts.{HoldsNumbers}
use Rattle.export_sig.proofs.functions.count_parameters.Given as goal

abbrev pub invariant-loop-left : goal.invariant-loop-left
invariant-loop-left l = (l.left ≤ length l.functions) × HoldsNumbers (drop l.left l.functions) l.map

abbrev pub decreases-loop-left : goal.decreases-loop-left
decreases-loop-left l = l.left

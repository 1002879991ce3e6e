use Rattle.std.proofs.Common.{◌≡◌, map, length}
use Rattle.loop_prog.specs.Conditions.{back_type}
use Rattle.eager_rules.specs.Types.{same_types}
use Rattle.loop_prog.proofs.ranks.backs_fit.Given as goal

abbrev pub decreases-loop-left : goal.decreases-loop-left
decreases-loop-left l = length l.left

abbrev pub invariant-loop-left : goal.invariant-loop-left
invariant-loop-left l =
    same_types (map (back_type l.kernel) l.left) l.wanted ≡
    same_types (map (back_type l.kernel) l.values) l.rets

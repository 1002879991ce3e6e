use Rattle.std.proofs.Common.{◌≡◌, map, drop, max}
use Rattle.loop_prog.specs.Conditions.{greatest, view_rank}
use Rattle.loop_prog.proofs.ranks.greatest.Given as goal

abbrev pub invariant-loop-v : goal.invariant-loop-v
invariant-loop-v l =
    max l.most (greatest (map (view_rank l.kernel) (drop l.v-index l.views))) ≡
    greatest (map (view_rank l.kernel) l.views)

use Rattle.std.proofs.Common.{◌≡◌, replicate, false}
use Rattle.loop_prog.proofs.heads.none_assigned.Given as goal

abbrev pub invariant-loop-slot : goal.invariant-loop-slot
invariant-loop-slot l =
    l.slots ≡ replicate l._slot false

use Rattle.std.proofs.Common.{[], drop, take}
use Rattle.loop_prog.specs.Heads.{HoldsHeads}
use Rattle.loop_prog.specs.Judging.{Left}
use Rattle.loop_prog.specs.Check.{kernels_findings}
use Rattle.loop_prog.proofs.checking.check.Given as goal

abbrev pub invariant-loop-k : goal.invariant-loop-k
invariant-loop-k l =
    Left l.number (kernels_findings (take l.k l.kernels) (drop l.k l.kernels)) 0 (kernels_findings [] l.kernels) ×
    HoldsHeads l.heads (take l.k l.kernels)

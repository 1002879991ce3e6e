use Rattle.std.proofs.Common.{◌≡◌, drop}
use Rattle.loop_prog.specs.Paths.{assign}
use Rattle.loop_prog.specs.Undo.{Undoes}
use Rattle.loop_prog.proofs.flows.assign.Given as goal

abbrev pub invariant-loop-register : goal.invariant-loop-register
invariant-loop-register l =
    (assign (drop l.register-index l.regs) l.paths ≡ assign l.regs l.fn.paths) ×
    Undoes l.log l.paths l.fn.log l.fn.paths

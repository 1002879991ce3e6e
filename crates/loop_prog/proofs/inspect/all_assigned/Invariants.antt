use Rattle.std.proofs.Common.{◌≡◌, drop}
use Rattle.std.specs.List.{list_all}
use Rattle.loop_prog.specs.Paths.{is_assigned}
use Rattle.loop_prog.proofs.inspect.all_assigned.Given as goal

abbrev pub invariant-loop-register : goal.invariant-loop-register
invariant-loop-register l =
    list_all (is_assigned l.paths) (drop l.register-index l.regs) ≡ list_all (is_assigned l.paths) l.regs

use Rattle.std.proofs.Common.{◌≡◌, drop}
use Rattle.std.specs.List.{list_all}
use Rattle.loop_prog.specs.Conditions.{is_there}
use Rattle.loop_prog.proofs.inspect.are_there.Given as goal

abbrev pub invariant-loop-register : goal.invariant-loop-register
invariant-loop-register l =
    list_all (is_there l.kernel) (drop l.register-index l.regs) ≡ list_all (is_there l.kernel) l.regs

use Rattle.std.proofs.Common.{◌≡◌, ◌++◌, drop}
use Rattle.loop_prog.proofs.registers.add_regs.Given as goal

abbrev pub invariant-loop-register : goal.invariant-loop-register
invariant-loop-register l =
    l.regs ++ drop l.register-index l.more ≡ l.fn.regs ++ l.more

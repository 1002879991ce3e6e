use Rattle.std.proofs.Common.{◌≡◌, ◌++◌, drop}
use Rattle.std.specs.List.{flat_map}
use Rattle.loop_prog.specs.Statements.{back_regs}
use Rattle.loop_prog.proofs.registers.add_backs.Given as goal

abbrev pub invariant-loop-value : goal.invariant-loop-value
invariant-loop-value l =
    l.regs ++ flat_map back_regs (drop l.value-index l.values) ≡ l.fn.regs ++ flat_map back_regs l.values

use Rattle.std.proofs.Common.{◌≡◌, ◌++◌, drop}
use Rattle.std.specs.List.{flat_map}
use Rattle.loop_prog.specs.Statements.{oper_regs}
use Rattle.loop_prog.proofs.registers.add_opers.Given as goal

abbrev pub invariant-loop-x : goal.invariant-loop-x
invariant-loop-x l =
    l.regs ++ flat_map oper_regs (drop l.x-index l.xs) ≡ l.fn.regs ++ flat_map oper_regs l.xs

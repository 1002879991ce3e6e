use Rattle.std.proofs.Common.{◌≡◌, ◌++◌, drop}
use Rattle.std.specs.List.{flat_map}
use Rattle.loop_prog.specs.Conditions.{guard_regs}
use Rattle.loop_prog.proofs.registers.add_guard.Given as goal

abbrev pub invariant-loop-part : goal.invariant-loop-part
invariant-loop-part l =
    l.regs ++ flat_map guard_regs (drop l.part-index l.parts) ≡ l.fn.regs ++ flat_map guard_regs l.parts

use Rattle.std.proofs.Common.{◌≡◌, ◌++◌, drop}
use Rattle.std.specs.List.{flat_map}
use Rattle.eager_rules.specs.Works.{sub_operands}
use Rattle.loop_prog.specs.Statements.{opers_regs}
use Rattle.loop_prog.proofs.registers.add_subs.Given as goal

abbrev pub invariant-loop-sub : goal.invariant-loop-sub
invariant-loop-sub l =
    l.regs ++ opers_regs (flat_map sub_operands (drop l.sub-index l.subs)) ≡
    l.fn.regs ++ opers_regs (flat_map sub_operands l.subs)

use Rattle.std.proofs.Common.{◌≡◌, ◌++◌, map, drop}
use Rattle.loop_prog.specs.declared.program.Reg.TheVariants as reg
use Rattle.loop_prog.proofs.registers.add_reductions.Given as goal

abbrev pub invariant-loop-reduction : goal.invariant-loop-reduction
invariant-loop-reduction l =
    l.regs ++ map (λ p. reg.Word p.1) (drop l.reduction-index l.reductions) ≡
    l.fn.regs ++ map (λ p. reg.Word p.1) l.reductions

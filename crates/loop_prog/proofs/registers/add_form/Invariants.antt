use Rattle.std.proofs.Common.{◌≡◌, ◌++◌, map, drop}
use Rattle.loop_prog.specs.Conditions.{symbol_reg}
use Rattle.loop_prog.proofs.registers.add_form.Given as goal

abbrev pub invariant-loop-term : goal.invariant-loop-term
invariant-loop-term l =
    l.regs ++ map symbol_reg (drop l.term-index l.form.terms) ≡ l.fn.regs ++ map symbol_reg l.form.terms

use Rattle.std.proofs.Common.{◌≡◌, ◌++◌, drop}
use Rattle.std.specs.List.{flat_map}
use Rattle.loop_prog.specs.Statements.{step_regs}
use Rattle.loop_prog.proofs.registers.add_steps.Given as goal

abbrev pub invariant-loop-step : goal.invariant-loop-step
invariant-loop-step l =
    l.regs ++ flat_map step_regs (drop l.step-index l.steps) ≡ l.fn.regs ++ flat_map step_regs l.steps

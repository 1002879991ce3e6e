use Rattle.std.proofs.Common.{◌≡◌, drop}
use Rattle.std.specs.List.{list_all}
use Rattle.loop_prog.specs.Conditions.{small_step}
use Rattle.loop_prog.proofs.templates.small_steps.Given as goal

abbrev pub invariant-loop-step : goal.invariant-loop-step
invariant-loop-step l =
    list_all small_step (drop l.step-index l.steps) ≡ list_all small_step l.steps

use Rattle.std.proofs.Common.{◌≡◌, drop}
use Rattle.std.proofs.Common.{◌≤◌}
use Rattle.loop_prog.specs.Conditions.{depth_after}
use Rattle.loop_prog.proofs.templates.makes_one.Given as goal

abbrev pub invariant-loop-step : goal.invariant-loop-step
invariant-loop-step l =
    (depth_after (drop l.step-index l.steps) l.depth ≡ depth_after l.steps 0) × (l.depth ≤ l.step-index)

use Rattle.std.proofs.Common.{◌≡◌, drop}
use Rattle.loop_prog.specs.Conditions.{some_views}
use Rattle.loop_prog.specs.Templates.{leaves}
use Rattle.loop_prog.proofs.templates.has_leaf.Given as goal

abbrev pub invariant-loop-step : goal.invariant-loop-step
invariant-loop-step l =
    some_views (leaves (drop l.step-index l.steps)) ≡ some_views (leaves l.steps)

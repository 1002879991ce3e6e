use Rattle.std.proofs.Common.{◌≡◌, take}
use Rattle.loop_prog.specs.Templates.{leaves}
use Rattle.lazy_expr.proofs.template.leaves.Given as goal

abbrev pub invariant-loop-step : goal.invariant-loop-step
invariant-loop-step l = l.views ≡ leaves (take l.step-index l.steps)

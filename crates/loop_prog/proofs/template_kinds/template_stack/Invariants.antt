use Rattle.std.proofs.Common.{◌≡◌, drop, reverse}
use Rattle.loop_prog.specs.Conditions.{push_kinds, template_stack, Kinds}
use Rattle.loop_prog.proofs.template_kinds.template_stack.Given as goal

abbrev pub invariant-loop-step : goal.invariant-loop-step
invariant-loop-step l =
    push_kinds l.kernel (Kinds (reverse l.kinds.items)) (drop l.step-index l.steps) ≡ template_stack l.kernel l.steps

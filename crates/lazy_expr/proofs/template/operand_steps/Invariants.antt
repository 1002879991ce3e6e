use Rattle.std.proofs.Common.{◌≡◌, map, take}
use Rattle.lazy_expr.specs.Plain.{operand_step}
use Rattle.lazy_expr.proofs.template.operand_steps.Given as goal

abbrev pub invariant-loop-x : goal.invariant-loop-x
invariant-loop-x l = l.steps ≡ map (operand_step l.table) (take l.x-index l.args)

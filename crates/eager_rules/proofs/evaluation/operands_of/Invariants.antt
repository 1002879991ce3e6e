use Rattle.std.proofs.Common.{◌≡◌, map, take}
use Rattle.eager_rules.specs.Running.{meanings}
use Rattle.eager_rules.specs.State.{bound_to}
use Rattle.eager_rules.proofs.evaluation.operands_of.Given as goal

-- those of the arguments so far
abbrev pub invariant-loop-arg : goal.invariant-loop-arg
invariant-loop-arg l = meanings l.operands ≡ map bound_to (take l.arg-index l.args)

use Rattle.std.proofs.Common.{◌≡◌, replicate}
use Rattle.array_ops.specs.Elements.{Unbound}
use Rattle.eager_rules.specs.Running.{meanings}
use Rattle.eager_rules.proofs.eval.unbound.Given as goal

-- the names so far
abbrev pub invariant-loop-name : goal.invariant-loop-name
invariant-loop-name l = meanings l.names ≡ replicate l._name Unbound

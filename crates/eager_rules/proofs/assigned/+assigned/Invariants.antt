use Rattle.std.proofs.Common.{◌≡◌, drop}
use Rattle.eager_rules.specs.Assigned.{bindings, outside}
use Rattle.eager_rules.specs.Sound.{walk}
use Rattle.eager_rules.proofs.assigned.+assigned.Given as goal

-- what is left of the block comes to what the whole comes to
abbrev pub invariant-block-loop-core : goal.invariant-block-loop-core
invariant-block-loop-core l = record {
  walked : walk (drop l.core-index l.body) (bindings l.names) ≡ walk l.body (bindings l.fn.names);
  outside : outside l.names ≡ outside l.fn.names;
}

use Rattle.std.proofs.Common.{◌≡◌, drop}
use Rattle.eager_rules.specs.Small.{all_small}
use Rattle.eager_rules.proofs.small.+is_small.Given as goal

-- what is left of the block passes as the whole does
abbrev pub invariant-all_small-loop-core : goal.invariant-all_small-loop-core
invariant-all_small-loop-core l = all_small (drop l.core-index l.body) ≡ all_small l.body

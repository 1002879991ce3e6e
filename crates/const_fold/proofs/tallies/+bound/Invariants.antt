use Rattle.std.proofs.Common.{◌≡◌, ◌++◌, drop}
use Rattle.eager_rules.specs.Statements.{binds}
use Rattle.const_fold.proofs.tallies.+bound.Given as goal

abbrev pub invariant-add_all_bound-loop-core : goal.invariant-add_all_bound-loop-core
invariant-add_all_bound-loop-core l =
    l.list ++ binds (drop l.core-index l.block) ≡ l.fn.list ++ binds l.block

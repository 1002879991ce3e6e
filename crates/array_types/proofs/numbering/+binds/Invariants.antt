use Rattle.std.proofs.Common.{◌≡◌, ◌++◌, take}
use Rattle.eager_rules.specs.Statements.{binds}
use Rattle.array_types.proofs.numbering.+binds.Given as goal

abbrev pub invariant-add_all_bound-loop-core : goal.invariant-add_all_bound-loop-core
invariant-add_all_bound-loop-core l = l.out ≡ l.fn.out ++ binds (take l.core-index l.block)

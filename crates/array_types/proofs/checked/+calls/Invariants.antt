use Rattle.std.proofs.Common.{◌≡◌, ◌++◌, take}
use Rattle.eager_rules.specs.Statements.{calls_of}
use Rattle.array_types.proofs.checked.+calls.Given as goal

abbrev pub invariant-add_all_calls-loop-core : goal.invariant-add_all_calls-loop-core
invariant-add_all_calls-loop-core l =
    l.out ≡ l.fn.out ++ calls_of (take l.core-index l.block)

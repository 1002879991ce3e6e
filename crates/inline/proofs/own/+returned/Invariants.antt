use Rattle.std.proofs.Common.{◌≡◌, ◌++◌, drop}
use Rattle.inline.specs.Own.{returned}
use Rattle.inline.proofs.own.+returned.Given as goal

abbrev pub invariant-add_all_returned-loop-core : goal.invariant-add_all_returned-loop-core
invariant-add_all_returned-loop-core l =
    l.list ++ returned (drop l.core-index l.block) ≡ l.fn.list ++ returned l.block

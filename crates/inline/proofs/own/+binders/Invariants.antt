use Rattle.std.proofs.Common.{◌≡◌, ◌++◌, drop}
use Rattle.inline.specs.Own.{binders}
use Rattle.inline.proofs.own.+binders.Given as goal

abbrev pub invariant-add_all_binders-loop-core : goal.invariant-add_all_binders-loop-core
invariant-add_all_binders-loop-core l =
    l.list ++ binders l.name (drop l.core-index l.block) ≡ l.fn.list ++ binders l.name l.block

use Rattle.std.proofs.Common.{◌≡◌, ◌++◌, drop}
use Rattle.const_fold.specs.Folded.{reduced}
use Rattle.const_fold.proofs.tallies.+reduced.Given as goal

abbrev pub invariant-add_all_reduced-loop-core : goal.invariant-add_all_reduced-loop-core
invariant-add_all_reduced-loop-core l =
    l.list ++ reduced (drop l.core-index l.block) ≡ l.fn.list ++ reduced l.block

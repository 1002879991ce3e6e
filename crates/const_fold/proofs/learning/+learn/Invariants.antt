use Rattle.std.proofs.Common.{◌≡◌, drop}
use Rattle.const_fold.specs.Folded.{learn}
use Rattle.const_fold.proofs.learning.+learn.Given as goal

abbrev pub invariant-learn_all-loop-core : goal.invariant-learn_all-loop-core
invariant-learn_all-loop-core l =
    learn l.f (drop l.core-index l.block) l.table.items ≡ learn l.f l.block l.fn.table.items

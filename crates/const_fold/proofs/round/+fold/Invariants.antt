use Rattle.std.proofs.Common.{◌≡◌, ◌++◌, ◌+◌, ◌*◌, drop, max}
use denote.Param.Weighed.{most}
use Rattle.eager_rules.specs.declared.program.Core.{size-Core}
use Rattle.const_fold.specs.Folded.{folded_block}
use Rattle.const_fold.proofs.round.+fold.Given as goal

abbrev pub invariant-fold_all-loop-core : goal.invariant-fold_all-loop-core
invariant-fold_all-loop-core l =
    l.body ++ folded_block l.table (drop l.core-index l.block) ≡ l.fn.body ++ folded_block l.table l.block

-- each function between a statement and its blocks has a rank
abbrev pub decreases-fold : goal.decreases-fold
decreases-fold l = 4 * goal.size-fold l + 1

abbrev pub decreases-fold_all : goal.decreases-fold_all
decreases-fold_all l = 4 * goal.size-fold_all l + 2

abbrev pub decreases-folded_block : goal.decreases-folded_block
decreases-folded_block l = 4 * goal.size-folded_block l + 3

abbrev pub decreases-fold_if : goal.decreases-fold_if
decreases-fold_if l = 4 * max (most size-Core l.yes.now) (most size-Core l.no.now) + 4

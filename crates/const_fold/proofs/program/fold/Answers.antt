use Rattle.std.proofs.Common.{sym, subst}
use Rattle.const_fold.specs.Promise.{IsSettled, KeepsKernels}
use Rattle.inline.specs.Kept.{HasOutcomes}
use Rattle.const_fold.proofs.program.fold.Goals as goal

pub returns-clause-kernels : goal.returns-clause-kernels
returns-clause-kernels c =
    subst (KeepsKernels c.args.program.now) (sym c.in_ok-folded.ensures)
    (c.folded_keeps_kernels.ensures c.args.program.now)

pub returns-clause-outcomes : goal.returns-clause-outcomes
returns-clause-outcomes c sound free =
    subst (HasOutcomes c.args.program.now) (sym c.in_ok-folded.ensures)
    (c.folding_keeps_outcomes.ensures c.args.program.now sound free)

pub returns-clause-settled : goal.returns-clause-settled
returns-clause-settled c =
    subst IsSettled (sym c.in_ok-folded.ensures) (c.folded_is_settled.ensures c.args.program.now)

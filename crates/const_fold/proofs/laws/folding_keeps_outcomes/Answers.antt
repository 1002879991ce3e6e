use Rattle.const_fold.proofs.FoldOutcomes.{has_outcomes}
use Rattle.const_fold.proofs.laws.folding_keeps_outcomes.Goals as goal

pub returns : goal.returns
returns c program sound free =
    has_outcomes program sound (c.laws_of_all_programs.ensures.ends program sound) free

use Rattle.inline.proofs.DropOutcomes.{same_outcomes}
use Rattle.inline.proofs.dropping.dropped_outcome_law.Goals as goal

pub returns : goal.returns
returns c program effects sound writes faults =
    same_outcomes program effects sound (c.laws_of_all_programs.ensures.ends program sound) writes faults

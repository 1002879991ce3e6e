use Rattle.inline.proofs.Outcomes.{has_outcomes}
use Rattle.inline.proofs.laws.flat_keeps_outcomes.Goals as goal

pub returns : goal.returns
returns c program sound = has_outcomes c.laws_of_all_programs.ensures.ends program sound

use Rattle.overlap.proofs.WalkLemmas.{both-ways}
use Rattle.overlap.proofs.verdicts.walk_law.Goals as goal

pub returns : goal.returns
returns c = both-ways

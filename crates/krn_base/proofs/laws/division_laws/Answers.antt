use Rattle.krn_base.proofs.Division.{put_together}
use Rattle.krn_base.proofs.laws.division_laws.Goals as goal

pub returns-clause-words : goal.returns-clause-words
returns-clause-words c = put_together

use Rattle.const_fold.proofs.Settled.{program_settled}
use Rattle.const_fold.proofs.laws.folded_is_settled.Goals as goal

pub returns : goal.returns
returns c program = program_settled program

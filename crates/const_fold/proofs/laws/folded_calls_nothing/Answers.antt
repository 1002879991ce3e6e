use Rattle.const_fold.proofs.FoldSound.{calls_nothing}
use Rattle.const_fold.proofs.laws.folded_calls_nothing.Goals as goal

pub returns : goal.returns
returns c program free = calls_nothing program free

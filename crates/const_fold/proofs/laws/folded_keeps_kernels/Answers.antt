use Rattle.const_fold.proofs.FoldSound.{keeps_kernels}
use Rattle.const_fold.proofs.laws.folded_keeps_kernels.Goals as goal

pub returns : goal.returns
returns c program = keeps_kernels program

use Rattle.loop_exec.specs.Starts.{all_runnable}
use Rattle.loop_exec.proofs.ListLemmas.{item_test}
use Rattle.loop_exec.proofs.evaluation.one_runnable.Goals as goal

pub returns : goal.returns
returns c = item_test (λ k. all_runnable k.body) c.args.kernels.now c.requires c.args.number

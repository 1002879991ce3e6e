use Rattle.loop_exec.specs.Starts.{is_runnable}
use Rattle.loop_exec.proofs.ListLemmas.{each_test}
use Rattle.loop_exec.proofs.run.each_runnable.Goals as goal

pub returns : goal.returns
returns c = each_test is_runnable c.args.body.now c.requires

use Rattle.loop_exec.proofs.CheckedRuns.{checked_runs}
use Rattle.loop_exec.proofs.laws.checked_is_runnable.Goals as goal

pub returns : goal.returns
returns c = checked_runs c.args.program.now.kernels c.requires.checked c.requires.serial

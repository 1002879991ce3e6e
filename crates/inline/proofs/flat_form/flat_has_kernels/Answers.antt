use Rattle.inline.specs.Idle.{calm_in}
use Rattle.inline.proofs.Kernels.{has_kernels}
use Rattle.inline.proofs.flat_form.flat_has_kernels.Goals as goal

pub returns : goal.returns
returns c = has_kernels c.args.program.now (calm_in c.args.program.now c.args.effects.now)

use Rattle.inline.proofs.Calms.{calm_exactly}
use Rattle.inline.proofs.flat_form.calm_are_calm.Goals as goal

pub returns : goal.returns
returns c = calm_exactly c.args.program.now c.args.effects.now c.requires

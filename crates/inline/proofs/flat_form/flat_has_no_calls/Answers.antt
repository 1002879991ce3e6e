use Rattle.inline.specs.Idle.{calm_in}
use Rattle.inline.proofs.NoCalls.{flat_has_no_calls}
use Rattle.inline.proofs.flat_form.flat_has_no_calls.Goals as goal

pub returns : goal.returns
returns c = flat_has_no_calls c.args.program.now (calm_in c.args.program.now c.args.effects.now)

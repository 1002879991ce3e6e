use Rattle.inline.proofs.flat_form.flat_keeps_outcomes.Goals as goal

pub returns : goal.returns
returns c = c.flat_form_keeps_outcomes.ensures c.args.program.now c.args.effects.now

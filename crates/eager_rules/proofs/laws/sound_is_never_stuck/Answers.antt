use Rattle.eager_rules.proofs.NeverStuck.{never_stuck}
use Rattle.eager_rules.proofs.laws.sound_is_never_stuck.Goals as goal

pub returns : goal.returns
returns c = record { ends = never_stuck c.args.program.now c.requires.sound }

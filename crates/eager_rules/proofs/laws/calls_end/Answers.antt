use Rattle.eager_rules.proofs.Chains.{deep_enough}
use Rattle.eager_rules.proofs.laws.calls_end.Goals as goal

pub returns : goal.returns
returns c = record { depth = deep_enough c.args.program.now c.requires.typed.no_cycle }

use Rattle.eager_rules.proofs.KeptBuffers.{begins_typed, keeps_types}
use Rattle.eager_rules.proofs.NeverStuck.{never_stuck}
use Rattle.eager_rules.proofs.laws.laws_of_all_programs.Goals as goal

pub returns : goal.returns
returns c = record { ends = never_stuck; keeps = keeps_types; begins = begins_typed }

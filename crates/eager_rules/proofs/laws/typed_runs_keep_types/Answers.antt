use Rattle.eager_rules.proofs.KeptBuffers.{begins_typed, buffers_kept, keeps_types}
use Rattle.eager_rules.proofs.laws.typed_runs_keep_types.Goals as goal

pub returns : goal.returns
returns c = record {
  keeps = keeps_types c.args.program.now c.requires.typed;
  begins = begins_typed c.args.program.now c.requires.typed;
  filled = λ kernel f is call fit. buffers_kept c.args.program.now kernel call f is c.requires.typed fit;
}

use Rattle.std.proofs.Common.{map}
use Rattle.eager_rules.proofs.SmallPowers.{typed_small}
use Rattle.eager_rules.specs.Sound.{head_of}
use Rattle.eager_rules.proofs.laws.typed_has_small_powers.Goals as goal

pub returns : goal.returns
returns c = record {
  small =
      typed_small (map head_of c.args.program.now.instances) c.args.program.now.instances c.requires.typed.instances;
}

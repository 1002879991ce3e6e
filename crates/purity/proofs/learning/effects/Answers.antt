use Rattle.std.proofs.Common.{◌≡◌, sym, subst, List, Option}
use Rattle.eager_rules.specs.declared.program.Instance.{Instance}
use Rattle.purity.specs.Answers.{AreEffects}
use Rattle.purity.specs.Knowledge.{KnowsAll}
use Rattle.purity.specs.declared.answers.Effects.{Effects}
use Rattle.purity.proofs.Sounds.{effects_exact, faults_never, writes_no_others}
use Rattle.purity.proofs.learning.effects.Goals as goal

pub returns : goal.returns
returns c =
    let made : Effects = record { known = c.from_vec.result } in
    let knows : KnowsAll c.args.program.now.instances c.from_vec.result =
    subst (KnowsAll c.args.program.now.instances) (sym c.from_vec.ensures)
    (subst (λ (is : List Instance). KnowsAll is c.in_ok-known.known.items) c.as_slice.ensures c.in_ok-known.ensures) in
    let exact : AreEffects c.args.program.now made = effects_exact c.args.program.now made knows in
    record {
      exact = exact;
      writes = λ sound. writes_no_others c.args.program.now made exact sound;
      faults = λ sound. faults_never c.args.program.now made exact sound;
    }

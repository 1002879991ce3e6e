use Rattle.std.proofs.Common.{◌∙◌, ap, refl}
use Rattle.const_fold.specs.Folded.{folded_program}
use Rattle.pythran_main.proofs.Flats.{flattened_so, kept_so, refused_so}
use Rattle.pythran_main.proofs.flattening.with_flat_form.Goals as goal

pub returns-in_ok-flat-in-Ok-clause-one : goal.returns-in_ok-flat-in-Ok-clause-one
returns-in_ok-flat-in-Ok-clause-one c =
    flattened_so c.args.signatures.now c.args.program
    (record { program = c.args.program; flat = c.in_ok-flat-in-Ok.flat })
    (record {
      is_same = refl;
      accepted = c.in-Ok.ensures.accepted;
      flat_form = record {
        effects = c.in_ok-effects.effects;
        exact = c.in_ok-effects.ensures.exact;
        form = c.in_ok-flat-in-Ok.ensures.form ∙ ap folded_program c.in-Ok.ensures.form;
      };
    })

pub returns-in_ok-flat-in-Ok-clause-kept : goal.returns-in_ok-flat-in-Ok-clause-kept
returns-in_ok-flat-in-Ok-clause-kept c =
    let given = c.in_ok-effects.ensures in
    let flat = c.in-Ok.ensures in
    let folded = c.in_ok-flat-in-Ok.ensures in
    kept_so c.args.program c.in-Ok.inlined c.in_ok-flat-in-Ok.flat folded.kernels flat.kernels c.requires.typed
    flat.flat folded.flat flat.sound folded.sound
    (λ sound. flat.outcomes sound (given.writes sound) (given.faults sound)) folded.outcomes

pub returns-in-Err-clause-one : goal.returns-in-Err-clause-one
returns-in-Err-clause-one c = refused_so c.args.signatures.now c.args.program c.in-Err.stop c.in-Err.ensures.refused

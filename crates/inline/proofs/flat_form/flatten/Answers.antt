use Rattle.std.proofs.Common.{subst, sym}
use Rattle.eager_rules.specs.Sound.{IsSound}
use Rattle.eager_rules.specs.declared.program.Program.{Program}
use Rattle.inline.specs.Heads.{HasKernels}
use Rattle.inline.specs.Idle.{calm_in}
use Rattle.inline.specs.Kept.{RankedOutcomes}
use Rattle.inline.proofs.flat_form.flatten.Goals as goal

pub returns-in_ok-flat-in-None-clause-outcomes : goal.returns-in_ok-flat-in-None-clause-outcomes
returns-in_ok-flat-in-None-clause-outcomes c sound writes faults =
    subst (λ (flat : Program). RankedOutcomes c.args.program.now flat) (sym c.in_ok-flat-in-None.ensures)
    (c.flat_keeps_outcomes.ensures sound writes faults)

pub returns-in_ok-flat-in-None-clause-kernels : goal.returns-in_ok-flat-in-None-clause-kernels
returns-in_ok-flat-in-None-clause-kernels c =
    subst (λ (flat : Program). HasKernels c.args.program.now flat) (sym c.in_ok-flat-in-None.ensures)
    c.flat_has_kernels.ensures

pub returns-in_ok-flat-in-None-clause-sound : goal.returns-in_ok-flat-in-None-clause-sound
returns-in_ok-flat-in-None-clause-sound c sound =
    subst IsSound (sym c.in_ok-flat-in-None.ensures)
    (c.flat_form_is_sound.ensures c.args.program.now (calm_in c.args.program.now c.args.effects.now) sound)

use Rattle.std.proofs.Common.{subst}
use Rattle.inline.specs.Dropped.{dropped}
use Rattle.inline.specs.Flat.{flat_program}
use Rattle.inline.specs.Idle.{calm_in, none_calm}
use Rattle.inline.specs.Kept.{RankedOutcomes}
use Rattle.inline.proofs.Composed.{composed}
use Rattle.inline.proofs.laws.flat_form_keeps_outcomes.Goals as goal

pub returns : goal.returns
returns c program effects sound writes faults =
    let calm = calm_in program effects in
    subst (RankedOutcomes program) (c.dropped_form_law.ensures program calm)
    (composed program calm (flat_program (dropped program calm) none_calm)
    (c.dropped_outcome_law.ensures program effects sound writes faults)
    (c.flat_keeps_outcomes.ensures (dropped program calm) (c.dropped_sound_law.ensures program calm sound)))

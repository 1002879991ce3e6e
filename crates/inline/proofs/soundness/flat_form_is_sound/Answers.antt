use Rattle.std.proofs.Common.{subst}
use Rattle.eager_rules.specs.Sound.{IsSound}
use Rattle.inline.specs.Dropped.{dropped}
use Rattle.inline.proofs.soundness.flat_form_is_sound.Goals as goal

pub returns : goal.returns
returns c program calm sound =
    subst IsSound (c.dropped_form_law.ensures program calm)
    (c.flat_is_sound.ensures (dropped program calm) (c.dropped_sound_law.ensures program calm sound))

use Rattle.inline.proofs.FlatSound.{flat_sound}
use Rattle.inline.proofs.soundness.flat_is_sound.Goals as goal

pub returns : goal.returns
returns c program sound = flat_sound program sound

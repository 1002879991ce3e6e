use Rattle.inline.proofs.DropSound.{still_sound}
use Rattle.inline.proofs.dropping.dropped_sound_law.Goals as goal

pub returns : goal.returns
returns c program calm sound = still_sound calm program sound

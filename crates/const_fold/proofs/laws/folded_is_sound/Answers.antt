use Rattle.const_fold.proofs.FoldSound.{still_sound}
use Rattle.const_fold.proofs.laws.folded_is_sound.Goals as goal

pub returns : goal.returns
returns c program sound = still_sound program sound

-- A word that is passed on is the same word.
use Rattle.std.proofs.Common.{◌≡◌, ℤ, FitsSigned, w64, to_z, of_z}
use Rattle.std.proofs.lemmas.Int.{to_z-of_z}

pub word_kept : (z : ℤ) → FitsSigned w64 z → to_z w64 (of_z w64 z) ≡ z
word_kept z fits = to_z-of_z w64 z fits

-- What one call of a stream came to, and what a reader has left, as the content of a file (this project).
use Rattle.std.specs.Prelude.{ℕ, Bool, true, false, List, Option, Some, None}
use Rattle.host_io.specs.declared.attempt.Attempt.{Attempt}
use Rattle.host_io.specs.declared.attempt.Attempt.TheVariants.{Passed, Interrupted, Failed}
use Rattle.host_io.specs.Files.{Held, Untold, Bytes}

-- how many bytes were passed
abbrev pub passed : Attempt → ℕ
passed (Passed count) = count
passed Interrupted = 0
passed Failed = 0

-- whether the call was carried out
abbrev pub has_passed : Attempt → Bool
has_passed (Passed count) = true
has_passed Interrupted = false
has_passed Failed = false

-- the file that a reader has left, where that is told
abbrev pub left_in : Option (List ℕ) → Held
left_in None = Untold
left_in (Some bytes) = Bytes bytes

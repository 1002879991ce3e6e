-- What names hold, what a load leaves of it, and what a store makes of it (this project).
use Rattle.std.specs.Prelude.{◌≡◌, ℕ, ◌+◌, ◌<◌, Bool, true, false, List, length, take, Result, Ok, Err}
use Rattle.host_io.specs.declared.files.LoadFault.{LoadFault}
use Rattle.host_io.specs.declared.files.LoadFault.TheVariants.{Failed, TooLong, Memory}

-- what a name holds: it is not told, there is no file, or a file with these bytes
pub data Held : Type 0 where
  Untold : Held
  Missing : Held
  Bytes : List ℕ → Held

-- whether no file is there
abbrev pub is_missing : Held → Bool
is_missing Untold = false
is_missing Missing = true
is_missing (Bytes file) = false

-- these bytes are the whole file, as far as it is told
abbrev pub IsContent : Held → List ℕ → Type 0
IsContent Untold bytes = Unit {0}
IsContent Missing bytes = ⊥
IsContent (Bytes file) bytes = bytes ≡ file

-- the file is longer than the limit, and these bytes are its first ones, one more than the limit, as far as it is told
abbrev pub IsCutContent : Held → ℕ → List ℕ → Type 0
IsCutContent Untold most bytes = Unit {0}
IsCutContent Missing most bytes = ⊥
IsCutContent (Bytes file) most bytes = (most < length file) × (bytes ≡ take (most + 1) file)

-- what a name holds once these bytes were stored under it, where it is told
abbrev pub stored : Held → List ℕ → Held
stored Untold bytes = Untold
stored Missing bytes = Bytes bytes
stored (Bytes file) bytes = Bytes bytes

-- whether a load answered `Failed`
abbrev pub has_failed : {A : Type 0} → Result A LoadFault → Bool
has_failed (Ok done) = false
has_failed (Err Failed) = true
has_failed (Err TooLong) = false
has_failed (Err Memory) = false

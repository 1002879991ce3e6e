-- Files that a command stores, one after another.
use Rattle.std.specs.Prelude.{ℕ, if◌then◌else◌, List, [], ◌∷◌}
use Rattle.std.specs.Str.{bytes_eq}
use Rattle.host_io.specs.Files.{Held, Untold, Missing, Bytes}

-- a file to be stored: its name and its bytes
pub record Save : Type 0 where
  pub path : List ℕ
  pub bytes : List ℕ

-- what a name holds once these bytes were stored under it, where it is told
abbrev pub stored : Held → List ℕ → Held
stored Untold bytes = Untold
stored Missing bytes = Bytes bytes
stored (Bytes file) bytes = Bytes bytes

-- what a name holds once a file was stored
abbrev pub with_save : (List ℕ → Held) → Save → List ℕ → Held
with_save held save name = if bytes_eq save.path name then stored (held name) save.bytes else held name

-- what a name holds once these files were stored, of which one takes the place of an earlier one of its name
abbrev pub with_saves : (List ℕ → Held) → List Save → List ℕ → Held
with_saves held [] name = held name
with_saves held (save ∷ rest) name = with_saves (with_save held save) rest name

-- Files in memory, as their user sees them (this project).
use Rattle.std.specs.Prelude.{ℕ, ◌+◌, min, Option, List, length}
use Rattle.host_io.specs.Files.{Held, Untold, Missing, Bytes}
use Rattle.host_io.specs.Shelves.{File, held_in, rooms, room_in}

-- the files, the numbers of the calls that are to fail, the number of the next call, and how many faults there were
pub record Memory : Type 0 where
  pub files : List File
  pub fails : List ℕ
  pub calls : ℕ
  pub faults : ℕ

-- what a name holds
abbrev pub mem_held : Memory → List ℕ → Held
mem_held memory name = held_in memory.files name

-- how many bytes a name may hold, if there is a slot for it
abbrev pub mem_room : Memory → List ℕ → Option ℕ
mem_room memory name = room_in (rooms memory.files) name

-- how many bytes a load with this limit copies
abbrev pub copied_len : Held → ℕ → ℕ
copied_len Untold most = 0
copied_len Missing most = 0
copied_len (Bytes file) most = min (length file) (most + 1)

-- Files in memory (this project).
use Rattle.std.specs.Prelude.{ℕ, max, nat_le, Bool, true, false, not, ◌&&◌, Option, Some, None}
use Rattle.std.specs.Prelude.{List, [], ◌∷◌, map, if◌then◌else◌, vec_len}
use Rattle.std.specs.List.{list_any}
use Rattle.std.specs.Str.{bytes_eq}
use Rattle.host_io.specs.declared.shelf.Shelf.{Shelf}
use Rattle.host_io.specs.declared.slot.Slot.{Slot}
use Rattle.host_io.specs.Files.{Held, Missing, Bytes}

-- one file: its name, its bytes, whether it is there, and how many bytes it may hold
pub record File : Type 0 where
  pub name : List ℕ
  pub bytes : List ℕ
  pub there : Bool
  pub limit : ℕ

-- the file that a slot asks for
abbrev pub slot_file : Slot → File
slot_file slot =
    record {
      name = slot.name;
      bytes = slot.bytes.items;
      there = slot.there;
      limit =
          max slot.room (vec_len slot.bytes);
    }

-- the file that a shelf keeps
abbrev pub shelf_file : Shelf → File
shelf_file shelf = record { name = shelf.name; bytes = shelf.bytes.items; there = shelf.there; limit = shelf.limit }

abbrev pub slot_files : List Slot → List File
slot_files slots = map slot_file slots

-- the slots' names, in order
abbrev pub slot_names : List Slot → List (List ℕ)
slot_names slots = map (λ slot. slot.name) slots

-- whether no name stands twice
abbrev pub are_distinct : List (List ℕ) → Bool
are_distinct [] = true
are_distinct (name ∷ rest) = not (list_any (bytes_eq name) rest) && are_distinct rest

abbrev pub shelf_files : List Shelf → List File
shelf_files shelves = map shelf_file shelves

-- what a file's name holds
abbrev pub content : File → Held
content file = (if file.there then Bytes file.bytes else Missing)

-- what a name holds among files whose names differ: the content of the file of that name, if there is one
abbrev pub held_in : List File → List ℕ → Held
held_in [] name = Missing
held_in (file ∷ rest) name = (if bytes_eq file.name name then content file else held_in rest name)

-- each file's name, and how many bytes it may hold, in order
abbrev pub rooms : List File → List (List ℕ × ℕ)
rooms files = map (λ file. (file.name, file.limit)) files

-- how many bytes a name may hold, if there is a file of that name
abbrev pub room_in : List (List ℕ × ℕ) → List ℕ → Option ℕ
room_in [] name = None
room_in (room ∷ rest) name = (if bytes_eq room.0 name then Some room.1 else room_in rest name)

-- whether so many bytes may be held
abbrev pub can_hold : Option ℕ → ℕ → Bool
can_hold None count = false
can_hold (Some most) count = nat_le count most

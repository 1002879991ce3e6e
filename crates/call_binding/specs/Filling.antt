-- What loading the array files of items comes to.
use Rattle.std.specs.Prelude.{◌≡◌, ℕ, List, Option, Some, None, Result, Ok, Err}
use Rattle.std.specs.List.{filter_map}
use Rattle.host_io.specs.Counts.{Rose}
use Rattle.host_io.specs.Files.{Held}
use Rattle.view_places.specs.declared.shape.Array.{Array}
use Rattle.call_binding.specs.Files.{IsRead, IsTooLong, AreRead, path_of, filled, Filled, Whole, NoArray, Wants}
use Rattle.call_binding.specs.Sound.{IsArray}
use Rattle.call_binding.specs.declared.head.BindStop.{BindStop}
use Rattle.call_binding.specs.declared.head.BindStop.TheVariants as stop
use Rattle.call_binding.specs.declared.items.Item.{Item}
use Rattle.call_binding.specs.declared.items.Item.TheVariants.{Buffer}

-- A buffer of this name holds the array of a file.
pub record IsLoaded (file : Held) (name : List ℕ) (item : Item) : Type 0 where
  pub array : Array
  pub read : IsRead file (Some array)
  pub good : IsArray array
  pub is : item ≡ Buffer name array

-- what one `npy:` item of this file, with this number, comes to
abbrev pub FillsItem : Held → ℕ → ℕ → ℕ → List ℕ → Result Item BindStop → Type 0
FillsItem file before after number name (Ok item) = IsLoaded file name item
FillsItem file before after number name (Err (stop.Item n)) = (n ≡ number) × IsRead file None
FillsItem file before after number name (Err stop.LoadFailed) = Rose before after
FillsItem file before after number name (Err stop.TooLong) = IsTooLong file
FillsItem file before after number name (Err stop.Memory) = Unit {0}

-- Test 7 comes to this with what the first files are read as.
pub record FillsTo (held : List ℕ → Held) (items : List Item) (full : Filled) : Type 0 where
  pub reads : List (Option Array)
  pub are_read : AreRead held (filter_map path_of items) reads
  pub is : filled 1 items reads ≡ full

-- A file that is to be read is too long.
pub record MeetsLong (held : List ℕ → Held) (items : List Item) : Type 0 where
  pub path : List ℕ
  pub wants : FillsTo held items (Wants path)
  pub long : IsTooLong (held path)

abbrev pub Fills : (List ℕ → Held) → ℕ → ℕ → List Item → Result (List Item) BindStop → Type 0
Fills held before after items (Ok full) = FillsTo held items (Whole full)
Fills held before after items (Err (stop.Item n)) = FillsTo held items (NoArray n)
Fills held before after items (Err stop.LoadFailed) = Rose before after
Fills held before after items (Err stop.TooLong) = MeetsLong held items
Fills held before after items (Err stop.Memory) = Unit {0}

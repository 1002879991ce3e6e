-- The array files of a call. An array file is at most 34,000,000 bytes long (this project).
use Rattle.std.specs.Prelude.{◌≡◌, ℕ, ◌+◌, ◌≤◌, List, [], ◌∷◌, length, Option, Some, None, Result, Ok, Err}
use Rattle.std.specs.List.{filter_map}
use Rattle.host_io.specs.Files.{Held, Untold, Missing, Bytes, IsContent, IsCutContent}
use Rattle.np_file.specs.Npy.{IsNpy, NpyRefusal}
use Rattle.np_file.specs.declared.fault.NpyFault.{NpyFault}
use Rattle.view_places.specs.declared.shape.Array.{Array}
use Rattle.call_binding.specs.declared.items.Item.{Item}
use Rattle.call_binding.specs.declared.items.Item.TheVariants.{Buffer, Loaded, Saved, Scalar, Argument}

abbrev pub array_limit : ℕ
array_limit = 34000000

-- bytes are read as an array, or as none
abbrev pub IsReading : List ℕ → Option Array → Type 0
IsReading bytes (Some array) = IsNpy bytes array
IsReading bytes None = (fault : NpyFault) × NpyRefusal bytes fault

-- A file is within its limit, and is read as this array, or as none.
pub record IsRead (file : Held) (read : Option Array) : Type 0 where
  pub bytes : List ℕ
  pub content : IsContent file bytes
  pub within : length bytes ≤ array_limit
  pub reading : IsReading bytes read

-- A file is longer than its limit.
pub record IsTooLong (file : Held) : Type 0 where
  pub first : List ℕ
  pub cut : IsCutContent file array_limit first
  pub length_is : length first ≡ array_limit + 1

-- the array files in word order
abbrev pub path_of : Item → Option (List ℕ)
path_of (Buffer name array) = None
path_of (Loaded name path) = Some path
path_of (Saved name path) = None
path_of (Scalar parameter kind word) = None
path_of (Argument parameter buffer subs) = None

abbrev pub paths_of : Result (List Item) ℕ → List (List ℕ)
paths_of (Err n) = []
paths_of (Ok items) = filter_map path_of items

-- the first of these files are read as these arrays, one by one
abbrev pub AreRead : (List ℕ → Held) → List (List ℕ) → List (Option Array) → Type 0
AreRead held paths [] = Unit {0}
AreRead held [] (read ∷ reads) = ⊥
AreRead held (path ∷ paths) (read ∷ reads) = IsRead (held path) read × AreRead held paths reads

-- Test 7, with what the first array files are read as: the items with arrays in place of files, the number of the
-- first whose
-- file is none, or the path of the file that is to be read next.
pub data Filled : Type 0 where
  Whole : List Item → Filled
  NoArray : ℕ → Filled
  Wants : List ℕ → Filled

abbrev pub fill_next : Item → Filled → Filled
fill_next x (Whole rest) = Whole (x ∷ rest)
fill_next x (NoArray n) = NoArray n
fill_next x (Wants path) = Wants path

abbrev pub filled : ℕ → List Item → List (Option Array) → Filled
filled n [] reads = Whole []
filled n (Buffer name array ∷ rest) reads = fill_next (Buffer name array) (filled (n + 1) rest reads)
filled n (Loaded name path ∷ rest) [] = Wants path
filled n (Loaded name path ∷ rest) (None ∷ reads) = NoArray n
filled n (Loaded name path ∷ rest) (Some array ∷ reads) = fill_next (Buffer name array) (filled (n + 1) rest reads)
filled n (Saved name path ∷ rest) reads = fill_next (Saved name path) (filled (n + 1) rest reads)
filled n (Scalar parameter kind word ∷ rest) reads = fill_next (Scalar parameter kind word) (filled (n + 1) rest reads)
filled n (Argument parameter buffer subs ∷ rest) reads =
    fill_next (Argument parameter buffer subs) (filled (n + 1) rest reads)

-- what a file holds is told
abbrev pub IsTold : Held → Type 0
IsTold Untold = ⊥
IsTold Missing = Unit {0}
IsTold (Bytes file) = Unit {0}

abbrev pub AreTold : (List ℕ → Held) → List (List ℕ) → Type 0
AreTold held [] = Unit {0}
AreTold held (path ∷ paths) = IsTold (held path) × AreTold held paths

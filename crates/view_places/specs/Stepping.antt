-- Going over the indices of a shape in row-major order, and from place to place of a view beside it.
use Rattle.std.specs.Prelude.{◌≡◌, ℕ, suc, ◌+◌, ◌-◌, ◌==◌, ◌<◌, ◌≤◌, ◌&&◌, Bool, true, if◌then◌else◌, List, [], ◌∷◌}
use Rattle.std.specs.Prelude.{slice_index_or, ℤ, pos, ◌+ℤ◌, ◌-ℤ◌, ◌*ℤ◌}
use Rattle.view_places.specs.Arrays.{element_count, indices, max_elements}

-- the index with nothing but 0
abbrev pub first_index : List ℕ → List ℕ
first_index [] = []
first_index (n ∷ ns) = 0 ∷ first_index ns

-- whether each number of an index is the last one of its dimension
abbrev pub is_last : List ℕ → List ℕ → Bool
is_last [] index = true
is_last (n ∷ ns) [] = true
is_last (n ∷ ns) (i ∷ index) = (i + 1 == n) && is_last ns index

-- the dimension whose number goes up on the way to the next index: the last one whose number isn't its last
abbrev pub moving : List ℕ → List ℕ → ℕ
moving [] index = 0
moving (n ∷ ns) [] = 0
moving (n ∷ ns) (i ∷ index) = if is_last ns index then 0 else suc (moving ns index)

-- the next index: that number goes up, and those behind it begin anew
abbrev pub next_index : List ℕ → List ℕ → List ℕ
next_index [] index = []
next_index (n ∷ ns) [] = []
next_index (n ∷ ns) (i ∷ index) = if is_last ns index then (i + 1) ∷ first_index ns else i ∷ next_index ns index

-- the dimension that moves from the k-th index to the next one
unfoldable pub axis_from : List ℕ → ℕ → ℕ
axis_from ns k = moving ns (slice_index_or (indices ns) k [])

-- how far strides lead from the first index to the last
abbrev pub span : List ℕ → List ℤ → ℤ
span [] ss = pos 0
span (n ∷ ns) [] = pos 0
span (n ∷ ns) (s ∷ ss) = (s *ℤ pos (n - 1)) +ℤ span ns ss

-- how far strides lead where a dimension moves: one entry on in it, and back to the first one of those behind it
abbrev pub leaps_of : List ℕ → List ℤ → List ℤ
leaps_of [] ss = []
leaps_of (n ∷ ns) [] = []
leaps_of (n ∷ ns) (s ∷ ss) = (s -ℤ span ns ss) ∷ leaps_of ns ss

-- an index is the one with this number, of a shape that has so many
pub record StandsAt (extent at : List ℕ) (k : ℕ) : Type 0 where
  pub few : element_count extent ≤ max_elements
  pub below : k < element_count extent
  pub index : at ≡ slice_index_or (indices extent) k []

-- Where an offset and strides place the entries of a shape in a buffer.
use Rattle.std.specs.Prelude.{◌≡◌, ℕ, ◌-◌, ◌≤◌, List, [], ◌∷◌, map, take, drop, replicate, ℤ, pos, ◌+ℤ◌, ◌*ℤ◌, ◌≤ℤ◌}
use Rattle.std.specs.Prelude.{◌<ℤ◌, unsigned_abs, slice_index_or, IsTrue, if◌then◌else◌, ◌==◌}
use Rattle.view_places.specs.Arrays.{element_count, indices, is_small, Inside}

-- how far an index leads: the sum of its numbers, each times its stride
abbrev pub reach : List ℤ → List ℕ → ℤ
reach [] index = pos 0
reach (s ∷ ss) [] = pos 0
reach (s ∷ ss) (i ∷ index) = (s *ℤ pos i) +ℤ reach ss index

-- where an index leads from an offset
abbrev pub led_to : ℤ → List ℤ → List ℕ → ℤ
led_to offset stride index = offset +ℤ reach stride index

-- the same as a place of a buffer, where it is not negative
abbrev pub place_at : ℤ → List ℤ → List ℕ → ℕ
place_at offset stride index = unsigned_abs (led_to offset stride index)

-- the places of a shape in row-major order
abbrev pub strided : ℤ → List ℤ → List ℕ → List ℕ
strided offset stride ns = map (place_at offset stride) (indices ns)

-- the rank is at most 4, the entries past it are 1, and the extents and the number of elements are what an array may
-- have
pub record IsArrayShape (rank : ℕ) (extent : List ℕ) : Type 0 where
  pub rank_fits : rank ≤ 4
  pub unused : drop rank extent ≡ replicate (4 - rank) 1
  pub small : IsTrue (is_small (take rank extent))

-- each index of the shape leads to a place below the length
abbrev pub LeadsWithin : ℕ → List ℕ → ℤ → List ℤ → Type 0
LeadsWithin length ns offset stride =
    (index : List ℕ) → Inside ns index →
    (pos 0 ≤ℤ led_to offset stride index) × (led_to offset stride index <ℤ pos length)

-- different indices of the shape lead to different places
abbrev pub LeadsApart : List ℕ → ℤ → List ℤ → Type 0
LeadsApart ns offset stride =
    (a b : List ℕ) → Inside ns a → Inside ns b → led_to offset stride a ≡ led_to offset stride b → a ≡ b

-- of the many strides that place a shape alike, one choice: 0 along a dimension of extent 1, and nothing but 0 where
-- there is no element
pub record IsSettled (ns extent : List ℕ) (offset : ℤ) (stride : List ℤ) : Type 0 where
  pub still : (axis : ℕ) → slice_index_or extent axis 1 ≡ 1 → slice_index_or stride axis (pos 0) ≡ pos 0
  pub no_offset : element_count ns ≡ 0 → offset ≡ pos 0
  pub no_stride : element_count ns ≡ 0 → stride ≡ replicate 4 (pos 0)

-- the strides of consecutive places in row-major order: how many elements an index of the dimensions behind may have
abbrev pub weights : List ℕ → List ℤ
weights [] = []
weights (n ∷ ns) = pos (element_count ns) ∷ weights ns

-- strides with 0 along each dimension of extent 1
abbrev pub settled_strides : List ℕ → List ℤ → List ℤ
settled_strides [] ss = []
settled_strides (n ∷ ns) [] = []
settled_strides (n ∷ ns) (s ∷ ss) = (if n == 1 then pos 0 else s) ∷ settled_strides ns ss

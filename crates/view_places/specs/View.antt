-- A view as a shape and the list of its places.
use Rattle.std.specs.Prelude.{◌≡◌, ℕ, List, take, length}
use Rattle.std.specs.List.{range_with_len}
use Rattle.view_places.specs.Strides.{strided}
use Rattle.view_places.specs.declared.view.View.{View}

-- the extents of the dimensions, from the first
abbrev pub extents : View → List ℕ
extents v = take v.rank v.extent

-- the places of the elements in row-major order
abbrev pub places : View → List ℕ
places v = strided v.offset v.stride (extents v)

-- a view of the same buffer with this shape and these places
pub record IsViewOf (v part : View) (ns places_of_part : List ℕ) : Type 0 where
  pub buffer : part.buffer ≡ v.buffer
  pub length : part.length ≡ v.length
  pub extents : extents part ≡ ns
  pub places : places part ≡ places_of_part

-- consecutive and rising places
abbrev pub IsConsecutive : List ℕ → Type 0
IsConsecutive xs = (first : ℕ) × (xs ≡ range_with_len first (length xs))

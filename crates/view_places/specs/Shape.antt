-- A shape as the list of its extents.
use Rattle.std.specs.Prelude.{◌≡◌, ◌==◌, ◌-◌, ◌≤◌, nat_le, ℕ, Bool, ◌&&◌, if◌then◌else◌, List, ◌++◌, length, take}
use Rattle.std.specs.Prelude.{drop, replicate, Option, Some, None}
use Rattle.view_places.specs.Arrays.{element_count, is_small}
use Rattle.view_places.specs.declared.shape.Shape.{Shape}

-- the extents of the dimensions, from the first
abbrev pub extents : Shape → List ℕ
extents s = take s.rank s.extent

-- the rank is at most 4, and the entries past it are 1
pub record IsShape (s : Shape) : Type 0 where
  pub rank : s.rank ≤ 4
  pub unused : drop s.rank s.extent ≡ replicate (4 - s.rank) 1

-- the shape of these extents
abbrev pub shape_of : List ℕ → Shape
shape_of ns = record { rank = length ns; extent = ns ++ replicate (4 - length ns) 1 }

-- these are one to four extents within the limits, of so many elements
abbrev pub have_elements : List ℕ → ℕ → Bool
have_elements ns count = nat_le 1 (length ns) && (nat_le (length ns) 4 && (is_small ns && (element_count ns == count)))

-- the shape of these extents, where they are such
abbrev pub shape_for : List ℕ → ℕ → Option Shape
shape_for ns count = if have_elements ns count then Some (shape_of ns) else None

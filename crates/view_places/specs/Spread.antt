-- A spread view as a shape and the list of its places, which may repeat.
use Rattle.std.specs.Prelude.{ℕ, List, take}
use Rattle.view_places.specs.Strides.{strided}
use Rattle.view_places.specs.declared.spread.Spread.{Spread}

-- the extents of the dimensions, from the first
abbrev pub extents : Spread → List ℕ
extents s = take s.rank s.extent

-- the places of the elements in row-major order
abbrev pub places : Spread → List ℕ
places s = strided s.offset s.stride (extents s)

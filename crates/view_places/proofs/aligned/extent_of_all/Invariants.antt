use Rattle.std.proofs.Common.{◌≡◌, map, drop}
use Rattle.view_places.specs.Arrays.{extent_back}
use Rattle.view_places.specs.Shape.{extents}
use Rattle.view_places.proofs.OneDimension.{joining}
use Rattle.view_places.proofs.aligned.extent_of_all.Given as goal

-- the extent so far and the shapes that are left give what all of them give
abbrev pub invariant-loop-shape : goal.invariant-loop-shape
invariant-loop-shape l =
    joining l.one (map (extent_back l.back) (map extents (drop l.shape-index l.shapes))) ≡
    joining 1 (map (extent_back l.back) (map extents l.shapes))

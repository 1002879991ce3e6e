use Rattle.std.proofs.Common.{◌≡◌, ◌≤◌, map, drop, max}
use Rattle.view_places.specs.Arrays.{greatest_rank}
use Rattle.view_places.specs.Shape.{extents}
use Rattle.view_places.proofs.aligned.greatest_rank.Given as goal

-- the rank so far and the shapes that are left give what all of them give
abbrev pub invariant-loop-shape : goal.invariant-loop-shape
invariant-loop-shape l = record {
  greatest : max l.rank (greatest_rank (map extents (drop l.shape-index l.shapes))) ≡
      greatest_rank (map extents l.shapes);
  few : l.rank ≤ 4;
}

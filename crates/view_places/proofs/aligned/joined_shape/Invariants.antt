use Rattle.std.proofs.Common.{◌≡◌, ℕ, ◌-◌, ◌++◌, map, take, replicate, true, get_or}
use Rattle.view_places.specs.Alignment.{all_fit}
use Rattle.view_places.specs.Arrays.{proper_extents}
use Rattle.view_places.specs.Shape.{extents}
use Rattle.view_places.proofs.Broadcasts.{aligned}
use Rattle.view_places.proofs.aligned.joined_shape.Given as goal

-- the extents so far are those of the first dimensions, and those fit
abbrev pub invariant-loop-axis : goal.invariant-loop-axis
invariant-loop-axis l = record {
  built : l.extent ≡
      map (λ (k : ℕ). get_or (proper_extents k (map extents l.shapes)) 0 1) (take l.axis (aligned l.rank)) ++
      replicate (4 - l.axis) 1;
  fits : all_fit (map extents l.shapes) (take l.axis (aligned l.rank)) ≡ true;
}

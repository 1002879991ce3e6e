use Rattle.std.proofs.Common.{◌≡◌, map, take}
use Rattle.std.specs.List.{All, flat_map}
use Rattle.array_ops.specs.Elements.{extents_of}
use Rattle.view_places.specs.Shape.{IsShape, extents}
use Rattle.loop_prog.specs.Templates.{leaf_values}
use Rattle.loop_exec.specs.Banks.{views_bound}
use Rattle.loop_exec.proofs.shapes.shapes_of_leaves.Given as goal

-- the shapes so far
abbrev pub invariant-loop-step : goal.invariant-loop-step
invariant-loop-step l =
    (map extents l.shapes.items ≡ flat_map extents_of (leaf_values (views_bound l.views) (take l.step-index l.steps)))
    × All IsShape l.shapes.items

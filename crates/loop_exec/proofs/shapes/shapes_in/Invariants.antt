use Rattle.std.proofs.Common.{◌≡◌, map, take}
use Rattle.std.specs.List.{All, flat_map}
use Rattle.array_ops.specs.Elements.{extents_of}
use Rattle.view_places.specs.Shape.{IsShape, extents}
use Rattle.loop_exec.specs.Banks.{views_bound}
use Rattle.loop_prog.specs.State.{view_in}
use Rattle.loop_exec.proofs.shapes.shapes_in.Given as goal

-- the shapes so far
abbrev pub invariant-loop-v : goal.invariant-loop-v
invariant-loop-v l =
    (map extents l.shapes.items ≡ flat_map extents_of (map (view_in (views_bound l.views)) (take l.v-index l.list)))
    × All IsShape l.shapes.items

use Rattle.std.proofs.Common.{◌≡◌, map, take}
use Rattle.std.specs.List.{All, flat_map}
use Rattle.view_places.specs.Shape.{IsShape, extents}
use Rattle.array_ops.specs.Elements.{extents_of}
use Rattle.array_ops.specs.Operands.{meaning_of}
use Rattle.array_ops.proofs.shapes.array_shapes.Given as goal

-- the shapes of the arrays so far
abbrev pub invariant-loop-operand : goal.invariant-loop-operand
invariant-loop-operand l =
    (map extents l.shapes ≡ flat_map (λ x. extents_of (meaning_of x)) (take l.operand-index l.operands))
    × All IsShape l.shapes

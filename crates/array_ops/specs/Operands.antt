-- What the program's operands, shapes and results stand for.
use Rattle.std.specs.Prelude.{ℕ, List, Result, Ok, Err}
use Rattle.krn_base.specs.declared.fault.Fault.{Fault}
use Rattle.krn_base.specs.Numbers.{HasSmallExponent}
use Rattle.array_ops.specs.declared.operation.MapOp.{MapOp}
use Rattle.array_ops.specs.declared.operation.MapOp.TheVariants as map_op
use Rattle.view_places.specs.Arrays.{SpreadsTo}
use Rattle.view_places.specs.Shape.{extents}
use Rattle.view_places.specs.View.{extents as extents_of_view}
use Rattle.view_places.specs.declared.shape.Shape.{Shape}
use Rattle.array_ops.specs.Arrays.{array_of}
use Rattle.array_ops.specs.Elements.{Bound, Unbound, WordOf, ArrayOf}
use Rattle.array_ops.specs.declared.operand.Operand.{Operand}
use Rattle.array_ops.specs.declared.operand.Operand.TheVariants as operand

abbrev pub meaning_of : Operand → Bound
meaning_of operand.Unbound = Unbound
meaning_of (operand.Word z) = WordOf z
meaning_of (operand.Array v) = ArrayOf (array_of v)

abbrev pub extents_result : Result Shape Fault → Result (List ℕ) Fault
extents_result (Ok s) = Ok (extents s)
extents_result (Err fault) = Err fault

-- an operand that spreads to a shape, as every scalar does
abbrev pub Spreads : List ℕ → Operand → Type 0
Spreads ns operand.Unbound = Unit {0}
Spreads ns (operand.Word z) = Unit {0}
Spreads ns (operand.Array v) = SpreadsTo (extents_of_view v) ns

-- what powers are asked for
abbrev pub HasSmallPower : MapOp → Type 0
HasSmallPower (map_op.Un op) = HasSmallExponent op
HasSmallPower _ = Unit {0}

-- Element operations, new arrays and reductions, on whole lists of elements: the NumPy reference's broadcasting,
-- constructors and reductions. Words wrap at 64 bits; the size limit of 2^22 is this project's own.
use Rattle.std.specs.Prelude.{ℕ, Bool, true, false, nat_le, if◌then◌else◌, ℤ, pos, negsuc, int_lt}
use Rattle.std.specs.Prelude.{List, [], ◌∷◌, map, length, replicate, fold, Result, Ok, Err}
use Rattle.std.specs.List.{zip, flat_map, list_any, list_all, range_with_len}
use Rattle.std.specs.Str.{bytes_eq}
use Rattle.krn_base.specs.Numbers.{element_result, unary_result, join_result, unit_of, truth, is_zero}
use Rattle.krn_base.specs.declared.fault.Fault.{Fault}
use Rattle.krn_base.specs.declared.fault.Fault.TheVariants.{ValueError, SizeLimit}
use Rattle.krn_base.specs.declared.operation.Join.{Join}
use Rattle.krn_base.specs.declared.operation.Join.TheVariants as joins
use Rattle.view_places.specs.Arrays.{broadcast_of, element_count, is_small}
use Rattle.array_ops.specs.Arrays.{ArrayRef, spread_elements}
use Rattle.array_ops.specs.declared.operation.Fill.{Fill}
use Rattle.array_ops.specs.declared.operation.Fill.TheVariants.{Zero, One, Count}
use Rattle.array_ops.specs.declared.operation.MapOp.{MapOp}
use Rattle.array_ops.specs.declared.operation.MapOp.TheVariants.{Bin, Un, Select}
use Rattle.array_ops.specs.declared.operation.RedOp.{RedOp}
use Rattle.array_ops.specs.declared.operation.RedOp.TheVariants as red

-- what a name, a register or an operand stands for: nothing yet, a word, or an array
pub data Bound : Type 0 where
  Unbound : Bound
  WordOf : ℤ → Bound
  ArrayOf : ArrayRef → Bound

-- the extents of those operands that are arrays
abbrev pub extents_of : Bound → List (List ℕ)
extents_of Unbound = []
extents_of (WordOf z) = []
extents_of (ArrayOf a) = a.extents ∷ []

-- the shape of an element operation: the broadcast of its arrays' shapes
abbrev pub shape_of : List Bound → Result (List ℕ) Fault
shape_of args = broadcast_of (flat_map extents_of args)

-- an operand as a whole list, spread to a shape
abbrev pub operand_elements : List (List ℤ) → List ℕ → Bound → List ℤ
operand_elements buffers ns Unbound = replicate (element_count ns) (pos 0)
operand_elements buffers ns (WordOf z) = replicate (element_count ns) z
operand_elements buffers ns (ArrayOf a) = spread_elements buffers ns a

-- whether an array of the shape `from` spreads to the shape `ns`: the broadcast of both is `ns`
abbrev pub is_shape : List ℕ → Result (List ℕ) Fault → Bool
is_shape ns (Ok ms) = bytes_eq ns ms
is_shape ns (Err fault) = false

abbrev pub spreads_to : List ℕ → List ℕ → Bool
spreads_to from ns = is_shape ns (broadcast_of (from ∷ ns ∷ []))

-- the shape of a store into an array of the shape `ns`, which never grows
abbrev pub stored_shape : List ℕ → Bound → Result (List ℕ) Fault
stored_shape ns value = if list_all (λ from. spreads_to from ns) (extents_of value) then Ok ns else Err ValueError

-- one element of the choice between two lists
abbrev pub choose : ℤ × (ℤ × ℤ) → ℤ
choose (mask, (x, y)) = if is_zero mask then y else x

-- an element operation on lists of one length
abbrev pub mapped : MapOp → List (List ℤ) → List ℤ
mapped (Bin op) (xs ∷ ys ∷ []) = map (λ p. element_result op p.0 p.1) (zip xs ys)
mapped (Un op) (xs ∷ []) = map (unary_result op) xs
mapped Select (mask ∷ xs ∷ ys ∷ []) = map choose (zip mask (zip xs ys))
mapped _ _ = []

-- the elements that an element operation makes, of this shape
abbrev pub map_elements : List (List ℤ) → List ℕ → MapOp → List Bound → List ℤ
map_elements buffers ns op args = mapped op (map (operand_elements buffers ns) args)

-- a reduction of a whole list, from the unit
abbrev pub joined : Join → List ℤ → ℤ
joined op words = fold (join_result op) (unit_of op) words

abbrev pub unless_empty : List ℤ → ℤ → Result ℤ Fault
unless_empty [] z = Err ValueError
unless_empty (word ∷ words) z = Ok z

abbrev pub is_set : ℤ → Bool
is_set word = if is_zero word then false else true

abbrev pub reduced : RedOp → List ℤ → Result ℤ Fault
reduced red.Sum words = Ok (joined joins.Sum words)
reduced red.Prod words = Ok (joined joins.Prod words)
reduced red.Min words = unless_empty words (joined joins.Min words)
reduced red.Max words = unless_empty words (joined joins.Max words)
reduced red.Any words = Ok (truth (list_any is_set words))
reduced red.All words = Ok (truth (list_all is_set words))

-- the elements of a new array
abbrev pub filled : Fill → ℕ → List ℤ
filled Zero n = replicate n (pos 0)
filled One n = replicate n (pos 1)
filled Count n = map pos (range_with_len 0 n)

-- an extent that is asked for by a number; a negative one is none
abbrev pub from_zero : ℤ → ℕ
from_zero (pos n) = n
from_zero (negsuc n) = 0

-- A shape that a new array may have: at most four dimensions, each and all of them within the limit.
abbrev pub checked_shape : List ℕ → Result (List ℕ) Fault
checked_shape ns = if is_small ns then (if nat_le (length ns) 4 then Ok ns else Err SizeLimit) else Err SizeLimit

-- The shape of a new array by its dimensions: ValueError for a negative one, then SizeLimit. Counting numbers are
-- none below 0.
abbrev pub fresh_shape : Fill → List ℤ → Result (List ℕ) Fault
fresh_shape Count dims = checked_shape (map from_zero dims)
fresh_shape _ dims =
    if list_any (λ z. int_lt z (pos 0)) dims then Err ValueError else checked_shape (map from_zero dims)

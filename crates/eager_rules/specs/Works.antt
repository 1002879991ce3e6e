-- The work of each statement: a function of the values of its operands and of the buffers. On a value of another kind
-- than a sound program gives it, it is something all the same, so that no pass has to speak of kinds.
use Rattle.std.specs.Prelude.{ℕ, zero, suc, ℤ, pos, ◌+ℤ◌, ◌-ℤ◌, unsigned_abs, if◌then◌else◌}
use Rattle.std.specs.Prelude.{List, [], ◌∷◌, ◌++◌, map, length, Option, Some, None, Result, Ok, Err, unwrap_or}
use Rattle.krn_base.specs.Numbers.{is_zero, scalar_result, unary_result}
use Rattle.krn_base.specs.declared.fault.Fault.{Fault}
use Rattle.krn_base.specs.declared.place.Loc.{Loc}
use Rattle.view_places.specs.Arrays.{element_count}
use Rattle.view_places.specs.Slice.{is_before}
use Rattle.view_places.specs.declared.slice.Slice.{Slice}
use Rattle.array_ops.specs.Arrays.{ArrayRef, whole_of, word_at, elements_of, with_word, with_words}
use Rattle.array_ops.specs.Elements.{Bound, Unbound, WordOf, ArrayOf, shape_of, operand_elements, map_elements}
use Rattle.array_ops.specs.Elements.{reduced, filled, fresh_shape, stored_shape}
use Rattle.array_ops.specs.Subscripts.{and_then, extent_at, picked, element_place, flipped}
use Rattle.array_ops.specs.declared.operation.Fill.{Fill}
use Rattle.array_ops.specs.declared.operation.MapOp.{MapOp}
use Rattle.array_ops.specs.declared.operation.RedOp.{RedOp}
use Rattle.array_ops.specs.declared.subscript.Subscript.{Subscript}
use Rattle.array_ops.specs.declared.subscript.Subscript.TheVariants as subscript
use Rattle.eager_rules.specs.declared.program.CoreSub.{CoreSub}
use Rattle.eager_rules.specs.declared.program.CoreSub.TheVariants as sub
use Rattle.eager_rules.specs.declared.program.Oper.{Oper}
use Rattle.eager_rules.specs.declared.program.WordOp.{WordOp}
use Rattle.eager_rules.specs.declared.program.WordOp.TheVariants as word_op

-- what work comes to: the buffers afterwards with values, or with a fault at a place; or it can't be done
pub data Done : Type 0 where
  Made : List (List ℤ) → List Bound → Done
  Failed : List (List ℤ) → Fault → Loc → Done
  Blocked : List (List ℤ) → Done

abbrev pub Work : Type 0
Work = List Bound → List (List ℤ) → Done

-- a value as a word, and as an array
abbrev pub word_of : Bound → ℤ
word_of Unbound = pos 0
word_of (WordOf z) = z
word_of (ArrayOf a) = pos 0

abbrev pub no_array : ArrayRef
no_array = record { buffer = 0; extents = 0 ∷ []; places = [] }

abbrev pub array_in : Bound → ArrayRef
array_in Unbound = no_array
array_in (WordOf z) = no_array
array_in (ArrayOf a) = a

-- one value, with the buffers as they are; or a fault
abbrev pub valued : List (List ℤ) → Loc → Result Bound Fault → Done
valued buffers at (Ok value) = Made buffers (value ∷ [])
valued buffers at (Err fault) = Failed buffers fault at

-- other buffers and no value; or a fault
abbrev pub changed : List (List ℤ) → Loc → Result (List (List ℤ)) Fault → Done
changed buffers at (Ok after) = Made after []
changed buffers at (Err fault) = Failed buffers fault at

-- a new buffer behind the others, to the whole of which the value refers; or a fault
abbrev pub made_new : List (List ℤ) → Loc → (List ℕ → List ℤ) → Result (List ℕ) Fault → Done
made_new buffers at words (Ok ns) = Made (buffers ++ words ns ∷ []) (ArrayOf (whole_of (length buffers) ns) ∷ [])
made_new buffers at words (Err fault) = Failed buffers fault at

abbrev pub word_result : WordOp → List ℤ → Result ℤ Fault
word_result (word_op.Bin op) (a ∷ b ∷ []) = scalar_result op a b
word_result (word_op.Un op) (a ∷ []) = Ok (unary_result op a)
word_result _ _ = Ok (pos 0)

abbrev pub as_word : Result ℤ Fault → Result Bound Fault
as_word x = and_then x (λ z. Ok (WordOf z))

abbrev pub as_array : Result ArrayRef Fault → Result Bound Fault
as_array x = and_then x (λ a. Ok (ArrayOf a))

-- a value under another name
abbrev pub move_work : Work
move_work (value ∷ []) buffers = Made buffers (value ∷ [])
move_work _ buffers = Blocked buffers

-- a scalar operation, or a move
abbrev pub word_work : WordOp → Loc → Work
word_work word_op.Move at values buffers = move_work values buffers
word_work op at values buffers = valued buffers at (as_word (word_result op (map word_of values)))

-- the extent of a dimension, or the number of elements
abbrev pub extent_of : Option ℕ → ArrayRef → ℕ
extent_of (Some axis) a = extent_at a axis
extent_of None a = element_count a.extents

abbrev pub extent_work : Option ℕ → Work
extent_work axis (value ∷ []) buffers = Made buffers (WordOf (pos (extent_of axis (array_in value))) ∷ [])
extent_work axis _ buffers = Blocked buffers

-- one element read: an array, then its subscripts
abbrev pub get_work : Loc → Work
get_work at (value ∷ index) buffers = valued buffers at
    (and_then (element_place (array_in value) (map word_of index))
    (λ place. Ok (WordOf (word_at buffers (array_in value).buffer place))))
get_work at [] buffers = Blocked buffers

-- one element written: an array, the word, then the subscripts
abbrev pub put_work : Loc → Work
put_work at (target ∷ value ∷ index) buffers = changed buffers at
    (and_then (element_place (array_in target) (map word_of index))
    (λ place. Ok (with_word buffers (array_in target).buffer place (word_of value))))
put_work at _ buffers = Blocked buffers

-- The operands of subscripts, in order.
abbrev pub given_part : Option Oper → List Oper
given_part None = []
given_part (Some x) = x ∷ []

abbrev pub sub_operands : CoreSub → List Oper
sub_operands (sub.At x) = x ∷ []
sub_operands (sub.Cut start stop step) = given_part start ++ (given_part stop ++ given_part step)

-- a part of a slice by the values so far left, and those that are then left
abbrev pub part_from : Option Oper → List Bound → Option ℤ × List Bound
part_from None values = (None, values)
part_from (Some x) [] = (None, [])
part_from (Some x) (value ∷ values) = (Some (word_of value), values)

abbrev pub cut_of : Option Oper → Option Oper → Option Oper → List Bound → Slice × List Bound
cut_of start stop step values =
    let first : Option ℤ × List Bound = part_from start values in
    let second : Option ℤ × List Bound = part_from stop first.1 in
    let third : Option ℤ × List Bound = part_from step second.1 in
    (record { start = first.0; stop = second.0; step = third.0 }, third.1)

-- one subscript by the values so far left, and those that are then left
abbrev pub index_of : Option ℤ × List Bound → Subscript × List Bound
index_of (part, values) = (subscript.At (unwrap_or part (pos 0)), values)

abbrev pub slice_of : Slice × List Bound → Subscript × List Bound
slice_of (slice, values) = (subscript.Cut slice, values)

abbrev pub next_subscript : CoreSub → List Bound → Subscript × List Bound
next_subscript (sub.At x) values = index_of (part_from (Some x) values)
next_subscript (sub.Cut start stop step) values = slice_of (cut_of start stop step values)

-- subscripts by the values of their operands
abbrev pub subscripts_of : List CoreSub → List Bound → List Subscript
subscripts_of [] values = []
subscripts_of (s ∷ subs) values = (next_subscript s values).0 ∷ subscripts_of subs (next_subscript s values).1

-- a view by subscripts: an array, then the operands of the subscripts
abbrev pub pick_work : List CoreSub → Loc → Work
pick_work subs at (value ∷ values) buffers =
    valued buffers at (as_array (picked (subscripts_of subs values) (array_in value)))
pick_work subs at [] buffers = Blocked buffers

abbrev pub flip_work : Work
flip_work (value ∷ []) buffers = Made buffers (ArrayOf (flipped (array_in value)) ∷ [])
flip_work _ buffers = Blocked buffers

-- a new array by its dimensions
abbrev pub fresh_work : Fill → Loc → Work
fresh_work fill at dims buffers =
    made_new buffers at (λ ns. filled fill (element_count ns)) (fresh_shape fill (map word_of dims))

-- an element operation into a new array
abbrev pub map_work : MapOp → Loc → Work
map_work op at args buffers = made_new buffers at (λ ns. map_elements buffers ns op args) (shape_of args)

-- a reduction
abbrev pub reduce_work : RedOp → Loc → Work
reduce_work op at (value ∷ []) buffers = valued buffers at (as_word (reduced op (elements_of buffers (array_in value))))
reduce_work op at _ buffers = Blocked buffers

-- An array store: the right side is spread to the target's shape and read whole, and then the elements at the
-- target's places are replaced. It is a ValueError where the right side doesn't spread to that shape.
abbrev pub store_work : Loc → Work
store_work at (target ∷ value ∷ []) buffers = changed buffers at
    (and_then (stored_shape (array_in target).extents value)
    (λ ns. Ok (with_words buffers (array_in target).buffer (array_in target).places
    (operand_elements buffers ns value))))
store_work at _ buffers = Blocked buffers

-- The numbers of Python's range(lo, hi, step): lo, lo + step, lo + 2 step and on, while they stand before hi; None at
-- step 0. Each step leads on by 1 at least, so there are no more of them than from lo to hi.
abbrev pub numbers_from : ℕ → ℤ → ℤ → ℤ → List ℤ
numbers_from zero i hi step = []
numbers_from (suc n) i hi step = if is_before step hi i then i ∷ numbers_from n (i +ℤ step) hi step else []

abbrev pub range_numbers : ℤ → ℤ → ℤ → List ℤ
range_numbers lo hi step = numbers_from (unsigned_abs (hi -ℤ lo)) lo hi step

abbrev pub range_values : ℤ → ℤ → ℤ → Option (List ℤ)
range_values lo hi step = if is_zero step then None else Some (range_numbers lo hi step)

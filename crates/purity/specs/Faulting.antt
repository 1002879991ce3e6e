-- Which statements may fault by themselves. A literal is a number or a truth value, as 1 or 0.
use Rattle.std.specs.Prelude.{ℕ, Bool, true, false, not, nat_lt, ℤ, pos, List, [], ◌∷◌, slice_get, Option, Some, None}
use Rattle.std.specs.Prelude.{int_lt}
use Rattle.std.specs.List.{count_by, list_any}
use Rattle.krn_base.specs.Numbers.{is_zero}
use Rattle.krn_base.specs.declared.operation.BinOp.{BinOp}
use Rattle.krn_base.specs.declared.operation.BinOp.TheVariants as bin
use Rattle.array_ops.specs.declared.operation.RedOp.{RedOp}
use Rattle.array_ops.specs.declared.operation.RedOp.TheVariants as red
use Rattle.eager_rules.specs.Sound.{given_types}
use Rattle.eager_rules.specs.State.{truth_word}
use Rattle.eager_rules.specs.Types.{Ty, is_array, type_of}
use Rattle.eager_rules.specs.declared.program.Core.{Core}
use Rattle.eager_rules.specs.declared.program.Core.TheOpen as c
use Rattle.eager_rules.specs.declared.program.CoreSub.{CoreSub}
use Rattle.eager_rules.specs.declared.program.CoreSub.TheVariants as sub
use Rattle.eager_rules.specs.declared.program.Oper.{Oper}
use Rattle.eager_rules.specs.declared.program.Oper.TheVariants as oper
use Rattle.eager_rules.specs.declared.program.WordOp.{WordOp}
use Rattle.eager_rules.specs.declared.program.WordOp.TheVariants as word_op

-- a literal other than 0
abbrev pub is_divisor : Oper → Bool
is_divisor (oper.Int z) = not (is_zero z)
is_divisor (oper.Truth b) = b
is_divisor (oper.Name name) = false

-- a literal from 0
abbrev pub is_shift_count : Oper → Bool
is_shift_count (oper.Int z) = not (int_lt z (pos 0))
is_shift_count (oper.Truth b) = true
is_shift_count (oper.Name name) = false

-- whether a scalar operation may fault by its second operand
abbrev pub bin_may_fault : BinOp → Oper → Bool
bin_may_fault bin.FloorDiv x = not (is_divisor x)
bin_may_fault bin.Mod x = not (is_divisor x)
bin_may_fault bin.Shl x = not (is_shift_count x)
bin_may_fault bin.Shr x = not (is_shift_count x)
bin_may_fault _ x = false

abbrev pub word_may_fault : WordOp → List Oper → Bool
word_may_fault (word_op.Bin op) (left ∷ right ∷ args) = bin_may_fault op right
word_may_fault _ args = false

-- an operand is an array
abbrev pub is_array_operand : List Ty → Oper → Bool
is_array_operand names x = given_types (type_of names x) is_array

abbrev pub step_may_fault : Option Oper → Bool
step_may_fault None = false
step_may_fault (Some step) = not (is_divisor step)

abbrev pub sub_may_fault : CoreSub → Bool
sub_may_fault (sub.At x) = true
sub_may_fault (sub.Cut start stop step) = step_may_fault step

abbrev pub reduce_may_fault : RedOp → Bool
reduce_may_fault red.Min = true
reduce_may_fault red.Max = true
reduce_may_fault _ = false

-- A statement of an instance whose names have these types, what stands in its blocks and in the instance that it calls
-- apart: an element read or written, a new array, a store of an array, an element operation on two or more arrays, a
-- view by an integer or by a step that isn't a literal other than 0, a least or greatest element, a scalar division
-- whose divisor isn't a literal other than 0, a shift whose count isn't a literal from 0, and a loop whose step isn't
-- a literal other than 0.
abbrev pub may_fault_here : {A : Type 0} → List Ty → c.Core-F A → Bool
may_fault_here names (c.Word to op args at) = word_may_fault op args
may_fault_here names (c.Get to of index at) = true
may_fault_here names (c.Put of index value at) = true
may_fault_here names (c.Pick to of subs at) = list_any sub_may_fault subs
may_fault_here names (c.Fresh to dims fill at) = true
may_fault_here names (c.Map to op args at) = nat_lt 1 (count_by (is_array_operand names) args)
may_fault_here names (c.Reduce to op of at) = reduce_may_fault op
may_fault_here names (c.Store of value at) = is_array_operand names value
may_fault_here names (c.For var lo hi step at omp body) = not (is_divisor step)
may_fault_here names _ = false

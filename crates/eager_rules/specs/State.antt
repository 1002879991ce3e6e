-- The state of eager evaluation: buffers as lists of words, and what each name stands for.
use Rattle.std.specs.Prelude.{ℕ, ℤ, pos, Bool, true, false, List, slice_index_or, slice_set}
use Rattle.array_ops.specs.Arrays.{array_of}
use Rattle.array_ops.specs.Elements.{Bound, Unbound, WordOf, ArrayOf}
use Rattle.eager_rules.specs.declared.call.Arg.{Arg}
use Rattle.eager_rules.specs.declared.call.Arg.TheVariants as arg
use Rattle.eager_rules.specs.declared.program.Oper.{Oper}
use Rattle.eager_rules.specs.declared.program.Oper.TheVariants as oper

pub record State : Type 0 where
  pub buffers : List (List ℤ)
  pub names : List Bound

-- what a name stands for in a state
abbrev pub bound_of : State → ℕ → Bound
bound_of s name = slice_index_or s.names name Unbound

-- the state in which a name stands for a value
abbrev pub bind : ℕ → Bound → State → State
bind name value s = record { buffers = s.buffers; names = slice_set s.names name value }

-- the state with other buffers
abbrev pub with_buffers : List (List ℤ) → State → State
with_buffers buffers s = record { buffers = buffers; names = s.names }

-- a truth value as a word
abbrev pub truth_word : Bool → ℤ
truth_word true = pos 1
truth_word false = pos 0

-- what an operand stands for
abbrev pub operand : State → Oper → Bound
operand s (oper.Int z) = WordOf z
operand s (oper.Truth b) = WordOf (truth_word b)
operand s (oper.Name name) = bound_of s name

abbrev pub is_bound : Bound → Bool
is_bound Unbound = false
is_bound (WordOf z) = true
is_bound (ArrayOf a) = true

-- what an argument stands for
abbrev pub bound_to : Arg → Bound
bound_to (arg.Word z) = WordOf z
bound_to (arg.Array v) = ArrayOf (array_of v)

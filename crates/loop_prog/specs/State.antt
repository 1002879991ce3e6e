-- The state of a loop program: registers, which stand for a word or an array or nothing, buffers as lists of words,
-- and what has been counted. An array is its buffer, its extents and its places, as in eager evaluation.
use Rattle.std.specs.Prelude.{ℕ, ◌+◌, ◌^◌, ◌-◌, min, ℤ, Bool, true, false, List, [], ◌∷◌, slice_index_or, slice_set}
use Rattle.array_ops.specs.Elements.{Bound, Unbound, WordOf}
use Rattle.eager_rules.specs.State.{truth_word}
use Rattle.eager_rules.specs.declared.outcome.Counts.{Counts}
use Rattle.eager_rules.specs.declared.program.Oper.{Oper}
use Rattle.eager_rules.specs.declared.program.Oper.TheVariants as oper
use Rattle.loop_prog.specs.declared.program.Back.{Back}
use Rattle.loop_prog.specs.declared.program.Back.TheVariants as back
use Rattle.loop_prog.specs.declared.program.Reg.{Reg}
use Rattle.loop_prog.specs.declared.program.Reg.TheVariants as reg

pub record State : Type 0 where
  pub words : List Bound
  pub views : List Bound
  pub buffers : List (List ℤ)
  pub counts : Counts

-- what a register stands for; nothing where there is no such register
abbrev pub look : State → Reg → Bound
look t (reg.Word r) = slice_index_or t.words r Unbound
look t (reg.View v) = slice_index_or t.views v Unbound

-- what an operand stands for
abbrev pub operand_in : List Bound → Oper → Bound
operand_in words (oper.Int z) = WordOf z
operand_in words (oper.Truth b) = WordOf (truth_word b)
operand_in words (oper.Name r) = slice_index_or words r Unbound

abbrev pub operand : State → Oper → Bound
operand t = operand_in t.words

-- what a view register stands for
abbrev pub view_in : List Bound → ℕ → Bound
view_in views v = slice_index_or views v Unbound

abbrev pub view : State → ℕ → Bound
view t = view_in t.views

-- what a returned value stands for
abbrev pub back_value : State → Back → Bound
back_value t (back.Word x) = operand t x
back_value t (back.View v) = view t v

-- the state in which a register stands for a value
abbrev pub bind : Reg → Bound → State → State
bind (reg.Word r) value t =
    record { words = slice_set t.words r value; views = t.views; buffers = t.buffers; counts = t.counts }
bind (reg.View v) value t =
    record { words = t.words; views = slice_set t.views v value; buffers = t.buffers; counts = t.counts }

-- one value to one register after another, as far as there are both
abbrev pub bind_all : List Reg → List Bound → State → State
bind_all to [] t = t
bind_all [] (value ∷ values) t = t
bind_all (register ∷ to) (value ∷ values) t = bind_all to values (bind register value t)

-- the state in which registers stand for nothing
abbrev pub unassigned : List Reg → State → State
unassigned [] t = t
unassigned (register ∷ rest) t = unassigned rest (bind register Unbound t)

-- the state with other buffers
abbrev pub with_buffers : List (List ℤ) → State → State
with_buffers buffers t = record { words = t.words; views = t.views; buffers = buffers; counts = t.counts }

-- the state with other counts
abbrev pub with_counts : Counts → State → State
with_counts counts t = record { words = t.words; views = t.views; buffers = t.buffers; counts = counts }

-- one more; a count stays at 2^64 - 1 once it is there
abbrev pub one_more : ℕ → ℕ
one_more n = min (n + 1) (2 ^ 64 - 1)

-- a nest or a fold that ran to its end, and whether it went through a temporary
abbrev pub count_nest : Bool → Counts → Counts
count_nest true c =
    record { nests = one_more c.nests; temps = one_more c.temps; parallel = c.parallel; serial = c.serial }
count_nest false c =
    record { nests = one_more c.nests; temps = c.temps; parallel = c.parallel; serial = c.serial }

-- a parallel loop that was reached, and whether its guard held
abbrev pub count_loop : Bool → Counts → Counts
count_loop true c =
    record { nests = c.nests; temps = c.temps; parallel = one_more c.parallel; serial = c.serial }
count_loop false c =
    record { nests = c.nests; temps = c.temps; parallel = c.parallel; serial = one_more c.serial }

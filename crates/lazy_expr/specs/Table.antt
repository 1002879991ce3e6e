-- Registers of an instance's names. Each name has one of its own: scalars have the scalar registers and arrays the view
-- registers, each in the order of the names, so that the parameters have the first ones. (The numbers of registers are
-- free; this project takes these.)
use Rattle.std.specs.Prelude.{ℕ, ◌+◌, Bool, true, false, if◌then◌else◌, List, [], ◌∷◌, ◌++◌, map, length}
use Rattle.std.specs.Prelude.{slice_index_or}
use Rattle.krn_base.specs.declared.kind.Kind.{Kind}
use Rattle.krn_base.specs.declared.kind.Kind.TheVariants.{Int64}
use Rattle.eager_rules.specs.Types.{Ty, is_array}
use Rattle.eager_rules.specs.declared.program.CoreSub.{CoreSub}
use Rattle.eager_rules.specs.declared.program.CoreSub.TheVariants as sub
use Rattle.eager_rules.specs.declared.program.Oper.{Oper}
use Rattle.eager_rules.specs.declared.program.Oper.TheVariants as oper
use Rattle.std.specs.Prelude.{Option, Some, None, option_map}
use Rattle.loop_prog.specs.declared.program.Back.{Back}
use Rattle.loop_prog.specs.declared.program.Back.TheVariants as back
use Rattle.loop_prog.specs.declared.program.Reg.{Reg}
use Rattle.loop_prog.specs.declared.program.Reg.TheVariants as reg

-- whether a name is that of an array; one that isn't there is a scalar
abbrev pub is_array_name : List Ty → ℕ → Bool
is_array_name names n = is_array (slice_index_or names n (Int64, 0))

-- The registers of names, behind so many scalar ones and so many view ones.
abbrev pub table_from : ℕ → ℕ → List Ty → List Reg
table_from words views [] = []
table_from words views (t ∷ names) =
    if is_array t then reg.View views ∷ table_from words (views + 1) names
    else reg.Word words ∷ table_from (words + 1) views names

abbrev pub table_of : List Ty → List Reg
table_of names = table_from 0 0 names

-- the register of a name
abbrev pub register : List Reg → ℕ → Reg
register table n = slice_index_or table n (reg.Word 0)

-- its number among those of its class
abbrev pub number_of : Reg → ℕ
number_of (reg.Word r) = r
number_of (reg.View v) = v

abbrev pub number : List Reg → ℕ → ℕ
number table n = number_of (register table n)

-- the kinds of the scalar names, in order
abbrev pub word_kinds : List Ty → List Kind
word_kinds [] = []
word_kinds (t ∷ names) = if is_array t then word_kinds names else t.0 ∷ word_kinds names

-- the kinds and ranks of the arrays, in order
abbrev pub view_types : List Ty → List Ty
view_types [] = []
view_types (t ∷ names) = if is_array t then t ∷ view_types names else view_types names

-- an operand that is a scalar
abbrev pub oper_of : List Reg → Oper → Oper
oper_of table (oper.Int z) = oper.Int z
oper_of table (oper.Truth b) = oper.Truth b
oper_of table (oper.Name n) = oper.Name (number table n)

abbrev pub opers_of : List Reg → List Oper → List Oper
opers_of table xs = map (oper_of table) xs

abbrev pub sub_of : List Reg → CoreSub → CoreSub
sub_of table (sub.At x) = sub.At (oper_of table x)
sub_of table (sub.Cut start stop step) =
    sub.Cut (option_map (oper_of table) start) (option_map (oper_of table) stop) (option_map (oper_of table) step)

-- a returned value: the elements of a view register, or a word
abbrev pub back_in : Reg → Back
back_in (reg.Word r) = back.Word (oper.Name r)
back_in (reg.View v) = back.View v

abbrev pub back_of : List Reg → Oper → Back
back_of table (oper.Int z) = back.Word (oper.Int z)
back_of table (oper.Truth b) = back.Word (oper.Truth b)
back_of table (oper.Name n) = back_in (register table n)

-- The folded form of an instance without own calls: a name that always holds one literal is replaced by it, and an `If`
-- on a literal by its part, until nothing more is known. (Which names are folded is this project's own rule.)
use Rattle.std.specs.Prelude.{ℕ, zero, suc, ◌+◌, ◌==◌, ◌&&◌, not, Bool, true, false, nat_lt, nat_le, ℤ, pos, List, []}
use Rattle.std.specs.Prelude.{◌∷◌, ◌++◌, map}
use Rattle.std.specs.Prelude.{length, replicate, slice_get, slice_set, Option, Some, None, Result, Ok, Err}
use Rattle.std.specs.Prelude.{if◌then◌else◌, option_map}
use Rattle.std.specs.List.{count_by, flat_map}
use Rattle.std.specs.Ordering.{int_eq}
use Rattle.krn_base.specs.declared.fault.Fault.{Fault}
use Rattle.krn_base.specs.declared.kind.Kind.TheVariants.{Int64, Bool as Boolean}
use Rattle.krn_base.specs.declared.operation.Join.{Join}
use Rattle.eager_rules.specs.State.{truth_word}
use Rattle.eager_rules.specs.Statements.{binds, blocks_of}
use Rattle.eager_rules.specs.Types.{Ty}
use Rattle.eager_rules.specs.Works.{word_result}
use Rattle.eager_rules.specs.declared.program.Core.{Core}
use Rattle.eager_rules.specs.declared.program.Core.TheOpen as c
use Rattle.eager_rules.specs.declared.program.Core.TheVariants as core
use Rattle.eager_rules.specs.declared.program.Core.TheFolds.{fold-Core}
use Rattle.eager_rules.specs.declared.program.CoreSub.{CoreSub}
use Rattle.eager_rules.specs.declared.program.CoreSub.TheVariants as sub
use Rattle.eager_rules.specs.declared.program.Instance.{Instance}
use Rattle.eager_rules.specs.declared.program.Oper.{Oper}
use Rattle.eager_rules.specs.declared.program.Oper.TheVariants as oper
use Rattle.eager_rules.specs.declared.program.Program.{Program}
use Rattle.eager_rules.specs.declared.program.WordOp.{WordOp}
use Rattle.eager_rules.specs.declared.program.WordOp.TheVariants as word_op
use Rattle.inline.specs.Own.{is_among, joined}

-- ---- literals
-- for each name the literal that it always holds, where that is known
abbrev pub Literals : Type 0
Literals = List (Option Oper)

abbrev pub entry_of : Option (Option Oper) → Option Oper
entry_of None = None
entry_of (Some entry) = entry

abbrev pub known : Literals → ℕ → Option Oper
known table name = entry_of (slice_get table name)

-- an operand, with its literal in place of a name
abbrev pub literal_or : Oper → Option Oper → Oper
literal_or x None = x
literal_or x (Some literal) = literal

abbrev pub folded : Literals → Oper → Oper
folded table (oper.Int z) = oper.Int z
folded table (oper.Truth b) = oper.Truth b
folded table (oper.Name name) = literal_or (oper.Name name) (known table name)

-- the words of operands that are all literals
abbrev pub word_in : Oper → Option ℤ
word_in (oper.Int z) = Some z
word_in (oper.Truth b) = Some (truth_word b)
word_in (oper.Name name) = None

abbrev pub add_word : Option ℤ → Option (List ℤ) → Option (List ℤ)
add_word (Some z) (Some zs) = Some (z ∷ zs)
add_word _ _ = None

abbrev pub words_in : List Oper → Option (List ℤ)
words_in [] = Some []
words_in (x ∷ xs) = add_word (word_in x) (words_in xs)

-- a truth value as a literal; its word is 0 or 1
abbrev pub truth_literal : ℤ → Option Oper
truth_literal z =
    if int_eq z (pos 0) then Some (oper.Truth false) else (if int_eq z (pos 1) then Some (oper.Truth true) else None)

-- a word as a literal of a name's type, which is a scalar's
abbrev pub literal_as : Option Ty → ℤ → Option Oper
literal_as (Some (Int64, zero)) z = Some (oper.Int z)
literal_as (Some (Boolean, zero)) z = truth_literal z
literal_as _ z = None

abbrev pub made_literal : Option Ty → Result ℤ Fault → Option Oper
made_literal t (Ok z) = literal_as t z
made_literal t (Err fault) = None

-- what an operation on literals makes, where it doesn't fault
abbrev pub result_literal : Option Ty → WordOp → Option (List ℤ) → Option Oper
result_literal t op None = None
result_literal t op (Some zs) = made_literal t (word_result op zs)

abbrev pub is_move : WordOp → Bool
is_move word_op.Move = true
is_move _ = false

abbrev pub unless_move : Bool → Option Oper → Option Oper
unless_move true literal = None
unless_move false literal = literal

-- the literal that a statement on scalars makes by what is known, if it is no move
abbrev pub makes : List Ty → Literals → ℕ → WordOp → List Oper → Option Oper
makes types table to op args =
    unless_move (is_move op) (result_literal (slice_get types to) op (words_in (map (folded table) args)))

-- ---- names that may be folded
abbrev pub reduced_names : Option (List (Join × ℕ)) → List ℕ
reduced_names None = []
reduced_names (Some pairs) = map (λ p. p.1) pairs

-- the names in the reductions of a block's loops
abbrev pub reduced_step : c.Core-F (List ℕ) → List ℕ
reduced_step (c.For var lo hi by at omp body) = reduced_names omp ++ flat_map (λ names. names) body
reduced_step y = flat_map (λ names. names) (blocks_of y)

abbrev pub reduced : List Core → List ℕ
reduced block = flat_map (fold-Core (List ℕ) reduced_step) block

abbrev pub times : ℕ → List ℕ → ℕ
times name names = count_by (λ other. other == name) names

-- A name that is no parameter, that one statement binds, and that stands in no loop's reductions.
abbrev pub may_fold : Instance → ℕ → Bool
may_fold f name =
    (nat_le (length f.params) name && (times name (binds f.body) == 1)) && not (is_among name (reduced f.body))

-- ---- what is known of an instance, by a walk in the order of the text
abbrev pub Learning : Type 0
Learning = Literals → Literals

abbrev pub in_text_order : List Learning → Learning
in_text_order [] table = table
in_text_order (first ∷ rest) table = in_text_order rest (first table)

abbrev pub enter : Bool → ℕ → Option Oper → Learning
enter true to (Some literal) table = slice_set table to (Some literal)
enter _ to _ table = table

abbrev pub learn_step : Instance → c.Core-F Learning → Learning
learn_step f (c.Word to op args at) table = enter (may_fold f to) to (makes f.names table to op args) table
learn_step f y table = in_text_order (blocks_of y) table

abbrev pub learn : Instance → List Core → Learning
learn f block = in_text_order (map (fold-Core Learning (learn_step f)) block)

abbrev pub literals_of : Instance → Literals
literals_of f = learn f f.body (replicate (length f.names) None)

-- ---- one round
abbrev pub folded_sub : Literals → CoreSub → CoreSub
folded_sub table (sub.At x) = sub.At (folded table x)
folded_sub table (sub.Cut start stop step) =
    sub.Cut (option_map (folded table) start) (option_map (folded table) stop) (option_map (folded table) step)

-- a statement that makes a known literal goes
abbrev pub unless_known : Option Oper → Core → List Core
unless_known None x = x ∷ []
unless_known (Some literal) x = []

-- an `If` on a literal becomes its part
abbrev pub if_or_part : Oper → List Core → List Core → List Core
if_or_part (oper.Truth true) part other = part
if_or_part (oper.Truth false) part other = other
if_or_part cond part other = core.If cond part other ∷ []

-- what stands for a statement, with what stands for those of its blocks
abbrev pub fold_step : Literals → c.Core-F (List Core) → List Core
fold_step table (c.Word to op args at) =
    unless_known (known table to) (core.Word to op (map (folded table) args) at)
fold_step table (c.Extent to of axis) = core.Extent to of axis ∷ []
fold_step table (c.Get to of index at) = core.Get to of (map (folded table) index) at ∷ []
fold_step table (c.Put of index value at) = core.Put of (map (folded table) index) (folded table value) at ∷ []
fold_step table (c.Pick to of subs at) = core.Pick to of (map (folded_sub table) subs) at ∷ []
fold_step table (c.Flip to of) = core.Flip to of ∷ []
fold_step table (c.Alias to of) = core.Alias to of ∷ []
fold_step table (c.Fresh to dims fill at) = core.Fresh to (map (folded table) dims) fill at ∷ []
fold_step table (c.Map to op args at) = core.Map to op (map (folded table) args) at ∷ []
fold_step table (c.Reduce to op of at) = core.Reduce to op of at ∷ []
fold_step table (c.Store of value at) = core.Store of (folded table value) at ∷ []
fold_step table (c.Call to instance args) = core.Call to instance (map (folded table) args) ∷ []
fold_step table (c.If cond part other) = if_or_part (folded table cond) (joined part) (joined other)
fold_step table (c.For var lo hi by at omp body) =
    core.For var (folded table lo) (folded table hi) (folded table by) at omp (joined body) ∷ []
fold_step table (c.Return values) = core.Return (map (folded table) values) ∷ []

abbrev pub folded_block : Literals → List Core → List Core
folded_block table block = joined (map (fold-Core (List Core) (fold_step table)) block)

abbrev pub with_body : Instance → List Core → Instance
with_body f body = record {
  name = f.name;
  weight = f.weight;
  params = f.params;
  rets = f.rets;
  names = f.names;
  body = body;
}

abbrev pub round : Instance → Instance
round f = with_body f (folded_block (literals_of f) f.body)

-- ---- rounds until nothing more is known
-- A round leads to another only where it took a binding away, since only then a name may have become one that is
-- bound once.
abbrev pub bindings : Instance → ℕ
bindings f = length (binds f.body)

abbrev pub rounds : ℕ → Instance → Instance
rounds zero f = f
rounds (suc left) f = if nat_lt (bindings (round f)) (bindings f) then rounds left (round f) else round f

abbrev pub folded_instance : Instance → Instance
folded_instance f = rounds (bindings f + 1) f

abbrev pub folded_program : Program → Program
folded_program program =
    record { instances = map folded_instance program.instances; kernels = program.kernels }

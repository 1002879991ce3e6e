-- Laws of stores, reads and operations, in NumPy's own words.
use Rattle.std.specs.Prelude.{◌≡◌, ℕ, ◌<◌, ◌≤◌, ℤ, Bool, true, false, List, [], ◌∷◌, ◌++◌, length, map, slice_index}
use Rattle.std.specs.Prelude.{slice_get, Some}
use Rattle.std.specs.List.{AllByRecursion, flat_map}
use Rattle.array_ops.specs.Arrays.{elements_at, with_words, word_at, words_of}
use Rattle.array_ops.specs.Elements.{Bound}
use Rattle.eager_rules.specs.Blocks.{End, Stuck}
use Rattle.eager_rules.specs.Eager.{Calls, block, calls_at, entered, work_of}
use Rattle.eager_rules.specs.Kept.{FitsInstance}
use Rattle.eager_rules.specs.Outcome.{buffers_of, instance_outcome}
use Rattle.eager_rules.specs.State.{State, bound_of, bound_to}
use Rattle.eager_rules.specs.Statements.{blocks_of, reads_of}
use Rattle.eager_rules.specs.Works.{Done, Made, Failed, Blocked}
use Rattle.eager_rules.specs.declared.call.Call.{Call}
use Rattle.eager_rules.specs.declared.program.Instance.{Instance}
use Rattle.eager_rules.specs.declared.program.Oper.{Oper}
use Rattle.eager_rules.specs.declared.program.Oper.TheVariants as oper
use Rattle.eager_rules.specs.declared.program.Program.{Program}
use Rattle.eager_rules.specs.declared.program.Core.{Core}
use Rattle.eager_rules.specs.declared.program.Core.TheFolds.{fold-Core}
use Rattle.eager_rules.specs.declared.program.Core.TheOpen as c

-- reading the places of a store gives what was stored
abbrev pub ReadsWhatWasStored : List (List ℤ) → ℕ → List ℕ → List ℤ → Type 0
ReadsWhatWasStored buffers buffer places words =
    elements_at (with_words buffers buffer places words) buffer places ≡ words

-- a place is none of these
abbrev pub Misses : List ℕ → ℕ → Type 0
Misses places place = (i : ℕ) → i < length places → slice_index places i ≡ place → ⊥

-- a store leaves the words of other buffers, and of other places
abbrev pub KeepsOthers : List (List ℤ) → ℕ → List ℕ → List ℤ → Type 0
KeepsOthers buffers buffer places words =
    (other place : ℕ) → (other ≡ buffer → Misses places place) →
    word_at (with_words buffers buffer places words) other place ≡ word_at buffers other place

-- the buffers after work
abbrev pub buffers_after : Done → List (List ℤ)
buffers_after (Made buffers values) = buffers
buffers_after (Failed buffers fault at) = buffers
buffers_after (Blocked buffers) = buffers

-- whether a statement may change a buffer that stands
abbrev pub may_change : c.Core-F Core → Bool
may_change (c.Put of index value at) = true
may_change (c.Store of value at) = true
may_change (c.Call to instance args) = true
may_change _ = false

-- Work other than an element written, an array store and a call leaves each buffer that stood.
abbrev pub LeavesBuffers : Calls → c.Core-F Core → Type 0
LeavesBuffers calls y =
    (values : List Bound) (buffers : List (List ℤ)) (number : ℕ) → number < length buffers →
    words_of (buffers_after (work_of calls y values buffers)) number ≡ words_of buffers number

-- Where calls go as deep as there are instances, every greater depth gives the same outcome.
abbrev pub IsDeepEnough : Program → Type 0
IsDeepEnough program =
    (depth : ℕ) → length program.instances ≤ depth → (number : ℕ) (f : Instance) →
    slice_get program.instances number ≡ Some f → (call : Call) →
    instance_outcome program.instances depth f call ≡
    instance_outcome program.instances (length program.instances) f call

-- what evaluating an instance's body on a call comes to
abbrev pub run_of : Program → Instance → Call → State × End
run_of program f call =
    block (calls_at program.instances (length program.instances)) f.body
    (entered f (map bound_to call.args) (buffers_of call))

-- A call that fits an instance never ends at a statement that reads what is unbound, or whose work can't be done.
abbrev pub IsNeverStuck : Program → Type 0
IsNeverStuck program =
    (number : ℕ) (f : Instance) (call : Call) → slice_get program.instances number ≡ Some f → FitsInstance f call →
    (run_of program f call).1 ≡ Stuck → ⊥

-- the name that an operand reads, if it is one
abbrev pub name_of : Oper → List ℕ
name_of (oper.Int z) = []
name_of (oper.Truth b) = []
name_of (oper.Name name) = name ∷ []

-- the names that a block reads, those of inner blocks among them
abbrev pub read_step : c.Core-F (List ℕ) → List ℕ
read_step y = flat_map name_of (reads_of y) ++ flat_map (λ names. names) (blocks_of y)

abbrev pub names_read : List Core → List ℕ
names_read body = flat_map (fold-Core (List ℕ) read_step) body

-- two states with the same buffers and as many names, which agree on these
pub record AgreeOn (names : List ℕ) (s t : State) : Type 0 where
  pub buffers : s.buffers ≡ t.buffers
  pub size : length s.names ≡ length t.names
  pub named : AllByRecursion (λ name. bound_of s name ≡ bound_of t name) names

-- The end of a block, with its values or its fault, and the buffers it leaves depend on no names but those it reads.
abbrev pub ReadsNoOthers : Calls → List Core → Type 0
ReadsNoOthers calls body =
    (s t : State) → AgreeOn (names_read body) s t →
    ((block calls body s).1 ≡ (block calls body t).1) ×
    ((block calls body s).0.buffers ≡ (block calls body t).0.buffers)

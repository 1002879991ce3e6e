-- What a run of a well-typed program keeps: the kinds of what names stand for and of the words of buffers, and how many
-- words each buffer has. A row is a buffer's kind and its number of words.
use Rattle.std.specs.Prelude.{◌≡◌, ℕ, ℤ, true, List, [], ◌∷◌, length, map, slice_get, Some}
use Rattle.std.specs.List.{All}
use Rattle.krn_base.specs.declared.kind.Kind.{Kind}
use Rattle.array_ops.specs.Elements.{Bound, Unbound, WordOf, ArrayOf}
use Rattle.eager_rules.specs.Blocks.{Meaning, End, GoesOn, Returned, Faulted, Stuck}
use Rattle.eager_rules.specs.Eager.{calls_at, entered, meaning}
use Rattle.eager_rules.specs.Fits.{IsOfKind}
use Rattle.eager_rules.specs.Kept.{FitsInstance, IsKernel, KeepsBuffers}
use Rattle.eager_rules.specs.Outcome.{buffers_of, outcome_of}
use Rattle.eager_rules.specs.Sound.{fits, head_of}
use Rattle.eager_rules.specs.State.{State, bound_to}
use Rattle.eager_rules.specs.Types.{Ty}
use Rattle.eager_rules.specs.declared.call.Call.{Call}
use Rattle.eager_rules.specs.declared.program.Core.{Core}
use Rattle.eager_rules.specs.declared.program.Instance.{Instance}
use Rattle.eager_rules.specs.declared.program.Program.{Program}

-- a relation between the items of two lists of one length, place by place
abbrev pub Each : {A B : Type 0} → (A → B → Type 0) → List A → List B → Type 0
Each R [] [] = Unit {0}
Each R [] (y ∷ ys) = ⊥
Each R (x ∷ xs) [] = ⊥
Each R (x ∷ xs) (y ∷ ys) = R x y × Each R xs ys

-- a list begins with another
abbrev pub Extends : {A : Type 0} → List A → List A → Type 0
Extends [] more = Unit {0}
Extends (x ∷ xs) [] = ⊥
Extends (x ∷ xs) (y ∷ more) = (x ≡ y) × Extends xs more

abbrev pub Row : Type 0
Row = Kind × ℕ

-- the words of a buffer are of its row
abbrev pub Holds : Row → List ℤ → Type 0
Holds row words = (length words ≡ row.1) × All (IsOfKind row.0) words

abbrev pub HoldAll : List Row → List (List ℤ) → Type 0
HoldAll = Each Holds

-- a buffer is one of this kind
abbrev pub LiesIn : List Row → Kind → ℕ → Type 0
LiesIn rows kind buffer = (count : ℕ) × (slice_get rows buffer ≡ Some (kind, count))

-- what is bound is of a type; a scalar may be an array without dimensions
abbrev pub OfType : List Row → Ty → Bound → Type 0
OfType rows t Unbound = ⊥
OfType rows t (WordOf z) = (t.1 ≡ 0) × IsOfKind t.0 z
OfType rows t (ArrayOf a) = LiesIn rows t.0 a.buffer

-- what a name stands for is of its type, if it stands for anything
abbrev pub OfName : List Row → Ty → Bound → Type 0
OfName rows t Unbound = Unit {0}
OfName rows t (WordOf z) = OfType rows t (WordOf z)
OfName rows t (ArrayOf a) = OfType rows t (ArrayOf a)

-- values are of types, as far as there are both
abbrev pub Given : List Row → List Ty → List Bound → Type 0
Given rows types [] = Unit {0}
Given rows [] (v ∷ values) = Unit {0}
Given rows (t ∷ types) (v ∷ values) = OfType rows t v × Given rows types values

-- a state whose buffers are of these rows and whose names are of these types
pub record StateOf (rows : List Row) (types : List Ty) (s : State) : Type 0 where
  pub buffers : HoldAll rows s.buffers
  pub names : Each (OfName rows) types s.names

-- what a statement comes to: the rows that there were, and perhaps more
abbrev pub EndOf : List Row → List Ty → List Ty → State × End → Type 0
EndOf rows names rets (s, GoesOn) = (more : List Row) × Extends rows more × StateOf more names s
EndOf rows names rets (s, Returned values) =
    (more : List Row) × Extends rows more × HoldAll more s.buffers × Given more rets values
EndOf rows names rets (s, Faulted fault at) = (more : List Row) × Extends rows more × HoldAll more s.buffers
EndOf rows names rets (s, Stuck) = (more : List Row) × Extends rows more × HoldAll more s.buffers

abbrev pub MeaningOf : List Ty → List Ty → Meaning State → Type 0
MeaningOf names rets m = (rows : List Row) (s : State) → StateOf rows names s → EndOf rows names rets (m s)

-- Each statement of an instance keeps the types of its names, to whatever depth calls go.
abbrev pub KeepsTypes : Program → Type 0
KeepsTypes program =
    (number : ℕ) (f : Instance) → slice_get program.instances number ≡ Some f → (depth : ℕ) (x : Core) →
    fits (map head_of program.instances) f.rets f.names x ≡ true →
    MeaningOf f.names f.rets (meaning (calls_at program.instances depth) x)

-- A call that fits an instance begins in a state of its names' types.
abbrev pub BeginsTyped : Program → Type 0
BeginsTyped program =
    (number : ℕ) (f : Instance) → slice_get program.instances number ≡ Some f → (call : Call) → FitsInstance f call →
    (rows : List Row) × StateOf rows f.names (entered f (map bound_to call.args) (buffers_of call))

-- A call that fits a kernel leaves as many words in each of its buffers, of the buffer's kind.
abbrev pub LeavesFilled : Program → Type 0
LeavesFilled program =
    (kernel : ℕ) (f : Instance) → IsKernel program kernel f → (call : Call) → FitsInstance f call →
    KeepsBuffers call (outcome_of program kernel call)

-- What effects say of calls, as eager evaluation makes them.
use Rattle.std.specs.Prelude.{◌≡◌, ℕ, zero, suc, ◌<◌, ℤ, true, ◌⊎◌, List, [], ◌∷◌, map, length, slice_get, Some}
use Rattle.view_places.specs.Arrays.{is_small}
use Rattle.array_ops.specs.Arrays.{ArrayRef, words_of}
use Rattle.array_ops.specs.Elements.{Bound, Unbound, WordOf, ArrayOf}
use Rattle.eager_rules.specs.Eager.{calls_at}
use Rattle.eager_rules.specs.Laws.{buffers_after}
use Rattle.eager_rules.specs.Sound.{IsSound}
use Rattle.eager_rules.specs.Types.{Ty, type_of_param}
use Rattle.eager_rules.specs.Works.{Done, Made, Failed, Blocked}
use Rattle.eager_rules.specs.declared.program.Instance.{Instance}
use Rattle.eager_rules.specs.declared.program.Program.{Program}
use Rattle.purity.specs.Answers.{may_fault_in, may_write_in}
use Rattle.purity.specs.Effects.{Faults, Writes}
use Rattle.purity.specs.declared.answers.Effects.{Effects}

-- a value of a rank: a word, or an array with as many dimensions and of an accepted size
abbrev pub IsOfRank : ℕ → Bound → Type 0
IsOfRank rank Unbound = ⊥
IsOfRank zero (WordOf z) = Unit {0}
IsOfRank zero (ArrayOf a) = ⊥
IsOfRank (suc rank) (WordOf z) = ⊥
IsOfRank (suc rank) (ArrayOf a) = (length a.extents ≡ suc rank) × (is_small a.extents ≡ true)

abbrev pub AreOfRanks : List Ty → List Bound → Type 0
AreOfRanks [] [] = Unit {0}
AreOfRanks [] (v ∷ values) = ⊥
AreOfRanks (t ∷ types) [] = ⊥
AreOfRanks (t ∷ types) (v ∷ values) = IsOfRank t.1 v × AreOfRanks types values

-- the arguments are of the ranks of an instance's parameters
abbrev pub AreArguments : Instance → List Bound → Type 0
AreArguments f args = AreOfRanks (map (λ p. type_of_param p.1) f.params) args

-- the argument for a parameter is an array that lies in a buffer
pub record LiesIn (args : List Bound) (param buffer : ℕ) : Type 0 where
  pub array : ArrayRef
  pub argument : slice_get args param ≡ Some (ArrayOf array)
  pub lies : array.buffer ≡ buffer

-- a call ends without a fault
abbrev pub IsNoFault : Done → Type 0
IsNoFault (Made buffers values) = Unit {0}
IsNoFault (Failed buffers fault at) = ⊥
IsNoFault (Blocked buffers) = Unit {0}

-- A call of an instance changes a buffer that stood before it only where an argument lies in that buffer for whose
-- parameter the answer is that it may be written.
abbrev pub WritesNoOthers : Program → Effects → Type 0
WritesNoOthers program effects =
    (number : ℕ) (f : Instance) → slice_get program.instances number ≡ Some f →
    (depth : ℕ) (args : List Bound) (buffers : List (List ℤ)) → AreArguments f args →
    (buffer : ℕ) → buffer < length buffers →
    (words_of (buffers_after (calls_at program.instances depth number args buffers)) buffer ≡ words_of buffers buffer)
    ⊎ ((param : ℕ) × LiesIn args param buffer × (may_write_in effects number param ≡ true))

-- Where the answer is that an instance can't fault, no call of it faults.
abbrev pub FaultsNever : Program → Effects → Type 0
FaultsNever program effects =
    (number : ℕ) (f : Instance) → slice_get program.instances number ≡ Some f →
    (may_fault_in effects number ≡ true → ⊥) →
    (depth : ℕ) (args : List Bound) (buffers : List (List ℤ)) → AreArguments f args →
    IsNoFault (calls_at program.instances depth number args buffers)

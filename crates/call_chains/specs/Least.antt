-- The first of the refused calls that were looked at so far.
use Rattle.std.specs.Prelude.{◌≡◌, ℕ, ◌<◌, ◌⊎◌, Bool, false, true, List, Option, Some, None, Result, Ok, Err}
use Rattle.std.specs.List.{Contains}
use Rattle.krn_base.specs.declared.place.Loc.{Loc}
use Rattle.krn_base.specs.declared.refusal.Rule.TheVariants.{Recursion}
use Rattle.krn_base.specs.declared.refusal.Stop.{Stop}
use Rattle.krn_base.specs.declared.refusal.Stop.TheVariants as stop
use Rattle.module_names.specs.Places.{is_before}
use Rattle.call_chains.specs.Chains.{Rows, row, IsRefused, IsRefusedAt, IsAccepted, IsFirst}
use Rattle.call_chains.specs.declared.graph.OwnCall.{OwnCall}

-- A call among these of one function is refused at this place.
pub record RefusedAmong (rows : Rows) (exported : List ℕ) (caller : ℕ) (calls : List OwnCall) (at : Loc) : Type 0 where
  pub call : OwnCall
  pub stands : Contains calls call
  pub place : call.at ≡ at
  pub refused : IsRefused rows exported caller call.callee

-- a call of one of the first functions is
abbrev pub RefusedBelow : Rows → List ℕ → ℕ → Loc → Type 0
RefusedBelow rows exported end at = (f : ℕ) × (f < end) × RefusedAmong rows exported f (row rows f) at

-- the least of the places at which something is, if there are any
abbrev pub IsLeast : (Loc → Type 0) → Option Loc → Type 0
IsLeast P None = (at : Loc) → P at → ⊥
IsLeast P (Some at) = P at × ((x : Loc) → P x → is_before x at ≡ false)

-- the least so far: of the calls of the first functions, and of these calls of the next one
abbrev pub IsLeastBelow : Rows → List ℕ → ℕ → Option Loc → Type 0
IsLeastBelow rows exported end first = IsLeast (RefusedBelow rows exported end) first

abbrev pub SoFar : Rows → List ℕ → ℕ → List OwnCall → Loc → Type 0
SoFar rows exported caller calls at = RefusedBelow rows exported caller at ⊎ RefusedAmong rows exported caller calls at

-- a place comes before the first so far
abbrev pub is_sooner : Option Loc → Loc → Bool
is_sooner None at = true
is_sooner (Some first) at = is_before at first

-- the answer by the first refused call
abbrev pub Answers : Rows → List ℕ → Result (Unit {0}) Stop → Type 0
Answers rows exported (Ok x) = IsAccepted rows exported
Answers rows exported (Err (stop.Refused r)) = (r.rule ≡ Recursion) × IsFirst rows exported r.loc
Answers rows exported (Err stop.Memory) = Unit {0}

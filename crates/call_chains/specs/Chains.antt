-- Chains of own calls, and the rule Recursion (this project's own): in a function to which a chain leads from an
-- exported one, a call is refused that leads back to that function, and one that is the 33rd of a chain.
use Rattle.std.specs.Prelude.{◌≡◌, ℕ, ◌==◌, ◌≤◌, Bool, true, false, ◌⊎◌, List, [], ◌∷◌, length, slice_index_or}
use Rattle.std.specs.Prelude.{Result, Ok, Err}
use Rattle.std.specs.List.{Contains, list_any}
use Rattle.krn_base.specs.declared.place.Loc.{Loc}
use Rattle.krn_base.specs.declared.refusal.Refusal.{Refusal}
use Rattle.krn_base.specs.declared.refusal.Rule.TheVariants.{Recursion}
use Rattle.krn_base.specs.declared.refusal.Stop.{Stop}
use Rattle.krn_base.specs.declared.refusal.Stop.TheVariants as stop
use Rattle.module_names.specs.Places.{is_before}
use Rattle.call_chains.specs.declared.graph.OwnCall.{OwnCall}

-- the own calls of each function
abbrev pub Rows : Type 0
Rows = List (List OwnCall)

-- those of the function with this number
abbrev pub row : Rows → ℕ → List OwnCall
row rows f = slice_index_or rows f []

-- one of these calls is of g
abbrev pub has_callee : ℕ → List OwnCall → Bool
has_callee g calls = list_any (λ c. c.callee == g) calls

-- f calls g
abbrev pub calls : Rows → ℕ → ℕ → Bool
calls rows f g = has_callee g (row rows f)

-- a chain of calls that leads to g: the functions before g, the nearest first, each of which calls the one behind it;
-- the first function of the chain is one of the starts
abbrev pub IsChain : Rows → List ℕ → ℕ → List ℕ → Type 0
IsChain rows starts g [] = Contains starts g
IsChain rows starts g (f ∷ before) = (calls rows f g ≡ true) × IsChain rows starts f before

-- a chain leads from one of the starts to g
abbrev pub Reaches : Rows → List ℕ → ℕ → Type 0
Reaches rows starts g = (before : List ℕ) × IsChain rows starts g before

-- how many calls of a chain are accepted
abbrev pub most_calls : ℕ
most_calls = 32

-- the called function leads back to the calling one
abbrev pub LeadsBack : Rows → ℕ → ℕ → Type 0
LeadsBack rows callee caller = Reaches rows (callee ∷ []) caller

-- A call in this function is refused: an exported function leads there, and by as many calls as a chain may have, or
-- the called function leads back.
pub record IsRefused (rows : Rows) (exported : List ℕ) (caller callee : ℕ) : Type 0 where
  pub reached : Reaches rows exported caller
  pub cause : ((before : List ℕ) × (length before ≡ most_calls) × IsChain rows exported caller before)
      ⊎ LeadsBack rows callee caller

-- A call with its name at this place is refused.
pub record IsRefusedAt (rows : Rows) (exported : List ℕ) (at : Loc) : Type 0 where
  pub caller : ℕ
  pub call : OwnCall
  pub stands : Contains (row rows caller) call
  pub place : call.at ≡ at
  pub refused : IsRefused rows exported caller call.callee

-- no call is refused
abbrev pub IsAccepted : Rows → List ℕ → Type 0
IsAccepted rows exported = (at : Loc) → IsRefusedAt rows exported at → ⊥

-- A call is refused here, and none is before it.
pub record IsFirst (rows : Rows) (exported : List ℕ) (at : Loc) : Type 0 where
  pub refused : IsRefusedAt rows exported at
  pub first : (x : Loc) → IsRefusedAt rows exported x → is_before x at ≡ false

-- a refusal by the rule at the first refused call
abbrev pub Refuses : Rows → List ℕ → Stop → Type 0
Refuses rows exported (stop.Refused r) = (r.rule ≡ Recursion) × IsFirst rows exported r.loc
Refuses rows exported stop.Memory = Unit {0}

-- Chains from exported functions are short, and no function that they lead to calls one that leads back.
pub record HasShortChains (rows : Rows) (exported : List ℕ) : Type 0 where
  pub short : (f : ℕ) (before : List ℕ) → IsChain rows exported f before → length before ≤ most_calls
  pub apart : (f g : ℕ) → Reaches rows exported f → calls rows f g ≡ true → LeadsBack rows g f → ⊥

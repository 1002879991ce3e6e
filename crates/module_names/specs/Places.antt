-- Places in a text, the first of several, and what an answer says.
use Rattle.std.specs.Prelude.{◌≡◌, Bool, false, ◌&&◌, ◌||◌, ◌==◌, nat_lt, if◌then◌else◌, ◌⊎◌, List, [], ◌∷◌, ◌++◌}
use Rattle.std.specs.Prelude.{Option, Some, None, Result, Ok, Err}
use Rattle.krn_base.specs.declared.place.Loc.{Loc}
use Rattle.krn_base.specs.declared.refusal.Rule.{Rule}
use Rattle.krn_base.specs.declared.refusal.Stop.{Stop}
use Rattle.krn_base.specs.declared.refusal.Stop.TheVariants as stop

-- a place stands before another: on an earlier line, or on the same one at an earlier column
abbrev pub is_before : Loc → Loc → Bool
is_before a b = nat_lt a.line b.line || (a.line == b.line && nat_lt a.col b.col)

-- a place where a test holds
abbrev pub mark : Bool → Loc → Option Loc
mark test at = if test then Some at else None

-- the places that are given
abbrev pub given : List (Option Loc) → List Loc
given [] = []
given (Some at ∷ marks) = at ∷ given marks
given (None ∷ marks) = given marks

abbrev pub Among : Loc → List Loc → Type 0
Among at [] = ⊥
Among at (x ∷ xs) = (at ≡ x) ⊎ Among at xs

-- one of the places, and none of them stands before it
pub record IsFirst (at : Loc) (places : List Loc) : Type 0 where
  pub among : Among at places
  pub first : (x : Loc) → Among x places → is_before x at ≡ false

-- a refusal by this rule at the first of the places
abbrev pub RefusesAt : Rule → List Loc → Stop → Type 0
RefusesAt rule places (stop.Refused r) = (r.rule ≡ rule) × IsFirst r.loc places
RefusesAt rule places stop.Memory = Unit {0}

-- an answer other than yes is want of memory alone
abbrev pub IsOnlyYes : Result (Unit {0}) Stop → Type 0
IsOnlyYes (Ok x) = Unit {0}
IsOnlyYes (Err (stop.Refused r)) = ⊥
IsOnlyYes (Err stop.Memory) = Unit {0}

-- an answer other than a refusal by this rule at this place is want of memory alone
abbrev pub IsOnlyAt : Rule → Loc → Result (Unit {0}) Stop → Type 0
IsOnlyAt rule at (Ok x) = ⊥
IsOnlyAt rule at (Err (stop.Refused r)) = r ≡ record { rule = rule; loc = at }
IsOnlyAt rule at (Err stop.Memory) = Unit {0}

-- the first of a place and one more, if there are any
abbrev pub sooner_of : Option Loc → Loc → Loc
sooner_of None at = at
sooner_of (Some x) at = if is_before at x then at else x

abbrev pub sooner : Option Loc → Option Loc → Option Loc
sooner first None = first
sooner first (Some at) = Some (sooner_of first at)

-- the first of a place and several more, if there are any
abbrev pub soonest : Option Loc → List (Option Loc) → Option Loc
soonest first [] = first
soonest first (mark ∷ marks) = soonest (sooner first mark) marks

abbrev pub Refused : Rule → Loc → Stop
Refused rule at = stop.Refused (record { rule = rule; loc = at })

-- the answer of a test whose first refused place this is
abbrev pub answer : Rule → Option Loc → Result (Unit {0}) Stop
answer rule None = Ok tt
answer rule (Some at) = Err (Refused rule at)

-- what a test answers by its marks, unless memory is wanting
abbrev pub IsAnswer : Rule → List (Option Loc) → Result (Unit {0}) Stop → Type 0
IsAnswer rule marks (Err stop.Memory) = Unit {0}
IsAnswer rule marks (Err (stop.Refused r)) = answer rule (soonest None marks) ≡ Err (stop.Refused r)
IsAnswer rule marks (Ok x) = answer rule (soonest None marks) ≡ Ok x

-- for each of a list, with those before it
abbrev pub in_turn : {A : Type 0} → (List A → A → List (Option Loc)) → List A → List A → List (Option Loc)
in_turn marks before [] = []
in_turn marks before (x ∷ xs) = marks before x ++ in_turn marks (before ++ x ∷ []) xs

-- How statements follow one another, over any kind of state. The core and the loop program share these, so that "the
-- same end at the same place" is an equation.
use Rattle.std.specs.Prelude.{zero, ℤ, pos, List, [], ◌∷◌, Option, Some, None, Result, Ok, Err}
use Rattle.krn_base.specs.declared.fault.Fault.{Fault}
use Rattle.krn_base.specs.declared.fault.Fault.TheVariants.{ValueError}
use Rattle.krn_base.specs.declared.place.Loc.{Loc}
use Rattle.array_ops.specs.Elements.{Bound}

-- how a statement ends: the next one follows; values are returned; it faults at a place; or it reads what is unbound,
-- which a sound program never does
pub data End : Type 0 where
  GoesOn : End
  Returned : List Bound → End
  Faulted : Fault → Loc → End
  Stuck : End

abbrev pub Meaning : Type 0 → Type 0
Meaning S = S → S × End

abbrev pub onward : {S : Type 0} → S → S × End
onward s = (s, GoesOn)

-- what follows where the end says so
abbrev pub then_do : {S : Type 0} → S × End → Meaning S → S × End
then_do (s, GoesOn) next = next s
then_do (s, Returned values) next = (s, Returned values)
then_do (s, Faulted fault at) next = (s, Faulted fault at)
then_do (s, Stuck) next = (s, Stuck)

-- statements one after another
abbrev pub in_order : {S : Type 0} → List (Meaning S) → Meaning S
in_order [] s = (s, GoesOn)
in_order (first ∷ rest) s = then_do (first s) (in_order rest)

-- a body once for each value of a loop's variable, which `set` binds
abbrev pub for_each : {S : Type 0} → (ℤ → S → S) → Meaning S → List ℤ → Meaning S
for_each set body [] s = (s, GoesOn)
for_each set body (i ∷ rest) s = then_do (body (set i s)) (for_each set body rest)

-- a loop over the values of a range; a range by step 0 has none and is a ValueError
abbrev pub loop_over : {S : Type 0} → (ℤ → S → S) → Meaning S → Loc → Option (List ℤ) → Meaning S
loop_over set body at None s = (s, Faulted ValueError at)
loop_over set body at (Some values) s = for_each set body values s

-- one of two parts: the second by 0
abbrev pub choice : {S : Type 0} → ℤ → Meaning S → Meaning S → Meaning S
choice (pos zero) part other = other
choice _ part other = part

-- work that gives a result, or a fault at its place
abbrev pub given : {S A : Type 0} → Result A Fault → Loc → (A → S → S) → Meaning S
given (Ok a) at next s = (next a s, GoesOn)
given (Err fault) at next s = (s, Faulted fault at)

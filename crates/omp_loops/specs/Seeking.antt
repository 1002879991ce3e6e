-- What a walk over statements comes to.
use Rattle.std.specs.Prelude.{◌≡◌, ℕ, ◌+◌, Bool, true, List, length, Option, Some, None, Result, Ok, Err}
use Rattle.krn_base.specs.declared.place.Loc.{Loc}
use Rattle.krn_base.specs.declared.refusal.NoMemory.{NoMemory}
use Rattle.loop_prog.specs.declared.program.Statement.{Statement}
use Rattle.omp_loops.specs.Loops.{first_loop}

-- A walk from the statement with the number n that comes to the number m: past all, none of which is a parallel loop,
-- so that the test `serial` holds, or to the first one, at a place.
abbrev pub Sought : Result (Option Loc) NoMemory → ℕ → ℕ → List Statement → Bool → Type 0
Sought (Ok None) n m all serial = (first_loop n all ≡ None) × ((m ≡ n + length all) × (serial ≡ true))
Sought (Ok (Some at)) n m all serial = first_loop n all ≡ Some (m, at)
Sought (Err none) n m all serial = Unit {0}

-- a walk that has come to the number n with these statements left finds what one from the number m over those does
abbrev pub Left : ℕ → List Statement → ℕ → List Statement → Type 0
Left n left m all = (first_loop n left ≡ first_loop m all) × (n + length left ≡ m + length all)

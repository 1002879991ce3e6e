-- How the names of an instance are numbered: parameters first, then each other name where it is first bound, in the
-- order of statements.
use Rattle.std.specs.Prelude.{◌≡◌, ℕ, ◌+◌, ◌<◌, ◌==◌, ◌⊎◌, nat_lt, Bool, true, false, List, [], ◌∷◌, length}
use Rattle.std.specs.Prelude.{Option, Some, None}
use Rattle.std.specs.List.{All}
use Rattle.eager_rules.specs.Statements.{binds}
use Rattle.eager_rules.specs.declared.program.Instance.{Instance}
use Rattle.eager_rules.specs.declared.program.Program.{Program}

-- each bound name stands already, or is the next one; n names stand before these bindings, and m behind them
abbrev pub FirstBound : ℕ → List ℕ → ℕ → Type 0
FirstBound n [] m = n ≡ m
FirstBound n (name ∷ names) m = ((name < n) × FirstBound n names m) ⊎ ((name ≡ n) × FirstBound (n + 1) names m)

-- a body's bindings, from the parameters on, lead to the names of its instance and to no others
abbrev pub IsNumbered : Instance → Type 0
IsNumbered f = FirstBound (length f.params) (binds f.body) (length f.names)

abbrev pub AreNumbered : Program → Type 0
AreNumbered program = All IsNumbered program.instances

-- ---- as a test

-- how many names stand behind a binding; None where it is none of n names and not the next one
abbrev pub after_by : Bool → Bool → ℕ → Option ℕ
after_by true next n = Some n
after_by false true n = Some (n + 1)
after_by false false n = None

abbrev pub after : ℕ → ℕ → Option ℕ
after n name = after_by (nat_lt name n) (name == n) n

abbrev pub comes_to : Option ℕ → List ℕ → ℕ → Bool
comes_to None names m = false
comes_to (Some n) [] m = n == m
comes_to (Some n) (name ∷ names) m = comes_to (after n name) names m

abbrev pub is_numbered : Instance → Bool
is_numbered f = comes_to (Some (length f.params)) (binds f.body) (length f.names)

-- What is known of an instance's calls.
use Rattle.std.specs.Prelude.{◌≡◌, ℕ, Bool, true, false, List, [], slice_get, Option, Some, None}
use Rattle.eager_rules.specs.declared.program.Core.TheOpen as c
use Rattle.eager_rules.specs.declared.program.Instance.{Instance}
use Rattle.eager_rules.specs.declared.program.Oper.{Oper}
use Rattle.eager_rules.specs.declared.program.Oper.TheVariants.{Name}
use Rattle.purity.specs.Effects.{Among, Comes, Faults, StandsIn, Writes}
use Rattle.purity.specs.Marks.{marked, row}
use Rattle.purity.specs.declared.summary.Summary.{Summary}

-- what is known of the instance with this number, if anything is
abbrev pub flat : Option (Option Summary) → Option Summary
flat None = None
flat (Some known) = known

abbrev pub known_at : List (Option Summary) → ℕ → Option Summary
known_at known number = flat (slice_get known number)

abbrev pub writes_in : Option Summary → ℕ → Bool
writes_in None param = false
writes_in (Some s) param = marked s.writes param

abbrev pub gives_in : Option Summary → ℕ → List ℕ
gives_in None value = []
gives_in (Some s) value = row s.gives value

abbrev pub faults_in : Option Summary → Bool
faults_in None = false
faults_in (Some s) = s.faults

-- a value that an instance returns comes from a parameter
pub record Gives (instances : List Instance) (number value param : ℕ) : Type 0 where
  pub values : List Oper
  pub stands : StandsIn instances number (c.Return values)
  pub name : ℕ
  pub at : slice_get values value ≡ Some (Name name)
  pub comes : Comes instances number name param

-- Exactly what an instance's calls may do is known.
pub record IsSummary (instances : List Instance) (number : ℕ) (known : Option Summary) : Type 0 where
  pub written : (param : ℕ) → writes_in known param ≡ true → Writes instances number param
  pub writes : (param : ℕ) → Writes instances number param → writes_in known param ≡ true
  pub given : (value param : ℕ) → Among (gives_in known value) param → Gives instances number value param
  pub gives : (value param : ℕ) → Gives instances number value param → Among (gives_in known value) param
  pub faulty : faults_in known ≡ true → Faults instances number
  pub faults : Faults instances number → faults_in known ≡ true

-- what is known is so
abbrev pub AreSummaries : List Instance → List (Option Summary) → Type 0
AreSummaries instances known =
    (number : ℕ) (s : Summary) → known_at known number ≡ Some s → IsSummary instances number (Some s)

-- What effects answer.
use Rattle.std.specs.Prelude.{◌≡◌, ℕ, Bool, true}
use Rattle.eager_rules.specs.declared.program.Program.{Program}
use Rattle.purity.specs.Effects.{Faults, Writes}
use Rattle.purity.specs.Tables.{faults_in, known_at, writes_in}
use Rattle.purity.specs.declared.answers.Effects.{Effects}

abbrev pub may_write_in : Effects → ℕ → ℕ → Bool
may_write_in effects number param = writes_in (known_at effects.known number) param

abbrev pub may_fault_in : Effects → ℕ → Bool
may_fault_in effects number = faults_in (known_at effects.known number)

-- Exactly the parameters are said to be written that the definition says, and exactly the instances are said to
-- fault.
pub record AreEffects (program : Program) (effects : Effects) : Type 0 where
  pub written : (number param : ℕ) → may_write_in effects number param ≡ true → Writes program.instances number param
  pub writes : (number param : ℕ) → Writes program.instances number param → may_write_in effects number param ≡ true
  pub faulty : (number : ℕ) → may_fault_in effects number ≡ true → Faults program.instances number
  pub faults : (number : ℕ) → Faults program.instances number → may_fault_in effects number ≡ true

-- Calls that change nothing and can't fault.
use Rattle.std.specs.Prelude.{◌≡◌, ℕ, ◌&&◌, not, Bool, true, false, List, [], ◌∷◌, length, slice_get}
use Rattle.std.specs.Prelude.{Option, Some, None}
use Rattle.std.specs.List.{list_all, range_with_len}
use Rattle.eager_rules.specs.declared.program.Instance.{Instance}
use Rattle.eager_rules.specs.declared.program.Program.{Program}
use Rattle.purity.specs.Answers.{may_fault_in, may_write_in}
use Rattle.purity.specs.Effects.{Faults, Writes}
use Rattle.purity.specs.declared.answers.Effects.{Effects}

-- An instance that writes no parameter and can't fault.
pub record IsCalm (instances : List Instance) (number : ℕ) : Type 0 where
  pub writes_none : (param : ℕ) → Writes instances number param → ⊥
  pub never_faults : Faults instances number → ⊥

-- a test that holds of exactly these instances
pub record AreCalm (instances : List Instance) (calm : ℕ → Bool) : Type 0 where
  pub sound : (number : ℕ) (f : Instance) → slice_get instances number ≡ Some f → calm number ≡ true →
      IsCalm instances number
  pub whole : (number : ℕ) (f : Instance) → slice_get instances number ≡ Some f → IsCalm instances number →
      calm number ≡ true

-- by effects
abbrev pub calm_by : Effects → ℕ → Option Instance → Bool
calm_by effects number None = false
calm_by effects number (Some f) =
    not (may_fault_in effects number) &&
    list_all (λ param. not (may_write_in effects number param)) (range_with_len 0 (length f.params))

abbrev pub calm_in : Program → Effects → ℕ → Bool
calm_in program effects number = calm_by effects number (slice_get program.instances number)

-- no call is left out
abbrev pub none_calm : ℕ → Bool
none_calm number = false

abbrev pub is_none : {A : Type 0} → List A → Bool
is_none [] = true
is_none (x ∷ xs) = false

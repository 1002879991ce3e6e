-- The flat form of a typed program, which `run` lowers: own calls in line, and constants folded.
use Rattle.std.specs.Prelude.{◌≡◌, List, None, Some, Result, Ok, Err}
use Rattle.const_fold.specs.Folded.{folded_program}
use Rattle.eager_rules.specs.Sound.{IsSound, IsTyped}
use Rattle.eager_rules.specs.declared.program.Program.{Program}
use Rattle.export_sig.specs.declared.signature.Signature.{Signature}
use Rattle.inline.specs.Flat.{flat_program}
use Rattle.inline.specs.Flattened.{HasNoCalls}
use Rattle.inline.specs.Heads.{HasKernels}
use Rattle.inline.specs.Idle.{calm_in}
use Rattle.inline.specs.Kept.{RankedOutcomes}
use Rattle.inline.specs.Limits.{refusal}
use Rattle.krn_base.specs.declared.refusal.Refusal.{Refusal}
use Rattle.purity.specs.Answers.{AreEffects}
use Rattle.purity.specs.declared.answers.Effects.{Effects}
use Rattle.pythran_main.specs.declared.flattening.Flattened.{Flattened}

-- A program's flat form: the folded one of that by its effects. Effects are exactly the answers, so there is one.
pub record IsFlatForm (program : Program) (flat : Program) : Type 0 where
  pub effects : Effects
  pub exact : AreEffects program effects
  pub form : flat ≡ folded_program (flat_program program (calm_in program effects))

-- The kernels of a program are within their limits, and its flat form stands beside it.
pub record IsFlattened (signatures : List Signature) (program : Program) (found : Flattened) : Type 0 where
  pub is_same : found.program ≡ program
  pub accepted : refusal program signatures ≡ None
  pub flat_form : IsFlatForm program found.flat

-- a program with its flat form, or the refusal of the kernels' weights or depths
abbrev pub Flattens : List Signature → Program → Result Flattened Refusal → Type 0
Flattens signatures program (Ok found) = IsFlattened signatures program found
Flattens signatures program (Err r) = refusal program signatures ≡ Some r

-- What holds of a typed program and its flat form: the flat one has no own call and the same kernels, and where the
-- program is sound, so is it, with the same outcomes.
pub record IsKept (found : Flattened) : Type 0 where
  pub typed : IsTyped found.program
  pub no_calls : HasNoCalls found.flat
  pub kernels : HasKernels found.program found.flat
  pub sound : IsSound found.program → IsSound found.flat
  pub outcomes : IsSound found.program → RankedOutcomes found.program found.flat

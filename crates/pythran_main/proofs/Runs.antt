-- What a run of a kernel's loop program gives is what eager evaluation gives.
use Rattle.std.proofs.Common.{◌≡◌, ◌∙◌, ap, ℕ, Some, None, slice_get}
use Rattle.eager_rules.specs.Kept.{FitsInstance, IsKernel}
use Rattle.eager_rules.specs.Outcome.{outcome_of}
use Rattle.eager_rules.specs.Fits.{Fits}
use Rattle.eager_rules.specs.Sound.{IsSound}
use Rattle.eager_rules.specs.declared.call.Call.{Call}
use Rattle.eager_rules.specs.declared.outcome.Counts.{Counts}
use Rattle.eager_rules.specs.declared.outcome.Outcome.{Outcome}
use Rattle.eager_rules.specs.declared.program.Instance.{Instance}
use Rattle.inline.specs.Heads.{HasHead}
use Rattle.lazy_expr.specs.Plain.{plain_kernel}
use Rattle.lazy_expr.specs.Promise.{ProgramKeepsOutcomes, plain_program}
use Rattle.loop_prog.specs.Check.{flaw_of}
use Rattle.loop_prog.specs.Serial.{serial, types_of_params}
use Rattle.loop_prog.specs.declared.program.Kernel.{Kernel}
use Rattle.loop_prog.specs.declared.program.LoopProgram.{LoopProgram}
use Rattle.pythran_main.specs.Flattening.{IsKept}
use Rattle.pythran_main.specs.declared.flattening.Flattened.{Flattened}
use Rattle.pythran_main.proofs.Checked.{plain_ranked}
use Rattle.pythran_main.proofs.Flats.{fits_head}
use Rattle.pythran_main.proofs.Forms.{ranked_back}
use Rattle.pythran_main.proofs.Loops.{fits_plain, plain_there}

-- A kernel of a program stands in its flat form, and in the plain form of that.
module _ (found : Flattened) (loops : LoopProgram) (kernel : ℕ) (f : Instance) (is : IsKernel found.program kernel f)
    (kept : IsKept found) (sound : IsSound found.program) (form : loops ≡ plain_program found.flat) where
  abbrev flat_kernel : (g : Instance) × (IsKernel found.flat kernel g × HasHead f g)
  flat_kernel = kept.kernels.kernels kept.typed kernel f is

  has_plain : slice_get loops.kernels kernel ≡ Some (plain_kernel flat_kernel.0)
  has_plain =
      let there = flat_kernel.1.0 in
      ap (λ (p : LoopProgram). slice_get p.kernels kernel) form
      ∙ plain_there found.flat.instances found.flat.kernels (kept.sound sound).typed.kernels kernel there.number
      flat_kernel.0 there.numbered there.there

  pub fits_loops : (call : Call) → FitsInstance f call → (k : Kernel) → slice_get loops.kernels kernel ≡ Some k
      → Fits (types_of_params k) call
  fits_loops call fits =
      fits_plain loops kernel call flat_kernel.0 (fits_head f flat_kernel.0 call flat_kernel.1.1 fits) has_plain

  pub gives_eager : (call : Call) → FitsInstance f call → flaw_of loops ≡ None
      → ProgramKeepsOutcomes found.program loops
      → (o : Outcome) (c : Counts) → (let p : Outcome × Counts = (o, c) in p) ≡ serial loops kernel call
      → o ≡ outcome_of found.program kernel call
  gives_eager call fits checked outcomes o c ran =
      ap (λ (q : Outcome × Counts). q.0) ran
      ∙ outcomes kernel f is
      (ranked_back f flat_kernel.0 flat_kernel.1.1 (plain_ranked loops kernel flat_kernel.0 checked has_plain))
      call fits

-- Outcomes that are kept twice: by a program without its idle calls, and by that one's flat form.
use Rattle.std.proofs.Common.{◌∙◌, ap, ℕ, Bool, option_map}
use Rattle.std.proofs.lemmas.Option.{slice_get-map}
use Rattle.eager_rules.specs.Kept.{IsKernel}
use Rattle.eager_rules.specs.declared.program.Instance.{Instance}
use Rattle.eager_rules.specs.declared.program.Program.{Program}
use Rattle.inline.specs.Dropped.{dropped, dropped_in}
use Rattle.inline.specs.Kept.{HasOutcomes, RankedOutcomes}

dropped_kernel : (program : Program) (calm : ℕ → Bool) (kernel : ℕ) (f : Instance) → IsKernel program kernel f →
    IsKernel (dropped program calm) kernel (dropped_in calm f)
dropped_kernel program calm kernel f is = record {
  number = is.number;
  numbered = is.numbered;
  there = slice_get-map (dropped_in calm) program.instances is.number ∙ ap (option_map (dropped_in calm)) is.there;
}

pub composed : (program : Program) (calm : ℕ → Bool) (flat : Program) → RankedOutcomes program (dropped program calm) →
    HasOutcomes (dropped program calm) flat → RankedOutcomes program flat
composed program calm flat first second kernel f is ranked call fits =
    second kernel (dropped_in calm f) (dropped_kernel program calm kernel f is) call fits ∙
    first kernel f is ranked call fits

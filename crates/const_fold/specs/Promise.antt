-- What a folded program keeps.
use Rattle.std.specs.Prelude.{◌≡◌, ℕ}
use Rattle.std.specs.List.{All}
use Rattle.eager_rules.specs.Kept.{IsKernel}
use Rattle.eager_rules.specs.declared.program.Instance.{Instance}
use Rattle.eager_rules.specs.declared.program.Program.{Program}
use Rattle.const_fold.specs.Folded.{round}
use Rattle.inline.specs.Heads.{HasHead}

-- For each kernel of a program another has one with the same number, name, parameters and values.
abbrev pub KeepsKernels : Program → Program → Type 0
KeepsKernels program other =
    (kernel : ℕ) (f : Instance) → IsKernel program kernel f → (g : Instance) × (IsKernel other kernel g × HasHead f g)

-- A further round changes no instance.
abbrev pub IsSettled : Program → Type 0
IsSettled program = All (λ f. round f ≡ f) program.instances

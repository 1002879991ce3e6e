-- What the flat form keeps of the kernels' heads.
use Rattle.std.specs.Prelude.{◌≡◌, ℕ}
use Rattle.eager_rules.specs.Kept.{IsKernel}
use Rattle.eager_rules.specs.Sound.{IsTyped}
use Rattle.eager_rules.specs.declared.program.Instance.{Instance}
use Rattle.eager_rules.specs.declared.program.Program.{Program}

-- what stands at the head of an instance
pub record HasHead (f g : Instance) : Type 0 where
  pub name : g.name ≡ f.name
  pub params : g.params ≡ f.params
  pub rets : g.rets ≡ f.rets

-- Each kernel of a typed program is one of another, with the same head.
pub record HasKernels (program flat : Program) : Type 0 where
  pub kernels : IsTyped program → (kernel : ℕ) (f : Instance) → IsKernel program kernel f →
      (g : Instance) × (IsKernel flat kernel g × HasHead f g)

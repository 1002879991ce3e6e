use Rattle.std.proofs.Common.{◌≡◌, ◌++◌, ◌∷◌, [], ap, sym, ◌∙◌}
use Rattle.array_types.specs.Keys.{instance_for}
use Rattle.array_types.proofs.Calls.{kernel_behind}
use Rattle.array_types.proofs.keys.note.Goals as goal

pub returns-in-Kernel : goal.returns-in-Kernel
returns-in-Kernel c = λ f ts.
    c.requires f ts ∙ kernel_behind f ts c.args.keys.now
    ∙ sym (ap (λ k. instance_for f ts (c.args.keys.now ++ k ∷ [])) c.in-Kernel.is)

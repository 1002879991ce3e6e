use Rattle.std.proofs.Common.{arith, ◌≡◌, ◌∙◌, ap, sym, ◌++◌, [], ◌∷◌, Option, Some, None, slice_get}
use Rattle.std.proofs.lemmas.Grind.{common_steps}
use Rattle.std.proofs.lemmas.List.{append-nil}
use Rattle.std.proofs.lemmas.Option.{gets}
use Rattle.eager_rules.specs.declared.program.Instance.{Instance}
use Rattle.inline.specs.Flat.{kernel_at}
use Rattle.inline.specs.Idle.{calm_in}
use Rattle.inline.proofs.flat_form.add_kernel.Goals as goal

pub returns-in-None : goal.returns-in-None
returns-in-None c =
    let found : slice_get c.args.program.now.instances c.args.number ≡ None =
    (let l = c.in-None.ensures.lookup in grind (arith, common_steps, gets, l)) in
    sym (ap (λ (o : Option Instance). c.args.kernels.now ++ kernel_at c.args.program.now.instances
    (calm_in c.args.program.now c.args.effects.now) o) found ∙ append-nil c.args.kernels.now)

pub returns-in_ok-push-in-Some : goal.returns-in_ok-push-in-Some
returns-in_ok-push-in-Some c =
    let found : slice_get c.args.program.now.instances c.args.number ≡ Some c.in-Some.f.now =
    (let l = c.in-Some.ensures.lookup in grind (arith, common_steps, gets, l)) in
    c.in_ok-push-in-Some.ensures.pushed
    ∙ (ap (λ (k : Instance). c.args.kernels.now ++ k ∷ []) c.in_ok-flat_kernel-in-Some.ensures
    ∙ sym (ap (λ (o : Option Instance). c.args.kernels.now ++ kernel_at c.args.program.now.instances
    (calm_in c.args.program.now c.args.effects.now) o) found))

use Rattle.std.proofs.lemmas.Grind.{common_steps}
use Rattle.std.proofs.lemmas.Option.{gets}
use Rattle.std.specs.Prelude.{Option}
use Rattle.std.proofs.Common.{arith, ◌≡◌, sym, subst, IfOk, Some, None, slice_get}
use Rattle.eager_rules.specs.Outcome.{outcome_by}
use Rattle.eager_rules.specs.declared.program.Instance.{Instance}
use Rattle.eager_rules.proofs.evaluation.evaluate_number.Goals as goal

pub returns-in-None : goal.returns-in-None
returns-in-None c =
    let found : slice_get c.args.instances.now c.args.number ≡ None =
    (let l = c.in-None.ensures.lookup in grind (arith, common_steps, gets, l)) in
    subst (λ (f : Option Instance). IfOk c.untouched.result (λ o.
    o ≡ outcome_by c.args.instances.now c.args.call.now f))
    (sym found) (c.untouched.ensures c.args.instances.now)

pub returns-in-Some : goal.returns-in-Some
returns-in-Some c =
    let found : slice_get c.args.instances.now c.args.number ≡ Some c.in-Some.f.now =
    (let l = c.in-Some.ensures.lookup in grind (arith, common_steps, gets, l)) in
    subst (λ (f : Option Instance). IfOk c.evaluate.result (λ o.
    o ≡ outcome_by c.args.instances.now c.args.call.now f))
    (sym found) c.evaluate.ensures

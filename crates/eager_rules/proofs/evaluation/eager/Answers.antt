use Rattle.std.proofs.lemmas.Grind.{common_steps}
use Rattle.std.proofs.lemmas.Option.{gets}
use Rattle.std.specs.Prelude.{Option, ℕ, List}
use Rattle.std.proofs.Common.{arith, ◌≡◌, ◌∙◌, ap, sym, subst, IfOk, Some, None, slice_get}
use Rattle.eager_rules.proofs.KeptBuffers.{kept_if_ok}
use Rattle.eager_rules.specs.Outcome.{outcome_at, outcome_by, outcome_of}
use Rattle.eager_rules.specs.declared.program.Instance.{Instance}
use Rattle.eager_rules.proofs.evaluation.eager.Goals as goal

pub returns-in-None : goal.returns-in-None
returns-in-None c =
    let found : slice_get c.as_slice.result.now c.args.kernel ≡ None =
    (let l = c.in-None.ensures.lookup in grind (arith, common_steps, gets, l)) in
    let none : slice_get c.args.program.now.kernels c.args.kernel ≡ None =
    ap (λ (xs : List ℕ). slice_get xs c.args.kernel) (sym c.as_slice.ensures) ∙ found in
    let outcome : IfOk c.untouched.result (λ o. o ≡ outcome_of c.args.program.now c.args.kernel c.args.call.now) =
    subst (λ (n : Option ℕ). IfOk c.untouched.result (λ o. o ≡ outcome_at c.args.program.now n c.args.call.now))
    (sym none) (c.untouched.ensures c.args.program.now.instances) in
    record {
      outcome = outcome;
      buffers = kept_if_ok c.args.program.now c.args.kernel c.args.call.now c.untouched.result outcome;
    }

pub returns-in-Some : goal.returns-in-Some
returns-in-Some c =
    let found : slice_get c.as_slice.result.now c.args.kernel ≡ Some c.in-Some.number.now =
    (let l = c.in-Some.ensures.lookup in grind (arith, common_steps, gets, l)) in
    let some : slice_get c.args.program.now.kernels c.args.kernel ≡ Some c.in-Some.number.now =
    ap (λ (xs : List ℕ). slice_get xs c.args.kernel) (sym c.as_slice.ensures) ∙ found in
    let outcome : IfOk c.evaluate_number.result
    (λ o. o ≡ outcome_of c.args.program.now c.args.kernel c.args.call.now) =
    subst (λ (n : Option ℕ). IfOk c.evaluate_number.result
    (λ o. o ≡ outcome_at c.args.program.now n c.args.call.now)) (sym some)
    (subst (λ (fs : List Instance). IfOk c.evaluate_number.result
    (λ o. o ≡ outcome_by fs c.args.call.now (slice_get fs c.in-Some.number.now))) c.as_slice-instances.ensures
    c.evaluate_number.ensures) in
    record {
      outcome = outcome;
      buffers = kept_if_ok c.args.program.now c.args.kernel c.args.call.now c.evaluate_number.result outcome;
    }

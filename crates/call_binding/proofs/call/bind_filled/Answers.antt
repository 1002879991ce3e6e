use Rattle.std.proofs.Common.{◌≡◌, ◌∙◌, ap, sym, subst, List, ℕ, Option, Some, None, Result, Ok, Err}
use Rattle.std.proofs.lemmas.Result.{IfOk-at_ok}
use Rattle.call_binding.specs.Binding.{Call, Refused, late, bind_filled, meaning}
use Rattle.call_binding.specs.Files.{Whole}
use Rattle.call_binding.specs.Planning.{refusal_of, IsPlan, planned_call}
use Rattle.call_binding.specs.declared.items.Item.{Item}
use Rattle.call_binding.proofs.FitLaws.{is_good}
use Rattle.call_binding.proofs.Outcomes.{planned, refused_late}
use Rattle.call_binding.proofs.call.bind_filled.Goals as goal

pub returns-in_ok-bind_plan-in-Ok-clause-bound : goal.returns-in_ok-bind_plan-in-Ok-clause-bound
returns-in_ok-bind_plan-in-Ok-clause-bound c =
    let items = c.args.items in
    let none : None ≡ late c.args.kernels.now c.args.name.now items =
    ap refusal_of (sym c.in-Ok.is)
    ∙ (c.in_ok-plan.ensures.refusal ∙ ap (late c.args.kernels.now c.args.name.now) c.as_slice.ensures) in
    let made : IsPlan c.args.kernels.now c.args.name.now items c.in-Ok.plan =
    subst (λ (xs : List Item). IsPlan c.args.kernels.now c.args.name.now xs c.in-Ok.plan) c.as_slice.ensures
    (IfOk-at_ok (IsPlan c.args.kernels.now c.args.name.now c.as_slice.result.now) c.in-Ok.is
    c.in_ok-plan.ensures.made) in
    ap Call c.in_ok-bind_plan-in-Ok.ensures ∙ planned c.args.kernels.now c.args.name.now items c.in-Ok.plan made none

pub returns-in_ok-bind_plan-in-Ok-clause-good : goal.returns-in_ok-bind_plan-in-Ok-clause-good
returns-in_ok-bind_plan-in-Ok-clause-good c =
    is_good c.args.kernels.now c.args.name.now c.args.items c.requires.sound _
    (returns-in_ok-bind_plan-in-Ok-clause-bound c)

pub returns-in-Err-clause-bound : goal.returns-in-Err-clause-bound
returns-in-Err-clause-bound c =
    let some : Some c.in-Err.number ≡ late c.args.kernels.now c.args.name.now c.args.items =
    ap refusal_of (sym c.in-Err.is)
    ∙ (c.in_ok-plan.ensures.refusal ∙ ap (late c.args.kernels.now c.args.name.now) c.as_slice.ensures) in
    refused_late c.args.kernels.now c.args.name.now c.args.items c.in-Err.number some

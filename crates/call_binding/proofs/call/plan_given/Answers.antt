use Rattle.std.proofs.Common.{◌≡◌, ◌∙◌, ap, subst, map, List}
use Rattle.std.specs.List.{filter_map, position}
use Rattle.std.specs.Result.{IfOk}
use Rattle.call_binding.specs.Binding.{Passed, passed_by, fits, unfitting}
use Rattle.call_binding.specs.Planning.{refusal_of, IsPlanOf}
use Rattle.call_binding.specs.Seen.{named, passed}
use Rattle.call_binding.proofs.call.plan_given.Goals as goal

pub returns-clause-refusal : goal.returns-clause-refusal
returns-clause-refusal c =
    let held = map named c.args.buffers.now in
    let given : map passed c.as_slice.result.now ≡ filter_map (passed_by held) c.args.items.now =
    ap (map passed) c.as_slice.ensures.value ∙ c.in_ok-given.ensures in
    subst (λ (ps : List Passed). IfOk c.plan_fitting.result (λ plan. refusal_of plan
    ≡ unfitting (position (fits c.args.name.now ps) c.args.kernels.now))) given
    c.plan_fitting.ensures.refusal

pub returns-clause-made : goal.returns-clause-made
returns-clause-made c =
    let held = map named c.args.buffers.now in
    let given : map passed c.as_slice.result.now ≡ filter_map (passed_by held) c.args.items.now =
    ap (map passed) c.as_slice.ensures.value ∙ c.in_ok-given.ensures in
    subst (λ (ps : List Passed). IfOk c.plan_fitting.result
    (λ plan. IfOk plan (IsPlanOf c.args.kernels.now c.args.name.now ps held c.args.items.now))) given
    c.plan_fitting.ensures.made

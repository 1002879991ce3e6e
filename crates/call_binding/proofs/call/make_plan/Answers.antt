use Rattle.std.proofs.Common.{◌≡◌, ◌<◌, ◌^◌, ◌∙◌, ap, sym, subst, map, length, List, ℕ, arith}
use Rattle.std.proofs.lemmas.List.{length-map}
use Rattle.std.specs.Result.{IfOk}
use Rattle.view_places.specs.declared.shape.Array.{Array}
use Rattle.call_binding.specs.Planning.{refusal_of, late_among, IsPlanAmong}
use Rattle.call_binding.specs.Seen.{named, AreArrays}
use Rattle.call_binding.specs.Views.{buffers}
use Rattle.call_binding.proofs.FitLaws.{buffers_are, few_buffers}
use Rattle.call_binding.proofs.call.make_plan.Goals as goal

pub plan_among-requires-clause-few : goal.plan_among-requires-clause-few
plan_among-requires-clause-few c =
    let same : map named c.as_slice.result.now ≡ buffers c.args.items.now =
    ap (map named) c.as_slice.ensures.value ∙ c.in_ok-buffers.ensures in
    omega (
      arith,
      length-map c.as_slice.result.now named,
      ap (λ (held : List (List ℕ × Array)). length held) same,
      few_buffers c.args.items.now,
      c.requires.items,
    )

pub plan_among-requires-clause-arrays : goal.plan_among-requires-clause-arrays
plan_among-requires-clause-arrays c =
    let same : map named c.as_slice.result.now ≡ buffers c.args.items.now =
    ap (map named) c.as_slice.ensures.value ∙ c.in_ok-buffers.ensures in
    subst AreArrays (sym same) (buffers_are c.args.items.now c.requires.sound)

pub returns-clause-refusal : goal.returns-clause-refusal
returns-clause-refusal c =
    let same : map named c.as_slice.result.now ≡ buffers c.args.items.now =
    ap (map named) c.as_slice.ensures.value ∙ c.in_ok-buffers.ensures in
    subst (λ (held : List (List ℕ × Array)). IfOk c.plan_among.result (λ plan. refusal_of plan
    ≡ late_among c.args.kernels.now c.args.name.now c.args.items.now held)) same
    c.plan_among.ensures.refusal

pub returns-clause-made : goal.returns-clause-made
returns-clause-made c =
    let same : map named c.as_slice.result.now ≡ buffers c.args.items.now =
    ap (map named) c.as_slice.ensures.value ∙ c.in_ok-buffers.ensures in
    subst (λ (held : List (List ℕ × Array)). IfOk c.plan_among.result
    (λ plan. IfOk plan (IsPlanAmong c.args.kernels.now c.args.name.now c.args.items.now held))) same
    c.plan_among.ensures.made

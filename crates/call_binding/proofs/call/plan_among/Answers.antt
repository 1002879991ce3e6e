use Rattle.std.proofs.Common.{◌≡◌, ◌∙◌, sym, map}
use Rattle.std.proofs.lemmas.Result.{IfOk-weaker}
use Rattle.std.specs.List.{position}
use Rattle.call_binding.specs.Planning.{refusal_of, unfitting_among, late_among}
use Rattle.call_binding.specs.Seen.{named}
use Rattle.call_binding.specs.Tests.{numbered}
use Rattle.call_binding.specs.Views.{is_faulty}
use Rattle.call_binding.proofs.Plans.{second_answer}
use Rattle.call_binding.proofs.call.plan_among.Goals as goal

pub returns-in-None-clause-refusal : goal.returns-in-None-clause-refusal
returns-in-None-clause-refusal c =
    let held = map named c.args.buffers.now in
    let unfit = unfitting_among c.args.kernels.now c.args.name.now c.args.items.now held in
    IfOk-weaker c.plan_given.result (λ plan. refusal_of plan ≡ unfit) (λ plan. refusal_of plan
    ≡ late_among c.args.kernels.now c.args.name.now c.args.items.now held)
    (λ plan e. e ∙ second_answer (numbered (position (is_faulty held) c.args.items.now)) unfit (sym c.faulty.ensures
    ∙ c.in-None.is))
    c.plan_given.ensures.refusal

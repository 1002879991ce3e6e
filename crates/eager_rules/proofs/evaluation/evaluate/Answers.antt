use Rattle.std.proofs.Common.{rules, ◌≡◌, subst, IfOk, map, length}
use Rattle.eager_rules.proofs.GivenBack.{outcome_from}
use Rattle.eager_rules.specs.Blocks.{End}
use Rattle.eager_rules.specs.Holding.{Held, run_held}
use Rattle.eager_rules.specs.Outcome.{buffers_of, ended}
use Rattle.eager_rules.specs.Running.{end_of, held_of, meanings, state_of}
use Rattle.eager_rules.specs.State.{bound_to}
use Rattle.eager_rules.specs.declared.outcome.Outcome.{Outcome}
use Rattle.eager_rules.proofs.evaluation.evaluate.Goals as goal

pub returns : goal.returns
returns c =
    let given : meanings c.in_ok-args.args ≡ map bound_to c.args.call.now.args = search rules in
    let words : c.in_ok-buffers.buffers ≡ buffers_of c.args.call.now = search rules in
    let reached : Held × End = (held_of c.in_ok-state.state, end_of c.in_ok-state.end) in
    let run : reached ≡ run_held c.args.instances.now (length c.args.instances.now) c.args.f.now
    (meanings c.in_ok-args.args) c.in_ok-buffers.buffers = search rules in
    let whole : IfOk c.outcome.result (λ o. o ≡ ended c.args.f.now.rets (length c.args.call.now.buffers)
    (state_of c.in_ok-state.state, end_of c.in_ok-state.end)) = search rules in
    subst (λ (it : Outcome). IfOk c.outcome.result (λ o. o ≡ it))
    (outcome_from c.args.instances.now c.args.f.now c.args.call.now reached (meanings c.in_ok-args.args)
    c.in_ok-buffers.buffers run given words) whole

use Rattle.std.proofs.Common.{◌<◌, ◌==◌, length, arith}
use Rattle.std.proofs.lemmas.List.Folds.{list_any_more}
use Rattle.call_chains.proofs.WalkLaws.{grows_then}
use Rattle.call_chains.proofs.reach.Walk.follow.Goals as goal

pub loop-call-preserved : goal.loop-call-preserved
loop-call-preserved c =
    let at : c.loop-call.call-index < length c.args.calls.now = omega arith in
    grows_then _ _ _ c.args.self.now c.loop-call.self _ c.loop-call.invariant c.in_ok-meet.ensures
    (λ g. list_any_more (λ x. x.callee == g) c.args.calls.now c.loop-call.call-index _ at)

use Rattle.std.proofs.Common.{◌<◌, ◌==◌, length, arith}
use Rattle.std.proofs.lemmas.List.Folds.{list_any_more}
use Rattle.call_chains.proofs.WalkLaws.{grows_then}
use Rattle.call_chains.proofs.reach.Walk.begin.Goals as goal

pub loop-start-preserved : goal.loop-start-preserved
loop-start-preserved c =
    let at : c.loop-start.start-index < length c.args.starts.now = omega arith in
    grows_then _ _ _ c.args.self.now c.loop-start.self _ c.loop-start.invariant c.in_ok-meet.ensures
    (λ g. list_any_more (λ f. f == g) c.args.starts.now c.loop-start.start-index _ at)

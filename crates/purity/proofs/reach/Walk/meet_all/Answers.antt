use Rattle.std.proofs.Common.{◌<◌, ◌==◌, length, arith}
use Rattle.std.proofs.lemmas.List.Folds.{list_any_more}
use Rattle.purity.proofs.WalkLaws.{grows_then}
use Rattle.purity.proofs.reach.Walk.meet_all.Goals as goal

pub loop-number-preserved : goal.loop-number-preserved
loop-number-preserved c =
    let at : c.loop-number.number-index < length c.args.numbers.now = omega arith in
    grows_then _ _ _ c.args.self.now c.loop-number.self _ c.loop-number.invariant c.in_ok-meet.ensures
    (λ n. list_any_more (λ m. m == n) c.args.numbers.now c.loop-number.number-index _ at)

use Rattle.std.proofs.Common.{◌+◌, ◌<◌, ◌∷◌, ap, sym, length, drop, arith}
use Rattle.module_terms.proofs.Loops.{item_here, joins}
use Rattle.module_terms.proofs.block.copy_reductions.Goals as goal

pub loop-pair-preserved : goal.loop-pair-preserved
loop-pair-preserved c =
    let at : c.loop-pair.pair-index < length c.args.pairs.now = omega arith in
    joins (λ l. l) _ _ c.pair-item.result _ _ _ _
    (item_here c.args.pairs.now c.loop-pair.pair-index c.pair-item.result at c.pair-item.is)
    (ap (λ y. (c.pair-item.result.0, y) ∷ drop (c.loop-pair.pair-index + 1) c.args.pairs.now)
    (sym c.in_ok-copy_name.ensures))
    c.loop-pair.invariant c.in_ok-push.ensures.pushed

use Rattle.std.proofs.Common.{◌+◌, ◌<◌, ◌∷◌, ap, sym, length, drop, arith}
use Rattle.module_terms.proofs.Loops.{item_here, joins}
use Rattle.module_terms.proofs.build.copy_names.Goals as goal

pub loop-name-preserved : goal.loop-name-preserved
loop-name-preserved c =
    let at : c.loop-name.name-index < length c.args.names.now = omega arith in
    joins (λ l. l) _ _ c.name-item.result _ _ _ _
    (item_here c.args.names.now c.loop-name.name-index c.name-item.result at c.name-item.is)
    (ap (λ y. y ∷ drop (c.loop-name.name-index + 1) c.args.names.now) (sym c.in_ok-copy_name.ensures))
    c.loop-name.invariant c.in_ok-push.ensures.pushed

use Rattle.std.proofs.Common.{arith, ◌≡◌, ◌∙◌, ◌≤◌, ap, sym, refl, length}
use Rattle.inline.specs.Tables.{round}
use Rattle.inline.proofs.CountLaws.{fixed}
use Rattle.inline.proofs.counts.counts.Goals as goal

pub returns-then-is_same : goal.returns-then-is_same
returns-then-is_same c =
    let made : c.in_ok-next.next ≡ round c.args.measure c.args.instances.now c.loop-level.table =
    c.in_ok-next.ensures ∙ ap (round c.args.measure c.args.instances.now) c.as_slice.ensures in
    let same : c.in_ok-next.next ≡ c.loop-level.table =
    sym c.as_slice-in-loop-level.ensures ∙ c.if-is_same.ensures refl ∙ c.as_slice-in-loop-level-2.ensures in
    let le : c.loop-level._level ≤ length c.args.instances.now = omega arith in
    fixed c.args.measure c.args.instances.now c.loop-level.table c.in_ok-next.next c.loop-level._level
    (length c.args.instances.now) c.loop-level.invariant made same le

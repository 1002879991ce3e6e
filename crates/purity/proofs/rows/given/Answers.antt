use Rattle.std.proofs.Common.{arith, ◌≡◌, ◌<◌, ℕ, length}
use Rattle.purity.specs.Uses.{given_as}
use Rattle.purity.proofs.Lists.{plain_step}
use Rattle.purity.proofs.rows.given.Goals as goal

pub loop-found-preserved : goal.loop-found-preserved
loop-found-preserved c = λ k.
    let at : c.loop-found.found-index < length c.args.uses.now = omega arith in
    plain_step (given_as k) c.args.uses.now c.loop-found.found-index _ _ _ at (c.loop-found.invariant k)
    (c.in_ok-add_given.ensures k)

use Rattle.purity.specs.Uses.{flows_of}
use Rattle.purity.proofs.Lists.{range_step}
use Rattle.purity.proofs.uses.add_returned.Goals as goal

pub loop-value-preserved : goal.loop-value-preserved
loop-value-preserved c =
    range_step (flows_of c.args.gives.now c.args.to.now c.args.args.now) c.loop-value.value c.args.uses.now
    c.loop-value.uses c.add_value.new.uses c.loop-value.invariant c.in_ok-add_value.ensures

use Rattle.purity.specs.Uses.{writes_of}
use Rattle.purity.proofs.Lists.{range_step}
use Rattle.purity.proofs.uses.add_arguments.Goals as goal

pub loop-param-preserved : goal.loop-param-preserved
loop-param-preserved c =
    range_step (writes_of c.args.writes.now c.args.args.now) c.loop-param.param c.args.uses.now c.loop-param.uses
    c.add_argument.new.uses c.loop-param.invariant c.in_ok-add_argument.ensures

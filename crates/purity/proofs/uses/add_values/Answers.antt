use Rattle.purity.specs.Uses.{gives_of}
use Rattle.purity.proofs.Lists.{range_step}
use Rattle.purity.proofs.uses.add_values.Goals as goal

pub loop-value-preserved : goal.loop-value-preserved
loop-value-preserved c =
    range_step (gives_of c.args.values.now) c.loop-value.value c.args.uses.now c.loop-value.uses
    c.add_given.new.uses c.loop-value.invariant c.in_ok-add_given.ensures

use Rattle.eager_rules.specs.Small.{is_small}
use Rattle.eager_rules.proofs.ListTests.{each_test}
use Rattle.eager_rules.proofs.eval.each_small.Goals as goal

pub returns : goal.returns
returns c = each_test is_small c.args.body.now c.requires

use Rattle.eager_rules.specs.Small.{all_small}
use Rattle.eager_rules.proofs.ListTests.{item_test}
use Rattle.eager_rules.proofs.eval.body_small.Goals as goal

pub returns : goal.returns
returns c = item_test (λ f. all_small f.body) c.args.instances.now c.requires c.args.number

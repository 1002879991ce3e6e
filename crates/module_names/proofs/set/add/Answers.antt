use Rattle.module_names.proofs.Sets.{has_more}
use Rattle.module_names.proofs.set.add.Goals as goal

pub returns-clause-others : goal.returns-clause-others
returns-clause-others c = λ other.
    has_more c.args.text.now tt c.args.set.now.map c.insert.new.self c.in_ok-insert.ensures.updates other

use Rattle.module_terms.proofs.Sets.{has_more}
use Rattle.module_terms.proofs.numpy.add.Goals as goal

pub returns : goal.returns
returns c = λ other.
    has_more c.args.text.now tt c.args.set.now.map c.insert.new.self c.in_ok-insert.ensures.updates other

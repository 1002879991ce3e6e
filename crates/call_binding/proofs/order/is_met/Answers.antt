use Rattle.call_binding.proofs.Turns.{has_more}
use Rattle.call_binding.proofs.order.is_met.Goals as goal

pub returns-clause-others : goal.returns-clause-others
returns-clause-others c = has_more c.args.name.now tt c.args.met.now c.insert.new.self c.in_ok-insert.ensures.updates

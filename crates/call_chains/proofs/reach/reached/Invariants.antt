use Rattle.call_chains.specs.Walks.{IsSpread, left}
use Rattle.call_chains.proofs.reach.reached.Given as goal

abbrev pub invariant-loop-f : goal.invariant-loop-f
invariant-loop-f l = IsSpread l.rows l.starts l.walk

abbrev pub decreases-loop-f : goal.decreases-loop-f
decreases-loop-f l = left l.walk

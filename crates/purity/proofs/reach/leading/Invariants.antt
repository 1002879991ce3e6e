use Rattle.purity.specs.Marks.{IsSpread, left}
use Rattle.purity.proofs.reach.leading.Given as goal

abbrev pub invariant-loop-number : goal.invariant-loop-number
invariant-loop-number l = IsSpread l.rows l.ends l.walk

abbrev pub decreases-loop-number : goal.decreases-loop-number
decreases-loop-number l = left l.walk

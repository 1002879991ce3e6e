use Rattle.call_chains.specs.Sets.{FallsBelow}
use Rattle.call_chains.proofs.rule.falls.Given as goal

abbrev pub invariant-loop-f : goal.invariant-loop-f
invariant-loop-f l = FallsBelow l.rows l.ranks l.f

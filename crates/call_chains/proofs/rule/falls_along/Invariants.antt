use Rattle.std.proofs.Common.{take}
use Rattle.call_chains.specs.Sets.{FallsAlong}
use Rattle.call_chains.proofs.rule.falls_along.Given as goal

abbrev pub invariant-loop-call : goal.invariant-loop-call
invariant-loop-call l = FallsAlong (take l.call-index l.calls) l.ranks l.f

use Rattle.std.proofs.Common.{take}
use Rattle.call_chains.specs.Chains.{has_callee}
use Rattle.call_chains.specs.Walks.{Grows}
use Rattle.call_chains.proofs.reach.Walk.follow.Given as goal

abbrev pub invariant-loop-call : goal.invariant-loop-call
invariant-loop-call l = Grows (λ g. has_callee g (take l.call-index l.calls)) l.fn.self l.self

use Rattle.std.proofs.Common.{take}
use Rattle.call_chains.specs.Numbers.{AreOf}
use Rattle.call_chains.proofs.graph.numbers_of.Given as goal

abbrev pub invariant-loop-at : goal.invariant-loop-at
invariant-loop-at l = AreOf l.numbers (take l.at l.functions)

use Rattle.std.proofs.Common.{◌==◌, take}
use Rattle.std.specs.List.{list_any}
use Rattle.call_chains.specs.Walks.{Grows}
use Rattle.call_chains.proofs.reach.Walk.begin.Given as goal

abbrev pub invariant-loop-start : goal.invariant-loop-start
invariant-loop-start l = Grows (λ g. list_any (λ f. f == g) (take l.start-index l.starts)) l.fn.self l.self

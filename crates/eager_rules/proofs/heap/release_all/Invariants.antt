use Rattle.std.proofs.Common.{◌≡◌, drop}
use Rattle.eager_rules.specs.Holding.{release_all}
use Rattle.eager_rules.specs.Running.{meanings}
use Rattle.eager_rules.proofs.heap.release_all.Given as goal

-- what is left, given back from here, is what all of them give back
abbrev pub invariant-loop-value : goal.invariant-loop-value
invariant-loop-value l =
    release_all (meanings (drop l.value-index l.values)) l.heap ≡ release_all (meanings l.values) l.fn.heap

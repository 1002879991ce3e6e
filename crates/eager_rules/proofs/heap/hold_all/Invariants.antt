use Rattle.std.proofs.Common.{◌≡◌, drop}
use Rattle.eager_rules.specs.Holding.{hold_all}
use Rattle.eager_rules.specs.Running.{meanings}
use Rattle.eager_rules.proofs.heap.hold_all.Given as goal

-- what is left, held from here, is what all of them hold
abbrev pub invariant-loop-value : goal.invariant-loop-value
invariant-loop-value l =
    hold_all (meanings (drop l.value-index l.values)) l.counts ≡ hold_all (meanings l.values) l.fn.counts

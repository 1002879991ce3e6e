use Rattle.std.proofs.Common.{◌≡◌, ◌++◌}
use Rattle.std.specs.List.{flat_map, range_with_len}
use Rattle.purity.specs.Uses.{flows_of}
use Rattle.purity.proofs.uses.add_returned.Given as goal

abbrev pub invariant-loop-value : goal.invariant-loop-value
invariant-loop-value l =
    l.uses ≡ l.fn.uses ++ flat_map (flows_of l.gives l.to l.args) (range_with_len 0 l.value)

use Rattle.std.proofs.Common.{◌≡◌, ◌++◌}
use Rattle.std.specs.List.{flat_map, range_with_len}
use Rattle.purity.specs.Uses.{gives_of}
use Rattle.purity.proofs.uses.add_values.Given as goal

abbrev pub invariant-loop-value : goal.invariant-loop-value
invariant-loop-value l = l.uses ≡ l.fn.uses ++ flat_map (gives_of l.values) (range_with_len 0 l.value)

use Rattle.std.proofs.Common.{◌≡◌, ◌++◌}
use Rattle.std.specs.List.{flat_map, range_with_len}
use Rattle.purity.specs.Uses.{writes_of}
use Rattle.purity.proofs.uses.add_arguments.Given as goal

abbrev pub invariant-loop-param : goal.invariant-loop-param
invariant-loop-param l = l.uses ≡ l.fn.uses ++ flat_map (writes_of l.writes l.args) (range_with_len 0 l.param)

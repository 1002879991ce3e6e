use Rattle.std.proofs.Common.{◌≡◌, map, take}
use Rattle.inline.specs.Tables.{in_table}
use Rattle.inline.proofs.limits.kernel_counts.Given as goal

abbrev pub invariant-loop-number : goal.invariant-loop-number
invariant-loop-number l = l.counts ≡ map (in_table l.table) (take l.number-index l.kernels)

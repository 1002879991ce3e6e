use Rattle.std.proofs.Common.{◌≡◌, map, pos}
use Rattle.std.specs.List.{range_with_len}
use Rattle.array_ops.proofs.fresh.counting.Given as goal

-- the numbers so far
abbrev pub invariant-loop-k : goal.invariant-loop-k
invariant-loop-k l = l.words ≡ map pos (range_with_len 0 l.k)

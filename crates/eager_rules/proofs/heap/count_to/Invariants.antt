use Rattle.std.proofs.Common.{◌≡◌, ◌++◌, replicate}
use Rattle.eager_rules.proofs.heap.count_to.Given as goal

-- as many more counts so far, each of them 0
abbrev pub invariant-loop-buffer : goal.invariant-loop-buffer
invariant-loop-buffer l = l.counts ≡ l.fn.counts ++ replicate l._buffer 0

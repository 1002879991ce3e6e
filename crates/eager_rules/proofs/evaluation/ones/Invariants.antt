use Rattle.std.proofs.Common.{◌≡◌, replicate}
use Rattle.eager_rules.proofs.evaluation.ones.Given as goal

-- the counts so far
abbrev pub invariant-loop-buffer : goal.invariant-loop-buffer
invariant-loop-buffer l = l.counts ≡ replicate l._buffer 1

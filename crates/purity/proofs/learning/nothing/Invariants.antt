use Rattle.std.proofs.Common.{◌≡◌, None, replicate}
use Rattle.purity.proofs.learning.nothing.Given as goal

abbrev pub invariant-loop-number : goal.invariant-loop-number
invariant-loop-number l = l.known.items ≡ replicate l._number None

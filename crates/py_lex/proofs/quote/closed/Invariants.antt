use Rattle.std.proofs.Common.{◌≡◌, ◌+◌, ◌≤◌, length, cond}
use Rattle.py_lex.specs.Words.{closed}
use Rattle.py_lex.proofs.quote.closed.Given as goal

abbrev pub invariant-loop-z : goal.invariant-loop-z
invariant-loop-z l =
    (closed l.quotes (cond l.is_taken 1 0) l.at l.z ≡ closed l.quotes 0 l.initial.at l.initial.z)
    × (l.initial.at ≤ l.at) × (l.at + length l.z ≡ l.initial.at + length l.initial.z)

abbrev pub decreases-loop-z : goal.decreases-loop-z
decreases-loop-z l = length l.z

use Rattle.std.proofs.Common.{◌≡◌, ◌+◌, length}
use Rattle.py_lex.specs.Bytes.{before_line_end}
use Rattle.py_lex.proofs.bytes.before_line_end.Given as goal

abbrev pub invariant-loop-z : goal.invariant-loop-z
invariant-loop-z l =
    (l.before + before_line_end l.z ≡ before_line_end l.initial.z) × (l.before + length l.z ≡ length l.initial.z)

abbrev pub decreases-loop-z : goal.decreases-loop-z
decreases-loop-z l = length l.z

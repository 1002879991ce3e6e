use Rattle.std.proofs.Common.{◌≡◌, ◌+◌, length}
use Rattle.py_lex.specs.Layout.{passed, IsNear}
use Rattle.py_lex.proofs.place.passed.Given as goal

abbrev pub invariant-loop-bytes : goal.invariant-loop-bytes
invariant-loop-bytes l =
    (passed l.place l.bytes ≡ passed l.initial.place l.initial.bytes)
    × (l.place.offset + length l.bytes ≡ l.initial.place.offset + length l.initial.bytes) × IsNear l.place

abbrev pub decreases-loop-bytes : goal.decreases-loop-bytes
decreases-loop-bytes l = length l.bytes

use Rattle.std.proofs.Common.{◌≡◌, ◌+◌, ◌-◌, ◌≤◌, length, drop}
use Rattle.std.specs.List.{prefix_len}
use Rattle.py_lex.specs.Bytes.{is_in}
use Rattle.py_lex.proofs.bytes.run.Given as goal

abbrev pub invariant-loop-end : goal.invariant-loop-end
invariant-loop-end l =
    (l.end ≤ length l.z) × (l.end + prefix_len (is_in l.set) (drop l.end l.z) ≡ prefix_len (is_in l.set) l.z)

abbrev pub decreases-loop-end : goal.decreases-loop-end
decreases-loop-end l = length l.z - l.end

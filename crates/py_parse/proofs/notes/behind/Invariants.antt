use Rattle.std.proofs.Common.{◌≡◌, length}
use Rattle.py_parse.specs.NoteLists.{from_behind}
use Rattle.py_parse.proofs.notes.behind.Given as goal

abbrev pub invariant-loop-rest : goal.invariant-loop-rest
invariant-loop-rest l = from_behind l.note l.rest ≡ from_behind l.fn.note l.fn.tokens

abbrev pub decreases-loop-rest : goal.decreases-loop-rest
decreases-loop-rest l = length l.rest

use Rattle.std.proofs.Common.{◌≡◌, ◌++◌, length}
use Rattle.py_parse.specs.Notes.{notes_of}
use Rattle.py_parse.specs.NoteLists.{IsRising}
use Rattle.py_parse.proofs.notes.notes.Given as goal

abbrev pub invariant-loop-left : goal.invariant-loop-left
invariant-loop-left l =
    record {
      whole : l.found.items
          ++ notes_of l.source l.rest l.left ≡ notes_of l.fn.source l.fn.tokens l.fn.notes;
      rising : IsRising l.left;
    }

abbrev pub decreases-loop-left : goal.decreases-loop-left
decreases-loop-left l = length l.left

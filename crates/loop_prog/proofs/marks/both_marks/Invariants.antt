use Rattle.std.proofs.Common.{◌≡◌, ◌++◌, drop}
use Rattle.loop_prog.specs.Undo.{both_marks}
use Rattle.loop_prog.proofs.marks.both_marks.Given as goal

abbrev pub invariant-loop-test : goal.invariant-loop-test
invariant-loop-test l =
    l.both ++ both_marks l.slots (drop l.test-index l.tests) ≡ both_marks l.slots l.tests

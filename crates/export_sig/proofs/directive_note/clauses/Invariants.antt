use Rattle.std.proofs.Common.{◌≡◌, ◌-◌, length, []}
use Rattle.export_sig.specs.Reading.{clauses_from}
use Rattle.export_sig.proofs.directive_note.clauses.Given as goal

abbrev pub invariant-loop-turn : goal.invariant-loop-turn
invariant-loop-turn l = clauses_from l.fn.start l.fn.whole
    (length l.fn.text) [] l.fn.text ≡ clauses_from l.start l.whole (l._turn-end - l._turn) l.found.items l.rest

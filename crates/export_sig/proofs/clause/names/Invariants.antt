use Rattle.std.proofs.Common.{◌≡◌, ◌-◌}
use Rattle.export_sig.specs.Reading.{names_from, names_in}
use Rattle.export_sig.proofs.clause.names.Given as goal

abbrev pub invariant-loop-turn : goal.invariant-loop-turn
invariant-loop-turn l = names_in l.fn.start l.fn.whole l.fn.text ≡ names_from l.start l.whole
    (l._turn-end - l._turn) l.found.items l.rest

use Rattle.std.proofs.Common.{◌≡◌, ◌-◌}
use Rattle.py_lex.specs.Layout.{put_dedents}
use Rattle.py_lex.specs.Views.{view, Stays}
use Rattle.py_lex.proofs.layout.Layout.put_dedents.Given as goal

abbrev pub invariant-loop-turn : goal.invariant-loop-turn
invariant-loop-turn l =
    (put_dedents l.count (view l.initial.self) ≡ put_dedents (l.count - l._turn) (view l.self))
    × Stays l.initial.self l.self

use Rattle.std.proofs.Common.{◌≡◌, ◌+◌, length}
use Rattle.py_lex.specs.Pieces.{pieces}
use Rattle.py_lex.specs.Layout.{layout}
use Rattle.py_lex.specs.Views.{view, IsFit}
use Rattle.py_lex.proofs.lexer.lay_out.Given as goal

abbrev pub invariant-loop-rest : goal.invariant-loop-rest
invariant-loop-rest l =
    (layout (pieces l.source) (view l.initial.layout) ≡ layout (pieces l.rest) (view l.layout))
    × IsFit l.layout × (l.layout.place.offset + length l.rest ≡ l.initial.layout.place.offset + length l.source)

abbrev pub decreases-loop-rest : goal.decreases-loop-rest
decreases-loop-rest l = length l.rest

use Rattle.std.proofs.Common.{◌≡◌, ◌+◌, ◌-◌, ◌*◌, [], ◌∷◌}
use Rattle.py_parse.specs.declared.terminal.Terminal.TheVariants as t
use Rattle.py_parse.specs.Blocks as spec
use Rattle.py_parse.specs.Parser.{until, until_n}
use Rattle.py_parse.proofs.block.+blocks.Given as goal

abbrev pub decreases-arm : goal.decreases-arm
decreases-arm l = 8 * l.depth + 3

abbrev pub decreases-block : goal.decreases-block
decreases-block l = 8 * l.depth + 2

abbrev pub decreases-looped : goal.decreases-looped
decreases-looped l = 8 * l.depth + 3

abbrev pub decreases-otherwise : goal.decreases-otherwise
decreases-otherwise l = 8 * l.depth + 3

abbrev pub decreases-statements : goal.decreases-statements
decreases-statements l = 8 * l.depth + 7

abbrev pub decreases-statements_from : goal.decreases-statements_from
decreases-statements_from l = 8 * l.depth + 6

abbrev pub decreases-stmt : goal.decreases-stmt
decreases-stmt l = 8 * l.depth + 5

abbrev pub decreases-tail : goal.decreases-tail
decreases-tail l = 8 * l.depth + 4

abbrev pub invariant-statements_from-loop-turn : goal.invariant-statements_from-loop-turn
invariant-statements_from-loop-turn l =
    until t.Dedent (spec.stmt l.depth) (l.fn.first ∷ []) l.fn.tokens ≡ until_n t.Dedent (spec.stmt l.depth)
    (l._turn-end - l._turn) l.found.items l.tokens

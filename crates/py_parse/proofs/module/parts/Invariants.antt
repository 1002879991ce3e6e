use Rattle.std.proofs.Common.{◌≡◌, ◌-◌}
use Rattle.py_parse.specs.Blocks.{parts, parts_n}
use Rattle.py_parse.proofs.module.parts.Given as goal

abbrev pub invariant-loop-turn : goal.invariant-loop-turn
invariant-loop-turn l = parts l.depth l.fn.tokens ≡ parts_n l.depth (l._turn-end - l._turn)
    (l.imports.items, l.functions.items) l.tokens

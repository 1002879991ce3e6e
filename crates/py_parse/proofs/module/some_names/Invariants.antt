use Rattle.std.proofs.Common.{◌≡◌, ◌-◌, []}
use Rattle.py_parse.specs.declared.terminal.Terminal.TheVariants as t
use Rattle.py_parse.specs.Parser.{some, some_from, name}
use Rattle.py_parse.proofs.module.some_names.Given as goal

abbrev pub invariant-loop-turn : goal.invariant-loop-turn
invariant-loop-turn l = some t.CloseParen name [] l.fn.tokens ≡ some_from t.CloseParen name
    (l._turn-end - l._turn) l.found.items l.tokens

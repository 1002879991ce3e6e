use Rattle.std.proofs.Common.{◌≡◌, ◌+◌, ◌-◌, ◌*◌, []}
use Rattle.py_parse.specs.declared.terminal.Terminal.TheVariants as t
use Rattle.py_parse.specs.Descent as spec
use Rattle.py_parse.specs.Parser as parser
use Rattle.py_parse.proofs.+expr.Given as goal

-- A level further in weighs more than all that stands at one level; a row and a level of operators weigh less than 256
-- each.
abbrev pub decreases-expr::or_operands : goal.decreases-expr::or_operands
decreases-expr::or_operands l = 2000 * l.depth + 1401

abbrev pub decreases-expr::expr : goal.decreases-expr::expr
decreases-expr::expr l = 2000 * l.depth + 1402

abbrev pub decreases-expr::and_operands : goal.decreases-expr::and_operands
decreases-expr::and_operands l = 2000 * l.depth + 1398

abbrev pub decreases-expr::conjunction : goal.decreases-expr::conjunction
decreases-expr::conjunction l = 2000 * l.depth + 1399

abbrev pub decreases-expr::inverted : goal.decreases-expr::inverted
decreases-expr::inverted l = 2000 * l.depth + 1100 + l.row

abbrev pub decreases-expr::compared : goal.decreases-expr::compared
decreases-expr::compared l = 2000 * l.depth + 1000

abbrev pub decreases-expr::chain : goal.decreases-expr::chain
decreases-expr::chain l = 2000 * l.depth + 300 + 2 * l.level

abbrev pub decreases-expr::links : goal.decreases-expr::links
decreases-expr::links l = 2000 * l.depth + 299 + 2 * l.level

abbrev pub decreases-operand::unary : goal.decreases-operand::unary
decreases-operand::unary l = 2000 * l.depth + 40 + l.row

abbrev pub decreases-operand::power : goal.decreases-operand::power
decreases-operand::power l = 2000 * l.depth + 30

abbrev pub decreases-operand::primary : goal.decreases-operand::primary
decreases-operand::primary l = 2000 * l.depth + 29

abbrev pub decreases-operand::trailers : goal.decreases-operand::trailers
decreases-operand::trailers l = 2000 * l.depth + 28

abbrev pub decreases-operand::trailer : goal.decreases-operand::trailer
decreases-operand::trailer l = 2000 * l.depth + 27

abbrev pub decreases-operand::call : goal.decreases-operand::call
decreases-operand::call l = 2000 * l.depth + 20

abbrev pub decreases-operand::pick : goal.decreases-operand::pick
decreases-operand::pick l = 2000 * l.depth + 20

abbrev pub decreases-operand::atom : goal.decreases-operand::atom
decreases-operand::atom l = 2000 * l.front + 21

abbrev pub decreases-operand::parenthesis : goal.decreases-operand::parenthesis
decreases-operand::parenthesis l = 2000 * l.depth + 20

abbrev pub decreases-operand::expressions : goal.decreases-operand::expressions
decreases-operand::expressions l = 2000 * l.depth + 1405

abbrev pub decreases-operand::some_expressions : goal.decreases-operand::some_expressions
decreases-operand::some_expressions l = 2000 * l.depth + 1404

abbrev pub decreases-operand::args : goal.decreases-operand::args
decreases-operand::args l = 2000 * l.depth + 1408

abbrev pub decreases-operand::some_args : goal.decreases-operand::some_args
decreases-operand::some_args l = 2000 * l.depth + 1407

abbrev pub decreases-operand::arg : goal.decreases-operand::arg
decreases-operand::arg l = 2000 * l.depth + 1406

abbrev pub decreases-operand::subscripts : goal.decreases-operand::subscripts
decreases-operand::subscripts l = 2000 * l.depth + 1409

abbrev pub decreases-operand::subscript : goal.decreases-operand::subscript
decreases-operand::subscript l = 2000 * l.depth + 1408

abbrev pub decreases-operand::subscript_from : goal.decreases-operand::subscript_from
decreases-operand::subscript_from l = 2000 * l.depth + 1407

abbrev pub decreases-operand::cut : goal.decreases-operand::cut
decreases-operand::cut l = 2000 * l.depth + 1406

abbrev pub decreases-operand::step : goal.decreases-operand::step
decreases-operand::step l = 2000 * l.depth + 1405

abbrev pub decreases-operand::bound : goal.decreases-operand::bound
decreases-operand::bound l = 2000 * l.depth + 1404

abbrev pub invariant-expr::or_operands-loop-turn : goal.invariant-expr::or_operands-loop-turn
invariant-expr::or_operands-loop-turn l =
    spec.joins t.Or (spec.conjunction (spec.inside l.depth) l.depth) l.fn.tokens ≡ spec.joins_n t.Or
    (spec.conjunction (spec.inside l.depth) l.depth) (l._turn-end - l._turn) l.found.items l.tokens

abbrev pub invariant-expr::and_operands-loop-turn : goal.invariant-expr::and_operands-loop-turn
invariant-expr::and_operands-loop-turn l =
    spec.joins t.And (spec.inverted (spec.inside l.depth) l.depth l.depth) l.fn.tokens ≡ spec.joins_n t.And
    (spec.inverted (spec.inside l.depth) l.depth l.depth) (l._turn-end - l._turn) l.found.items l.tokens

abbrev pub invariant-expr::links-loop-turn : goal.invariant-expr::links-loop-turn
invariant-expr::links-loop-turn l =
    spec.links l.level (spec.chain (spec.inside l.depth) l.depth
    (l.level - 1) l.depth) l.fn.tokens ≡ spec.links_n l.level
    (spec.chain (spec.inside l.depth) l.depth (l.level - 1) l.depth) (l._turn-end - l._turn) l.found.items l.tokens

abbrev pub invariant-operand::trailers-loop-turn : goal.invariant-operand::trailers-loop-turn
invariant-operand::trailers-loop-turn l =
    spec.trailers (spec.inside l.depth) l.fn.tokens ≡ spec.trailers_from (spec.inside l.depth)
    (l._turn-end - l._turn) l.found.items l.tokens

abbrev pub invariant-operand::some_expressions-loop-turn : goal.invariant-operand::some_expressions-loop-turn
invariant-operand::some_expressions-loop-turn l =
    parser.some l.close (spec.expr l.depth) l.fn.found.items l.fn.tokens ≡ parser.some_from l.close (spec.expr l.depth)
    (l._turn-end - l._turn) l.found.items l.tokens

abbrev pub invariant-operand::some_args-loop-turn : goal.invariant-operand::some_args-loop-turn
invariant-operand::some_args-loop-turn l =
    parser.some t.CloseParen (spec.arg (spec.expr l.depth)) [] l.fn.tokens ≡ parser.some_from t.CloseParen
    (spec.arg (spec.expr l.depth)) (l._turn-end - l._turn) l.found.items l.tokens

abbrev pub invariant-operand::subscripts-loop-turn : goal.invariant-operand::subscripts-loop-turn
invariant-operand::subscripts-loop-turn l =
    parser.some t.CloseBracket (spec.subscript (spec.expr l.depth)) [] l.fn.tokens ≡ parser.some_from t.CloseBracket
    (spec.subscript (spec.expr l.depth)) (l._turn-end - l._turn) l.found.items l.tokens

use Rattle.std.proofs.Common.{◌≡◌, ◌<◌, length, ◌∙◌, arith, rules}
use Rattle.std.proofs.lemmas.Bool.Decides.{nat_tests}
use denote.Builtin.{unit}
use Rattle.py_lex.specs.Layout.{step}
use Rattle.py_lex.specs.Views.{view}
use Rattle.py_lex.proofs.Cuts.{layout-cut, layout-refused, layout-end, steps-refused}
use Rattle.py_lex.proofs.lexer.lay_out.Goals as goal

pub loop-rest-preserved : goal.loop-rest-preserved
loop-rest-preserved c =
    let z = c.loop-rest.rest.now in
    let some : 0 < length z = first_of (search rules, grind (arith, nat_tests)) in
    let cut = layout-cut z c.first_piece-piece.result (view c.loop-rest.layout)
    (view c.step.new.self) c.first_piece-piece.ensures.value some c.first_piece-piece.ensures.within.0
    (rw (← c.split_at.ensures.front) c.in-Ok.ensures.value) in (
      rw c.split_at.ensures.back (c.loop-rest.invariant.0
          ∙ cut),
      c.in-Ok.ensures.near,
      first_of (
        search rules,
        omega (
          arith,
          c.in-Ok.ensures.moves,
          c.split_at.ensures.back_len,
          c.split_at.ensures.front_len,
        ),
      ),
    )

pub returns-in-Err-clause-value : goal.returns-in-Err-clause-value
returns-in-Err-clause-value c =
    let z = c.loop-rest.rest.now in
    let some : 0 < length z = first_of (search rules, grind (arith, nat_tests)) in
    steps-refused unit.Denot unit.Denot (step c.first_piece-piece.result.class c.split_at.result.0.now
    (view c.loop-rest.layout)) _ c.in-Err.stop (view c.step.new.self) (view c.step.new.self)
    (λ at e. c.loop-rest.invariant.0
    ∙ layout-refused z c.first_piece-piece.result
    (view c.loop-rest.layout) at c.first_piece-piece.ensures.value some c.first_piece-piece.ensures.within.0
    (rw (← c.split_at.ensures.front) e))
    c.in-Err.ensures.value

pub returns-clause-value : goal.returns-clause-value
returns-clause-value c =
    let none : length c.loop-rest.rest.now ≡ 0 = first_of (search rules, grind (arith, nat_tests)) in
    c.loop-rest.invariant.0 ∙ layout-end c.loop-rest.rest.now (view c.loop-rest.layout) none

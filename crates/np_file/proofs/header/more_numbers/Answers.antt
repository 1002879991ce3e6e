use Rattle.std.proofs.Common.{rules, ◌≡◌, ◌∷◌, [], Some, None, ap, ◌∙◌, arith}
use Rattle.np_file.specs.Reading.{numbers_at}
use Rattle.np_file.specs.Views.{view_step}
use Rattle.np_file.proofs.Turns.{goes_on, ends, fails, too_many}
use Rattle.np_file.proofs.header.more_numbers.Goals as goal

pub returns-in_err-behind : goal.returns-in_err-behind
returns-in_err-behind c =
    let e : numbers_at 4 (c.args.first ∷ []) c.args.text.now ≡ None =
    fails c.loop-turn._turn c.loop-turn.count c.loop-turn.number c.loop-turn.rest.now _
    (omega arith) c.loop-turn.invariant.count c.loop-turn.invariant.len c.in_err-behind.ensures
    c.loop-turn.invariant.read in
    search rules

pub returns-in-End : goal.returns-in-End
returns-in-End c = ends c.loop-turn._turn c.loop-turn.count c.loop-turn.number c.loop-turn.rest.now c.in-End.behind.now
    _ (omega arith) c.loop-turn.invariant.count c.loop-turn.invariant.len
    (c.in_ok-behind.ensures ∙ ap (λ s. Some (view_step s)) c.in-End.is) c.loop-turn.invariant.read

pub loop-turn-preserved : goal.loop-turn-preserved
loop-turn-preserved c = record {
  count = omega arith;
  len = search rules;
  read = goes_on c.loop-turn._turn c.loop-turn.count c.loop-turn.number c.loop-turn.rest.now c.in-Number.value
      c.in-Number.behind.now _ c.loop-turn-test.true c.loop-turn.invariant.count c.loop-turn.invariant.len
      (c.in_ok-behind.ensures ∙ ap (λ s. Some (view_step s)) c.in-Number.is) c.loop-turn.invariant.read;
}

pub returns-in_err-behind-2 : goal.returns-in_err-behind-2
returns-in_err-behind-2 c =
    let e : numbers_at 4 (c.args.first ∷ []) c.args.text.now ≡ None =
    fails c.loop-turn._turn c.loop-turn.count c.loop-turn.number c.loop-turn.rest.now _
    (omega arith) c.loop-turn.invariant.count c.loop-turn.invariant.len c.in_err-behind-2.ensures
    c.loop-turn.invariant.read in
    search rules

pub returns-in-End-2 : goal.returns-in-End-2
returns-in-End-2 c = ends c.loop-turn._turn c.loop-turn.count c.loop-turn.number c.loop-turn.rest.now
    c.in-End-2.behind.now _ (omega arith) c.loop-turn.invariant.count c.loop-turn.invariant.len
    (c.in_ok-behind-2.ensures ∙ ap (λ s. Some (view_step s)) c.in-End-2.is) c.loop-turn.invariant.read

pub returns-in-Number-2 : goal.returns-in-Number-2
returns-in-Number-2 c = too_many c.loop-turn._turn c.loop-turn.count c.loop-turn.number c.loop-turn.rest.now
    c.in-Number-2.field-0 c.in-Number-2.field-1.now _
    (omega arith) c.loop-turn.invariant.count c.loop-turn.invariant.len
    (c.in_ok-behind-2.ensures ∙ ap (λ s. Some (view_step s)) c.in-Number-2.is) c.loop-turn.invariant.read

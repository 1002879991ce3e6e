use Rattle.std.proofs.Common.{arith, rules, ◌≡◌, ◌+◌, ◌<◌, ◌≤◌, ◌==◌, true, length, max, map, drop, slice_get, Some}
use Rattle.std.proofs.Common.{None, Ok, Err, ℕ, ap, ap₂, subst, sym, ◌∙◌}
use Rattle.std.proofs.lemmas.Grind.{common_steps}
use Rattle.std.proofs.lemmas.Option.{gets}
use denote.Param.Weighed.{most}
use Rattle.module_terms.specs.declared.term.Part.{size-Part}
use Rattle.module_terms.specs.declared.term.Term.{size-Term}
use Rattle.array_types.specs.declared.state.Target.TheVariants.{Own}
use Rattle.array_types.specs.Weights.{line_weight, block_weight}
use Rattle.array_types.specs.Forms.{Given, term, links, into, line, in_order, block}
use Rattle.array_types.specs.Modules.{calls_at, new_at, instance_for, begun, entered, finished}
use Rattle.array_types.specs.declared.state.Value.{Value}
use Rattle.array_types.specs.Walk.{Nothing, Outcome, Walks, and_then, find}
use Rattle.array_types.specs.declared.state.State.{State}
use Rattle.array_types.proofs.Equations.{logic_from, new_below, block_from, called_new, test_held, failed}
use Rattle.array_types.proofs.Weights.{line_here, weighs_Store}
use Rattle.array_types.proofs.body.+body.Goals as goal

pub block-line-requires : goal.block-line-requires
block-line-requires t c =
    let at : c.loop-x.x-index < length c.args.body.now = omega arith in
    let below : line_weight c.x-item.result ≤ block_weight c.args.body.now =
    line_here c.args.body.now c.loop-x.x-index c.x-item.result at c.x-item.is in
    omega (arith, c.decreases)

pub line-subscripts-requires : goal.line-subscripts-requires
line-subscripts-requires t c =
    let whole : line_weight c.args.x.now ≡
    max (size-Term c.in-Store.array) (max (most size-Part c.in-Store.parts) (size-Term c.in-Store.value)) =
    ap line_weight c.in-Store.is ∙ weighs_Store _ _ _ _ _ in
    let same : most size-Part c.as_slice-in-Store.result.now ≡ most size-Part c.in-Store.parts =
    ap (most size-Part) c.as_slice-in-Store.ensures in
    omega (arith, c.decreases)

pub block-loop-x-preserved : goal.block-loop-x-preserved
block-loop-x-preserved t c =
    let at : c.loop-x.x-index < length c.args.body.now = omega arith in
    let calls = calls_at c.args.routines.now c.args.names.now c.args.depth in
    sym (block_from calls c.args.body.now c.loop-x.x-index c.x-item.result c.loop-x.state at c.x-item.is
    ∙ ap (λ o. and_then o (λ u. in_order (map (line calls) (drop
    (c.loop-x.x-index + 1) c.args.body.now)))) c.in_ok-line.ensures)
    ∙ c.loop-x.invariant

pub block-returns-in_err-line : goal.block-returns-in_err-line
block-returns-in_err-line t c =
    let at : c.loop-x.x-index < length c.args.body.now = omega arith in
    let calls = calls_at c.args.routines.now c.args.names.now c.args.depth in
    let e : in_order (map (line calls) c.args.body.now) c.args.state.now ≡
    and_then (line calls c.x-item.result c.loop-x.state) (λ u. in_order (map (line calls) (drop
    (c.loop-x.x-index + 1) c.args.body.now))) =
    sym c.loop-x.invariant ∙ block_from calls c.args.body.now c.loop-x.x-index c.x-item.result c.loop-x.state at
    c.x-item.is in
    search rules

pub term-returns-in_ok-v-in-Logic : goal.term-returns-in_ok-v-in-Logic
term-returns-in_ok-v-in-Logic t c =
    let calls = calls_at c.args.routines.now c.args.names.now c.args.depth in
    let left : term calls c.in-Logic.first Own c.args.state.now ≡ Ok (c.in_ok-a-in-Logic.a, c.term.new.state) =
    ap (λ y. term calls y Own c.args.state.now) (sym c.get.ensures) ∙ c.in_ok-a-in-Logic.ensures in
    let whole = ap (λ y. term calls y c.args.target c.args.state.now) c.in-Logic.is
    ∙ logic_from calls c.in-Logic.both c.in-Logic.first c.in-Logic.rest c.args.target c.args.state.now
    c.in_ok-a-in-Logic.a c.term.new.state left in
    let right : links calls c.in-Logic.both c.in-Logic.rest c.in_ok-a-in-Logic.a c.term.new.state ≡
    Ok (c.in_ok-v-in-Logic.v, c.links.new.state) =
    ap (λ rest. links calls c.in-Logic.both rest c.in_ok-a-in-Logic.a c.term.new.state)
    (sym c.as_slice-in-Logic.ensures)
    ∙ c.in_ok-v-in-Logic.ensures in
    subst (λ (o : Outcome Value). Walks o c.into-in-Logic.result c.into-in-Logic.new.state)
    (sym (whole ∙ ap (λ o. and_then o (into c.args.target)) right)) c.into-in-Logic.ensures

pub term-returns-in_err-v-in-Logic : goal.term-returns-in_err-v-in-Logic
term-returns-in_err-v-in-Logic t c =
    let calls = calls_at c.args.routines.now c.args.names.now c.args.depth in
    let left : term calls c.in-Logic.first Own c.args.state.now ≡ Ok (c.in_ok-a-in-Logic.a, c.term.new.state) =
    ap (λ y. term calls y Own c.args.state.now) (sym c.get.ensures) ∙ c.in_ok-a-in-Logic.ensures in
    let whole : term calls c.args.x.now c.args.target c.args.state.now ≡
    and_then (links calls c.in-Logic.both c.as_slice-in-Logic.result.now c.in_ok-a-in-Logic.a c.term.new.state)
    (into c.args.target) =
    ap (λ y. term calls y c.args.target c.args.state.now) c.in-Logic.is
    ∙ logic_from calls c.in-Logic.both c.in-Logic.first c.in-Logic.rest c.args.target c.args.state.now
    c.in_ok-a-in-Logic.a c.term.new.state left
    ∙ ap (λ rest. and_then (links calls c.in-Logic.both rest c.in_ok-a-in-Logic.a c.term.new.state)
    (into c.args.target))
    (sym c.as_slice-in-Logic.ensures) in
    search rules

pub call-returns-else-depth-eq0 : goal.call-returns-else-depth-eq0
call-returns-else-depth-eq0 t c =
    let known : find c.args.name.now.text c.args.names.now ≡ Some c.in-Some.function = grind (arith, common_steps) in
    let there : slice_get c.args.routines.now c.in-Some.function ≡ Some c.in-Some-get.routine.now =
    (let l = c.in-Some-get.ensures.lookup in grind (arith, common_steps, gets, l)) in
    let held = test_held _ _ _ _ _ c.in_ok-test-in-Some-get.ensures in
    let fits : (length c.args.types == length c.in-Some-get.routine.now.params) ≡ true =
    sym (ap₂ (λ (m n : ℕ). m == n) c.len.ensures c.len-in-Some-get.ensures) ∙ held in
    let none : instance_for c.in-Some.function c.args.types c.args.state.now.keys ≡ None =
    grind (arith, common_steps) in
    let new = new_at c.args.routines.now c.args.names.now c.args.depth in
    let e = called_new new c.args.routines.now c.args.names.now c.args.name.now c.args.types c.args.state.now
    c.in-Some.function c.in-Some-get.routine.now known there fits none in
    let below = new_below c.args.routines.now c.args.names.now c.args.depth c.in-Some.function c.in-Some-get.routine.now
    c.args.types c.args.name.now.loc c.args.state.now c.if-depth-eq0.false in
    subst (λ (o : Outcome Given). Walks o c.new.result c.new.new.state) (sym (e ∙ below)) c.new.ensures

pub enter-returns-in-Err : goal.enter-returns-in-Err
enter-returns-in-Err t c =
    let calls = calls_at c.args.routines.now c.args.names.now c.args.depth in
    let left : Nothing → State → Outcome Given = λ u w.
    finished (length c.args.state.now.instances) c.args.routine.now c.args.params c.args.state.now w in
    let start : c.in_ok-within.within ≡ begun c.args.key c.args.routine.now c.args.params c.args.state.now =
    c.in_ok-within.ensures.begun
    ∙ ap (λ params. begun c.args.key c.args.routine.now params c.args.state.now) c.as_slice.ensures in
    let e : entered c.args.key c.args.routine.now c.args.params (block calls c.args.routine.now.body)
    c.args.state.now ≡ and_then (block calls c.as_slice-2.result.now c.in_ok-within.within) left =
    sym (ap₂ (λ body s. and_then (block calls body s) left) c.as_slice-2.ensures start) in
    subst (λ (o : Outcome Given). Walks o (Err c.in-Err.stop) c.begin.new.state) (sym e)
    (failed (block calls c.as_slice-2.result.now c.in_ok-within.within) left c.in-Err.stop c.block-walked.new.state
    c.begin.new.state c.in-Err.ensures)

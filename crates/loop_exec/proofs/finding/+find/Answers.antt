use Rattle.std.proofs.Common.{arith, rules, ◌≡◌, ◌<◌, ◌∙◌, ap, sym, ℕ, ◌+◌, ◌-◌, List, ◌∷◌, ◌++◌, drop, length}
use Rattle.std.proofs.Common.{length-append, slice_get, slice_index_or}
use Rattle.std.proofs.lemmas.List.{drop_more}
use Rattle.std.proofs.lemmas.Option.{IfSome_then}
use Rattle.loop_prog.specs.Statements.{statements}
use Rattle.loop_prog.specs.declared.program.Statement.{Statement}
use Rattle.loop_exec.proofs.FindLemmas.{below, both_blocks, further, get_left, get_right, if_none_then, inner_are}
use Rattle.loop_exec.proofs.finding.+find.Goals as goal

pub find_in-returns-in-Some-clause-found : goal.find_in-returns-in-Some-clause-found
find_in-returns-in-Some-clause-found t c =
    let i : ℕ = c.loop-statement.statement-index in
    let body : List Statement = c.args.block.now in
    let s : Statement = c.statement-item.result in
    let lt : i < length body = search rules in
    let found : slice_index_or body i s ≡ s = search rules in
    let is : drop i body ≡ s ∷ drop (i + 1) body =
    drop_more body i s lt ∙ ap (λ (x : Statement). x ∷ drop (i + 1) body) found in
    let more : 0 < c.loop-statement.number = omega arith in
    below body (drop (i + 1) body) s (drop i body) c.args.number.now c.loop-statement.number is
    c.loop-statement.invariant.0 c.loop-statement.invariant.1 c.in-Some.found.now more
    (ap (λ (xs : List Statement). slice_get xs (c.loop-statement.number - 1)) (inner_are s) ∙ c.in-Some.ensures.found)

pub find_in-loop-statement-preserved : goal.find_in-loop-statement-preserved
find_in-loop-statement-preserved t c =
    let i : ℕ = c.loop-statement.statement-index in
    let body : List Statement = c.args.block.now in
    let s : Statement = c.statement-item.result in
    let lt : i < length body = search rules in
    let found : slice_index_or body i s ≡ s = search rules in
    let is : drop i body ≡ s ∷ drop (i + 1) body =
    drop_more body i s lt ∙ ap (λ (x : Statement). x ∷ drop (i + 1) body) found in
    let more : 0 < c.loop-statement.number = omega arith in
    further body (drop (i + 1) body) s (drop i body) c.args.number.now c.loop-statement.number is
    c.loop-statement.invariant.0 c.loop-statement.invariant.1 c.find_below.new.number more
    (c.in-None.ensures.none ∙
    ap (λ (xs : List Statement). c.find_below.new.number + length xs) (sym (inner_are s)))

pub find_parts-returns-in-Some-clause-found : goal.find_parts-returns-in-Some-clause-found
find_parts-returns-in-Some-clause-found t c =
    ap (λ (xs : List Statement). slice_get xs c.args.number.now) (both_blocks c.args.yes.now c.args.no.now) ∙
    get_left (statements c.args.yes.now) (statements c.args.no.now) c.args.number.now c.in-Some.found.now
    c.in-Some.ensures.found

pub find_parts-returns-in-None-clause-found : goal.find_parts-returns-in-None-clause-found
find_parts-returns-in-None-clause-found t c =
    IfSome_then c.find_in-in-None.result c.find_in-in-None.ensures.found (λ s e.
    ap (λ (xs : List Statement). slice_get xs c.args.number.now) (both_blocks c.args.yes.now c.args.no.now) ∙
    get_right (statements c.args.yes.now) (statements c.args.no.now) c.args.number.now c.find_in.new.number
    c.in-None.ensures.none ∙ e)

pub find_parts-returns-in-None-clause-none : goal.find_parts-returns-in-None-clause-none
find_parts-returns-in-None-clause-none t c =
    let before : c.args.number.now ≡ c.find_in.new.number + length (statements c.args.yes.now) =
    c.in-None.ensures.none in
    let size : length (statements (c.args.yes.now ++ c.args.no.now)) ≡
    length (statements c.args.yes.now) + length (statements c.args.no.now) =
    ap (λ (xs : List Statement). length xs) (both_blocks c.args.yes.now c.args.no.now) ∙
    length-append (statements c.args.yes.now) (statements c.args.no.now) in
    if_none_then c.find_in-in-None.result c.find_in-in-None.ensures.none
    (λ behind. omega (arith, before, size, behind))

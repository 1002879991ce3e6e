use Rattle.std.proofs.Common.{arith, ◌≡◌, ◌∙◌, ◌<◌, ap, sym, ℕ, List, Option, Some, None, length, slice_get}
use Rattle.std.proofs.lemmas.Grind.{common_steps}
use Rattle.std.proofs.lemmas.Option.{gets}
use Rattle.eager_rules.specs.Statements.{statements}
use Rattle.eager_rules.specs.declared.program.Core.{Core}
use Rattle.purity.specs.Uses.{listed}
use Rattle.purity.specs.declared.listing.Line.{Line}
use Rattle.purity.proofs.Learned.{learns_all_more, learns_all_none, learns_none, learns_whole}
use Rattle.purity.proofs.learning.+visit.Goals as goal

pub visit-returns-in-None : goal.visit-returns-in-None
visit-returns-in-None t c =
    let found : slice_get c.args.instances.now c.args.number ≡ None =
    (let l = c.in-None.ensures.lookup in grind (arith, common_steps, gets, l)) in
    learns_none c.args.instances.now c.args.number c.args.known.now.items c.requires found

pub visit-returns-in_ok-visit_new-in-Some : goal.visit-returns-in_ok-visit_new-in-Some
visit-returns-in_ok-visit_new-in-Some t c =
    let found : slice_get c.args.instances.now c.args.number ≡ Some c.in-Some.f.now =
    (let l = c.in-Some.ensures.lookup in grind (arith, common_steps, gets, l)) in
    c.in_ok-visit_new-in-Some.ensures found

pub visit_new-returns : goal.visit_new-returns
visit_new-returns t c = λ here.
    learns_whole c.args.instances.now c.args.number (listed c.as_slice-all_lines.result.now) c.in_ok-numbers.numbers
    c.as_slice-found.result.now c.args.known.now.items c.visit_all.new.known.items c.learn.new.known.items
    c.in_ok-visit_all.ensures c.as_slice-found.ensures c.in_ok-numbers.ensures
    (λ knows there. c.in_ok-learn.ensures c.args.instances.now here
    (ap (λ (lines : List Line). listed lines) c.as_slice-all_lines.ensures.value ∙ (c.in_ok-lines.ensures ∙
    ap (λ (body : List Core). statements body) c.as_slice-body.ensures)) knows there)

pub visit_all-loop-number-init : goal.visit_all-loop-number-init
visit_all-loop-number-init t c =
    learns_all_none c.args.instances.now c.args.known.now.items c.requires

pub visit_all-loop-number-preserved : goal.visit_all-loop-number-preserved
visit_all-loop-number-preserved t c =
    let at : c.loop-number.number-index < length c.args.numbers.now = omega arith in
    learns_all_more c.args.instances.now c.args.numbers.now c.loop-number.number-index _ c.args.known.now.items
    c.loop-number.known.items c.visit.new.known.items at c.loop-number.invariant c.in_ok-visit.ensures

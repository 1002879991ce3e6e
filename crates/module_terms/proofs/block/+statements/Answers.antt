use Rattle.std.proofs.Common.{◌≡◌, ◌+◌, ◌<◌, ◌≤◌, ◌∷◌, ◌∙◌, [], refl, ap, ap₂, sym, length, arith}
use Rattle.module_terms.specs.Lines.{block}
use Rattle.module_terms.specs.declared.term.Line.TheVariants as l
use Rattle.module_terms.proofs.Blocks.{none_behind, one_more}
use Rattle.module_terms.proofs.Loops.{item_here, joins}
use Rattle.module_terms.proofs.Weights.{weight, block_weight, arms_weight, arm_weight, stmt_below, arm_below}
use Rattle.module_terms.proofs.Weights.{weight_if, weight_for}
use Rattle.module_terms.proofs.block.+statements.Goals as goal

pub add_lines-add_if-requires : goal.add_lines-add_if-requires
add_lines-add_if-requires t c =
    let whole : weight c.args.statement.now ≡ 1 + (arms_weight c.as_slice-in-If.result.now + block_weight
    c.as_slice-in-If-2.result.now) =
    ap weight c.in-If.is
    ∙ (weight_if _ _ ∙ ap₂ (λ a b. 1 + (arms_weight a + block_weight b)) (sym c.as_slice-in-If.ensures)
    (sym c.as_slice-in-If-2.ensures)) in
    omega (arith, c.decreases)

pub add_lines-add_loop-requires : goal.add_lines-add_loop-requires
add_lines-add_loop-requires t c =
    let whole : weight c.args.statement.now ≡ 1 + block_weight c.as_slice-in-For.result.now =
    ap weight c.in-For.is ∙ (weight_for _ _ _ _ ∙ ap (λ b. 1 + block_weight b) (sym c.as_slice-in-For.ensures)) in
    omega (arith, c.decreases)

pub branches-block-requires : goal.branches-block-requires
branches-block-requires t c =
    let less : arm_weight c.index-arms-at.result ≤ arms_weight c.args.arms.now = arm_below c.args.arms.now
    _ c.index-arms-at.result (omega arith) c.index-arms-at.is in
    let same : block_weight c.as_slice.result.now ≡ block_weight c.index-arms-at.result.2 = ap block_weight
    c.as_slice.ensures in
    omega (arith, c.decreases)

pub block-add_lines-requires : goal.block-add_lines-requires
block-add_lines-requires t c =
    let at : c.loop-statement.statement-index < length c.args.statements.now = omega arith in
    let less : weight c.statement-item.result ≤ block_weight c.args.statements.now = stmt_below c.args.statements.now
    c.loop-statement.statement-index c.statement-item.result at c.statement-item.is in
    omega (arith, c.decreases)

pub block-loop-statement-preserved : goal.block-loop-statement-preserved
block-loop-statement-preserved t c =
    let at : c.loop-statement.statement-index < length c.args.statements.now = omega arith in
    joins (block c.args.numpy.now.imports.now c.args.targets.now.directives.now) _ _ c.statement-item.result _ _ _ _
    (item_here c.args.statements.now c.loop-statement.statement-index c.statement-item.result at c.statement-item.is)
    refl c.loop-statement.invariant c.in_ok-add_lines.ensures

pub branches-loop-back-init : goal.branches-loop-back-init
branches-loop-back-init t c =
    none_behind c.args.numpy.now.imports.now c.args.targets.now.directives.now c.args.arms.now c.args.otherwise

pub branches-loop-back-preserved : goal.branches-loop-back-preserved
branches-loop-back-preserved t c =
    let x = c.index-arms-at.result in
    one_more c.args.numpy.now.imports.now c.args.targets.now.directives.now c.args.arms.now c.args.otherwise
    c.loop-back.back x
    c.loop-back.no c.in_ok-no.no c.loop-back-test.true c.index-arms-at.is c.loop-back.invariant
    (c.in_ok-no.ensures ∙ ap₂ (λ a b. l.If x.0 a b c.loop-back.no ∷ []) c.in_ok-condition.ensures
    (c.in_ok-yes.ensures
    ∙ ap (block c.args.numpy.now.imports.now c.args.targets.now.directives.now) c.as_slice.ensures))

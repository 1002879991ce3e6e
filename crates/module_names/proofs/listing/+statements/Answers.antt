use Rattle.std.proofs.Common.{◌≡◌, ◌+◌, ◌<◌, ◌≤◌, ◌++◌, ◌∙◌, ap, ap₂, sym, length, arith}
use Rattle.module_names.specs.Listing.{arm_nodes, block_nodes, expr_nodes, inside_stmt}
use Rattle.module_names.specs.Nodes.{Operand}
use Rattle.module_names.specs.Seen.{listed}
use Rattle.module_names.proofs.Inside.{in_doc, in_pass}
use Rattle.module_names.proofs.Loops.{grows, item_here}
use Rattle.module_names.proofs.Steps.{arms_step, block_more, nothing_more}
use Rattle.module_names.proofs.Weights.{weight, block_weight, arms_weight, arm_weight, stmt_below, arm_below}
use Rattle.module_names.proofs.Weights.{weight_if, weight_for}
use Rattle.module_names.proofs.listing.+statements.Goals as goal

pub list_parts-returns-in-Doc : goal.list_parts-returns-in-Doc
list_parts-returns-in-Doc t c = nothing_more _ _ (ap (λ y. inside_stmt y c.args.last) c.in-Doc.is ∙ in_doc c.args.last)

pub list_parts-returns-in-Pass : goal.list_parts-returns-in-Pass
list_parts-returns-in-Pass t c = nothing_more _ _ (ap (λ y. inside_stmt y c.args.last) c.in-Pass.is
    ∙ in_pass c.args.last)

pub list_parts-list_if-requires : goal.list_parts-list_if-requires
list_parts-list_if-requires t c =
    let whole : weight c.args.statement.now ≡ 1 + (arms_weight c.as_slice-in-If.result.now + block_weight
    c.as_slice-in-If-2.result.now) =
    ap weight c.in-If.is
    ∙ (weight_if _ _ ∙ ap₂ (λ a b. 1 + (arms_weight a + block_weight b)) (sym c.as_slice-in-If.ensures)
    (sym c.as_slice-in-If-2.ensures)) in
    omega (arith, c.decreases)

pub list_parts-list_loop-requires : goal.list_parts-list_loop-requires
list_parts-list_loop-requires t c =
    let whole : weight c.args.statement.now ≡ 1 + block_weight c.as_slice-in-For.result.now =
    ap weight c.in-For.is ∙ (weight_for _ _ _ _ ∙ ap (λ b. 1 + block_weight b) (sym c.as_slice-in-For.ensures)) in
    omega (arith, c.decreases)

pub list_arms-list_block-requires : goal.list_arms-list_block-requires
list_arms-list_block-requires t c =
    let at : c.loop-arm.arm-index < length c.args.arms.now = omega arith in
    let less : arm_weight c.arm-item.result ≤ arms_weight c.args.arms.now = arm_below c.args.arms.now
    c.loop-arm.arm-index c.arm-item.result at c.arm-item.is in
    let same : block_weight c.as_slice.result.now ≡ block_weight c.arm-item.result.2 = ap block_weight
    c.as_slice.ensures in
    omega (arith, c.decreases)

pub list_block-list_stmt-requires : goal.list_block-list_stmt-requires
list_block-list_stmt-requires t c =
    let at : c.loop-at.at < length c.args.block.now = omega arith in
    let less : weight c.index-block-at.result ≤ block_weight c.args.block.now = stmt_below c.args.block.now
    c.loop-at.at c.index-block-at.result at c.index-block-at.is in
    omega (arith, c.decreases)

pub list_arms-loop-arm-preserved : goal.list_arms-loop-arm-preserved
list_arms-loop-arm-preserved t c =
    let at : c.loop-arm.arm-index < length c.args.arms.now = omega arith in
    grows (arm_nodes c.args.last) _ _ c.arm-item.result _ _ _
    (item_here c.args.arms.now c.loop-arm.arm-index c.arm-item.result at c.arm-item.is)
    c.loop-arm.invariant
    (arms_step (listed c.loop-arm.out) (listed c.list_expr.new.out) (listed c.list_block.new.out)
    (expr_nodes Operand c.arm-item.result.1) (block_nodes c.args.last c.arm-item.result.2) c.in_ok-list_expr.ensures
    (c.in_ok-list_block.ensures ∙ ap (λ b. listed c.list_expr.new.out ++ block_nodes c.args.last b) c.as_slice.ensures))

pub list_block-loop-at-preserved : goal.list_block-loop-at-preserved
list_block-loop-at-preserved t c =
    let at : c.loop-at.at < length c.args.block.now = omega arith in
    block_more c.args.last _ _ _ c.index-block-at.result _ _ _
    (item_here c.args.block.now c.loop-at.at c.index-block-at.result at c.index-block-at.is)
    c.loop-at.invariant c.is_last.ensures c.in_ok-list_stmt.ensures

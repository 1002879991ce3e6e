use Rattle.std.proofs.Common.{◌≡◌, ◌+◌, ◌<◌, ◌≤◌, ◌∙◌, ap, ap₂, sym, length, arith}
use Rattle.std.proofs.Common.{subst, drop, map, []}
use Rattle.std.proofs.lemmas.List.{drop_all}
use Rattle.std.specs.Result.{OnOk, IfOk}
use Rattle.module_names.specs.Nodes.{Operand, Iterated}
use Rattle.module_names.specs.Places.{soonest}
use Rattle.use_def.proofs.Folds.{fold_for}
use Rattle.use_def.proofs.SetLaws.{back_assigned, back_then}
use Rattle.use_def.proofs.Steps.{item_here, row_marks, row_set, arms_marks, arms_common, on_ok_more, if_flow}
use Rattle.use_def.proofs.Steps.{then_marks}
use Rattle.use_def.proofs.Weights.{weight, block_weight, arms_weight, stmt_below}
use Rattle.use_def.proofs.Weights.{weight_if, weight_for}
use Rattle.use_def.specs.Flows.{Flow, both, flow, flow_step, block_flow, reads_marks, parts, arm_flows, with_name}
use Rattle.use_def.specs.Flows.{with_text}
use Rattle.use_def.specs.Sets.{assigned, marked, common_set}
use Rattle.use_def.proofs.walk.+statements.Goals as goal

pub block-statement-requires : goal.block-statement-requires
block-statement-requires t c =
    let at : c.loop-s.s-index < length c.args.block.now = omega arith in
    let less : weight c.s-item.result ≤ block_weight c.args.block.now = stmt_below c.args.block.now c.loop-s.s-index
    c.s-item.result at c.s-item.is in
    omega (arith, c.decreases)

pub statement-branches-requires : goal.statement-branches-requires
statement-branches-requires t c =
    let whole : weight c.args.statement.now ≡ 1 + (arms_weight c.as_slice-in-If.result.now + block_weight
    c.as_slice-in-If-2.result.now) =
    ap weight c.in-If.is
    ∙ (weight_if _ _ ∙ ap₂ (λ a b. 1 + (arms_weight a + block_weight b)) (sym c.as_slice-in-If.ensures)
    (sym c.as_slice-in-If-2.ensures)) in
    omega (arith, c.decreases)

pub statement-looped-requires : goal.statement-looped-requires
statement-looped-requires t c =
    let whole : weight c.args.statement.now ≡ 1 + block_weight c.as_slice-in-For.result.now =
    ap weight c.in-For.is ∙ (weight_for _ _ _ _ ∙ ap (λ b. 1 + block_weight b) (sym c.as_slice-in-For.ensures)) in
    omega (arith, c.decreases)

pub block-loop-s-preserved : goal.block-loop-s-preserved
block-loop-s-preserved t c =
    let i = c.loop-s.s-index in
    let xs = c.args.block.now in
    let at : i < length xs = omega arith in
    let here = item_here xs i c.s-item.result at c.s-item.is in
    let m = c.args.words.now.tree.now in
    record {
      first = row_marks m _ _ c.s-item.result (assigned c.loop-s.names) (assigned c.statement.new.names) c.loop-s.first
          c.in_ok-first.first _ here c.in_ok-first.ensures.assigned c.loop-s.invariant.first
          c.in_ok-first.ensures.first;
      assigned = row_set m _ _ c.s-item.result (assigned c.loop-s.names) (assigned c.statement.new.names) _ here
          c.in_ok-first.ensures.assigned c.loop-s.invariant.assigned;
      outside = c.in_ok-first.ensures.outside ∙ c.loop-s.invariant.outside;
    }

pub branches-loop-arm-preserved : goal.branches-loop-arm-preserved
branches-loop-arm-preserved t c =
    let i = c.loop-arm.arm-index in
    let arms = c.args.arms.now in
    let at : i < length arms = omega arith in
    let arm = c.arm-item.result in
    let here = item_here arms i arm at c.arm-item.is in
    let m = c.args.words.now.tree.now in
    let old = c.args.names.now in
    let now = c.loop-arm.names in
    let other = block_flow m c.args.otherwise.now in
    let back = c.loop-arm.invariant.back in
    let same : assigned now ≡ assigned old = back_assigned old now back in
    record {
      first = arms_marks m other (assigned old) _ _ arm c.loop-arm.first c.in_ok-first.first
          c.in_ok-first-2.first _ here
          c.loop-arm.invariant.first
          (c.in_ok-first.ensures ∙ ap (λ s. soonest c.loop-arm.first (reads_marks m s Operand arm.1)) same)
          (c.in_ok-first-2.ensures.first
          ∙ ap₂ (λ b s. soonest c.in_ok-first.first (block_flow m b s).1) c.as_slice.ensures same);
      common = arms_common m other (assigned old) _ _ arm (common_set (marked old) c.loop-arm.common)
          (common_set (marked old) c.part.new.common) _ here c.loop-arm.invariant.common
          (sym (ap (λ s. common_set s c.part.new.common) back.marks)
          ∙ (c.in_ok-first-2.ensures.common
          ∙ (ap (λ s. both (common_set s c.loop-arm.common) (block_flow m c.as_slice.result.now (assigned now)).0)
          back.marks
          ∙ ap₂ (λ b s. both (common_set (marked old) c.loop-arm.common) (block_flow m b s).0)
          c.as_slice.ensures same)));
      back = back_then old now c.part.new.names back c.in_ok-first-2.ensures.back;
    }

pub branches-returns-clause-first : goal.branches-returns-clause-first
branches-returns-clause-first t c =
    let m = c.args.words.now.tree.now in
    let arms = c.args.arms.now in
    let old = c.args.names.now in
    let end : length arms ≤ c.loop-arm.arm-index = omega arith in
    let none : drop c.loop-arm.arm-index arms ≡ [] = drop_all c.loop-arm.arm-index arms end in
    let other = block_flow m c.args.otherwise.now in
    c.in_ok-first-3.ensures.first
    ∙ (ap (λ s. soonest c.loop-arm.first (other s).1) (back_assigned old c.loop-arm.names c.loop-arm.invariant.back)
    ∙ (sym (ap (λ l. soonest c.loop-arm.first (parts m (map (arm_flows m) l) other (assigned old)).1) none)
    ∙ c.loop-arm.invariant.first))

pub branches-returns-clause-assigned : goal.branches-returns-clause-assigned
branches-returns-clause-assigned t c =
    let m = c.args.words.now.tree.now in
    let arms = c.args.arms.now in
    let old = c.args.names.now in
    let now = c.loop-arm.names in
    let common = c.loop-arm.common in
    let end : length arms ≤ c.loop-arm.arm-index = omega arith in
    let none : drop c.loop-arm.arm-index arms ≡ [] = drop_all c.loop-arm.arm-index arms end in
    let other = block_flow m c.args.otherwise.now in
    let back = c.loop-arm.invariant.back in
    c.in_ok-join.ensures.assigned
    ∙ (ap (λ s. common_set s c.part-2.new.common) c.in_ok-first-3.ensures.back.marks
    ∙ (c.in_ok-first-3.ensures.common
    ∙ (ap₂ (λ s u. both (common_set s common) (other u).0) back.marks (back_assigned old now back)
    ∙ (sym (ap (λ l. both (common_set (marked old) common) (parts m (map (arm_flows m) l) other (assigned old)).0) none)
    ∙ c.loop-arm.invariant.common))))

pub looped-returns-clause-first : goal.looped-returns-clause-first
looped-returns-clause-first t c =
    let m = c.args.words.now.tree.now in
    let old = assigned c.args.names.now in
    let bound : assigned c.bind.new.names ≡ with_name c.args.variable.now old =
    c.in_ok-bind.ensures.assigned ∙ ap₂ with_text c.as_slice.ensures c.begin_block-outer.ensures.assigned in
    then_marks (reads_marks m old Iterated c.args.over.now) (block_flow m c.args.body.now
    (with_name c.args.variable.now old)).1 c.args.first c.in_ok-first.first c.in_ok-first-2.first
    c.in_ok-first.ensures
    (c.in_ok-first-2.ensures.first ∙ ap (λ s. soonest c.in_ok-first.first (block_flow m c.args.body.now s).1) bound)

pub statement-returns-in-If-clause-first : goal.statement-returns-in-If-clause-first
statement-returns-in-If-clause-first t c =
    subst (λ (f : Flow). IfOk c.branches.result (λ least. least
    ≡ soonest c.args.first (f (assigned c.args.names.now)).1)) (sym (if_flow c.args.words.now.tree.now
    c.args.statement.now _ _ _ _ c.in-If.is c.as_slice-in-If.ensures c.as_slice-in-If-2.ensures))
    c.branches.ensures.first

pub statement-returns-in-If-clause-assigned : goal.statement-returns-in-If-clause-assigned
statement-returns-in-If-clause-assigned t c =
    subst (λ (f : Flow). OnOk c.branches.result (assigned c.branches.new.names
    ≡ (f (assigned c.args.names.now)).0)) (sym (if_flow c.args.words.now.tree.now
    c.args.statement.now _ _ _ _ c.in-If.is c.as_slice-in-If.ensures c.as_slice-in-If-2.ensures))
    c.branches.ensures.assigned

pub statement-returns-in-For-clause-assigned : goal.statement-returns-in-For-clause-assigned
statement-returns-in-For-clause-assigned t c =
    let m = c.args.words.now.tree.now in
    let old = c.args.names.now in
    let stays : (flow m c.args.statement.now (assigned old)).0 ≡ assigned old =
    ap (λ x. (flow m x (assigned old)).0) c.in-For.is
    ∙ ap (λ (f : Flow). (f (assigned old)).0) (fold_for Flow (flow_step m) _ _ _ _) in
    on_ok_more c.looped.result _ _ (λ back. back_assigned old c.looped.new.names back ∙ sym stays) c.looped.ensures.back

use Rattle.std.proofs.Common.{◌≡◌, ◌∙◌, ap, sym, false, true, Bool, List, ℕ}
use Rattle.std.specs.List.{filter}
use Rattle.std.specs.Result.{IfOk}
use Rattle.eager_rules.specs.Assigned.{beside, bindings, comes_to, outside, seen, walk_of}
use Rattle.eager_rules.specs.Sound.{both, bound_in, put_all, walk}
use Rattle.eager_rules.specs.declared.assigned.Part.{Part}
use Rattle.eager_rules.proofs.BoundNames.{if_ends, if_ok_more, if_walk, in_block, loop_goes, loop_stops, out_of_block}
use Rattle.eager_rules.proofs.BoundNames.{part_binds, part_ends, second_binds}
use Rattle.eager_rules.proofs.assigned.+assigned.Goals.{first_part-then-ended, first_part-else-ended}
use Rattle.eager_rules.proofs.assigned.+assigned.Goals as goal

pub first_part-returns : goal.first_part-returns
first_part-returns m c =
    let old = c.args.names.now in
    let s = c.block.new.names in
    let t = c.end_block.new.names in
    let w = walk c.args.body.now (bindings old) in
    let e : seen true s ≡ beside old.marks w =
    in_block old c.begin_block-outer.new.names s c.args.body.now c.in_ok-block.field-0 true
    c.begin_block-outer.ensures.names c.if-not-branch.false c.in_ok-block.ensures in
    let is = out_of_block old s t c.begin_block-outer.result c.begin_block-outer.ensures.outer c.end_block.ensures in
    elim c.if-ended.branch [
      | first_part-then-ended k ↦
          ap (λ (p : Part). comes_to p t) k.result-is ∙ part_ends old s t w e is k.if-ended.true
      | first_part-else-ended k ↦
          ap (λ (p : Part). comes_to p t) k.result-is
          ∙ part_binds old s t c.in_ok-bound.bound w e is k.if-ended.false
          (c.in_ok-bound.ensures ∙ ap (filter (bound_in (bindings s))) c.as_slice.ensures)
    ]

pub second_part-returns : goal.second_part-returns
second_part-returns m c =
    let old = c.args.names.now in
    let s = c.block.new.names in
    let t = c.end_block.new.names in
    let w = walk c.args.body.now (bindings old) in
    let e : seen true s ≡ beside old.marks w =
    in_block old c.begin_block-outer.new.names s c.args.body.now c.in_ok-block.field-0 true
    c.begin_block-outer.ensures.names c.if-not-branch.false c.in_ok-block.ensures in
    let is = out_of_block old s t c.begin_block-outer.result c.begin_block-outer.ensures.outer c.end_block.ensures in
    second_binds old s t c.bind_all.new.names c.args.first.now c.in_ok-common.common w e is c.in_ok-common.ensures
    (c.in_ok-bind_all.ensures.marks ∙ ap (λ (l : List ℕ). put_all l t.marks) c.as_slice.ensures)
    c.in_ok-bind_all.ensures.outside c.in_ok-bind_all.ensures.ended

pub turns-returns-then-not-branch : goal.turns-returns-then-not-branch
turns-returns-then-not-branch m c =
    let bound = c.in_ok-bind.ensures in
    loop_stops c.args.names.now c.begin_block-outer.new.names c.bind.new.names c.block.new.names c.args.body.now
    c.args.var c.in_ok-block.field-0 c.begin_block-outer.ensures.names (bound.marks, bound.outside, bound.ended)
    c.if-not-branch.true c.in_ok-block.ensures

pub turns-returns : goal.turns-returns
turns-returns m c =
    let bound = c.in_ok-bind.ensures in
    let old = c.args.names.now in
    let s = c.begin_block-outer.new.names in
    loop_goes old s c.bind.new.names c.block.new.names c.end_block.new.names c.args.body.now
    c.args.var c.in_ok-block.field-0 c.begin_block-outer.ensures.names (bound.marks, bound.outside, bound.ended)
    c.if-not-branch.false c.in_ok-block.ensures
    (out_of_block old c.block.new.names c.end_block.new.names c.begin_block-outer.result
    c.begin_block-outer.ensures.outer c.end_block.ensures)

pub statement-returns-in-Ended : goal.statement-returns-in-Ended
statement-returns-in-Ended m c =
    let old = c.args.names.now in
    let t = c.first_part.new.names in
    let yes = c.as_slice-in-If.result.now in
    let no = c.as_slice-in-Ended.result.now in
    let e = c.in_ok-first_part-in-If.ensures in
    let first = ap (λ (p : Part). comes_to p t) (sym c.in-Ended.is) ∙ e in
    let walked = if_walk c.args.core.now _ _ _ yes no (bindings old) c.is_operand_bound.result c.in-If.is
    c.as_slice-in-If.ensures c.as_slice-in-Ended.ensures c.if-not-is_operand_bound.false
    c.is_operand_bound.ensures in
    if_ok_more c.block.result _ _
    (λ b f. if_ends old t c.block.new.names b (walk yes) (walk no) first f ∙ sym (ap (beside (outside old)) walked))
    c.block.ensures

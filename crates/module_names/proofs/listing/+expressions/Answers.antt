use Rattle.std.proofs.Common.{◌<◌, ◌++◌, ◌∙◌, [], ap, ap₂, sym, map, flat_map, List, length, take}
use Rattle.std.proofs.Common.{arith}
use Rattle.std.specs.Option.{option_map}
use Rattle.py_parse.specs.declared.tree.Expr.{Expr}
use Rattle.py_parse.specs.declared.tree.Trailer.{Trailer}
use Rattle.module_names.specs.Listing.{expr_nodes, sub_nodes, inner_nodes, trailer_nodes, head_by, name_in}
use Rattle.module_names.specs.Listing.{trailers_nodes, paired_trailer}
use Rattle.module_names.specs.Nodes.{Node, Operand}
use Rattle.module_names.specs.Seen.{role_seen, maker_seen}
use Rattle.module_names.proofs.Loops.{grows, item_here, taken_here}
use Rattle.module_names.proofs.Steps.{trailers_more, args_more, args_within, nothing_more, two_parts, three_parts}
use Rattle.module_names.proofs.Inside.{in_name, in_int, in_truth, in_chain, in_logic, in_primary, in_cut, in_attr}
use Rattle.module_names.proofs.listing.+expressions.Goals as goal

pub list_exprs-loop-x-preserved : goal.list_exprs-loop-x-preserved
list_exprs-loop-x-preserved t c =
    let at : c.loop-x.x-index < length c.args.items.now = omega arith in
    grows (expr_nodes Operand) _ _ c.x-item.result _ _ _ (item_here c.args.items.now c.loop-x.x-index c.x-item.result
    at c.x-item.is)
    c.loop-x.invariant c.in_ok-list_expr.ensures

pub list_links-loop-link-preserved : goal.list_links-loop-link-preserved
list_links-loop-link-preserved t c =
    let at : c.loop-link.link-index < length c.args.links.now = omega arith in
    grows (λ link. expr_nodes Operand link.2) _ _ c.link-item.result _ _ _
    (item_here c.args.links.now c.loop-link.link-index c.link-item.result at c.link-item.is)
    c.loop-link.invariant c.in_ok-list_expr.ensures

pub list_conditions-loop-link-preserved : goal.list_conditions-loop-link-preserved
list_conditions-loop-link-preserved t c =
    let at : c.loop-link.link-index < length c.args.links.now = omega arith in
    grows (λ link. expr_nodes Operand link.1) _ _ c.link-item.result _ _ _
    (item_here c.args.links.now c.loop-link.link-index c.link-item.result at c.link-item.is)
    c.loop-link.invariant c.in_ok-list_expr.ensures

pub list_subs-loop-sub-preserved : goal.list_subs-loop-sub-preserved
list_subs-loop-sub-preserved t c =
    let at : c.loop-sub.sub-index < length c.args.subs.now = omega arith in
    grows sub_nodes _ _ c.sub-item.result _ _ _ (item_here c.args.subs.now c.loop-sub.sub-index c.sub-item.result at
    c.sub-item.is)
    c.loop-sub.invariant c.in_ok-list_sub.ensures

pub list_args-loop-arg-preserved : goal.list_args-loop-arg-preserved
list_args-loop-arg-preserved t c =
    let at : c.loop-arg.arg-index < length c.args.args.now = omega arith in
    record {
      within = args_within _ _ _ _ c.in_ok-plain.ensures.plain c.loop-arg.invariant.within;
      nodes = args_more (option_map maker_seen c.args.maker) c.loop-arg.plain _ _ _ c.arg-item.result _ _ _
          (item_here c.args.args.now c.loop-arg.arg-index c.arg-item.result at c.arg-item.is)
          c.loop-arg.invariant.nodes c.in_ok-plain.ensures.nodes c.in_ok-plain.ensures.plain;
    }

pub list_inside-returns-in-Name : goal.list_inside-returns-in-Name
list_inside-returns-in-Name t c =
    nothing_more _ _ (ap (λ y. inner_nodes y (role_seen c.args.role)) c.in-Name.is ∙ in_name (role_seen c.args.role) _)

pub list_inside-returns-in-Int : goal.list_inside-returns-in-Int
list_inside-returns-in-Int t c =
    nothing_more _ _ (ap (λ y. inner_nodes y (role_seen c.args.role)) c.in-Int.is ∙ in_int (role_seen c.args.role) _ _)

pub list_inside-returns-in-Truth : goal.list_inside-returns-in-Truth
list_inside-returns-in-Truth t c =
    nothing_more _ _ (ap (λ y. inner_nodes y (role_seen c.args.role)) c.in-Truth.is
    ∙ in_truth (role_seen c.args.role) _ _)

pub list_trailer-returns-in-Attr : goal.list_trailer-returns-in-Attr
list_trailer-returns-in-Attr t c =
    nothing_more _ _ (ap (λ y. trailer_nodes y (option_map maker_seen c.args.maker)) c.in-Attr.is
    ∙ in_attr (option_map maker_seen c.args.maker) _)

pub list_trailers-loop-at-preserved : goal.list_trailers-loop-at-preserved
list_trailers-loop-at-preserved t c =
    let at : c.loop-at.at < length c.args.trailers.now = omega arith in
    trailers_more (role_seen c.args.role) c.args.head.now (take c.loop-at.at c.args.trailers.now) _ _ _ _ _
    c.index-trailers-at.result _ _ _ _ _
    c.front-before.ensures c.back-after.ensures
    (taken_here c.args.trailers.now c.loop-at.at c.index-trailers-at.result at c.index-trailers-at.is)
    (item_here c.args.trailers.now c.loop-at.at c.index-trailers-at.result at c.index-trailers-at.is)
    c.loop-at.invariant c.in_ok-push.ensures c.maker.ensures c.in_ok-list_trailer.ensures

pub list_inside-returns-in_ok-list_expr-in-Chain : goal.list_inside-returns-in_ok-list_expr-in-Chain
list_inside-returns-in_ok-list_expr-in-Chain t c =
    two_parts c.list_links.result _ _ _ _ _ _ c.in_ok-list_expr-in-Chain.ensures c.list_links.ensures
    (ap (λ y. inner_nodes y (role_seen c.args.role)) c.in-Chain.is
    ∙ (in_chain (role_seen c.args.role) c.in-Chain.first c.in-Chain.links
    ∙ ap₂ (λ a b. expr_nodes Operand a ++ flat_map (λ l. expr_nodes Operand l.2) b) (sym c.get.ensures)
    (sym c.as_slice-in-Chain.ensures)))

pub list_inside-returns-in_ok-list_expr-in-Logic : goal.list_inside-returns-in_ok-list_expr-in-Logic
list_inside-returns-in_ok-list_expr-in-Logic t c =
    two_parts c.list_conditions.result _ _ _ _ _ _ c.in_ok-list_expr-in-Logic.ensures c.list_conditions.ensures
    (ap (λ y. inner_nodes y (role_seen c.args.role)) c.in-Logic.is
    ∙ (in_logic (role_seen c.args.role) _ c.in-Logic.first c.in-Logic.links
    ∙ ap₂ (λ a b. expr_nodes Operand a ++ flat_map (λ l. expr_nodes Operand l.1) b) (sym c.get-in-Logic.ensures)
    (sym c.as_slice-in-Logic.ensures)))

pub list_inside-returns-in_ok-list_head-in-Primary : goal.list_inside-returns-in_ok-list_head-in-Primary
list_inside-returns-in_ok-list_head-in-Primary t c =
    let trailed : Expr → List Trailer → List Node = λ h ts. trailers_nodes (role_seen c.args.role) h []
    (map paired_trailer ts) in
    let first : List Node = head_by (name_in c.get-in-Primary.result.now)
    (expr_nodes Operand c.get-in-Primary.result.now) in
    two_parts c.list_trailers.result _ _ _ _ _ _ c.in_ok-list_head-in-Primary.ensures c.list_trailers.ensures
    (ap (λ y. inner_nodes y (role_seen c.args.role)) c.in-Primary.is
    ∙ (in_primary (role_seen c.args.role) c.in-Primary.head c.in-Primary.trailers
    ∙ (ap (λ h. head_by (name_in h) (expr_nodes Operand h) ++ trailed c.in-Primary.head c.in-Primary.trailers)
    (sym c.get-in-Primary.ensures)
    ∙ ap₂ (λ h ts. first ++ trailed h ts) (sym c.get-in-Primary-2.ensures) (sym c.as_slice-in-Primary.ensures))))

pub list_sub-returns-in_ok-list_bound-in-Cut-2 : goal.list_sub-returns-in_ok-list_bound-in-Cut-2
list_sub-returns-in_ok-list_bound-in-Cut-2 t c =
    three_parts c.list_bound-in-Cut-2.result _ _ _ _ _ _ _ _ c.in_ok-list_bound-in-Cut.ensures
    c.in_ok-list_bound-in-Cut-2.ensures
    c.list_bound-in-Cut-2.ensures (ap sub_nodes c.in-Cut.is ∙ in_cut c.in-Cut.start c.in-Cut.stop c.in-Cut.step)

use Rattle.std.proofs.Common.{◌+◌, ◌<◌, ◌++◌, ◌∷◌, ◌∙◌, ap, sym, map, flat_map, length, drop, arith}
use Rattle.module_terms.specs.Expressions.{terms, chained, link, condition, operand, trailed, walk, plain_in, keyed_in}
use Rattle.module_terms.specs.Expressions.{argument, part}
use Rattle.module_terms.specs.Rows.{binary}
use Rattle.module_terms.specs.declared.term.Operation.TheVariants as op
use Rattle.module_terms.proofs.Loops.{item_here, joins, goes}
use Rattle.module_terms.proofs.expression.+expressions.Goals as goal

pub terms-loop-x-preserved : goal.terms-loop-x-preserved
terms-loop-x-preserved t c =
    let at : c.loop-x.x-index < length c.args.items.now = omega arith in
    let imports = c.args.numpy.now.imports.now in
    joins (terms imports) _ _ c.x-item.result _ _ _ _
    (item_here c.args.items.now c.loop-x.x-index c.x-item.result at c.x-item.is)
    (ap (λ y. y ∷ terms imports (drop (c.loop-x.x-index + 1) c.args.items.now)) (sym c.in_ok-term.ensures))
    c.loop-x.invariant c.in_ok-push.ensures.pushed

pub conditions-loop-link-preserved : goal.conditions-loop-link-preserved
conditions-loop-link-preserved t c =
    let at : c.loop-link.link-index < length c.args.links.now = omega arith in
    let imports = c.args.numpy.now.imports.now in
    let later = map condition (map (operand imports) (drop (c.loop-link.link-index + 1) c.args.links.now)) in
    joins (λ l. map condition (map (operand imports) l)) _ _ c.link-item.result _ _ _ _
    (item_here c.args.links.now c.loop-link.link-index c.link-item.result at c.link-item.is)
    (ap (λ y. (c.link-item.result.0, y) ∷ later) (sym c.in_ok-term.ensures))
    c.loop-link.invariant c.in_ok-push.ensures.pushed

pub parts-loop-sub-preserved : goal.parts-loop-sub-preserved
parts-loop-sub-preserved t c =
    let at : c.loop-sub.sub-index < length c.args.subs.now = omega arith in
    let imports = c.args.numpy.now.imports.now in
    joins (map (part imports)) _ _ c.sub-item.result _ _ _ _
    (item_here c.args.subs.now c.loop-sub.sub-index c.sub-item.result at c.sub-item.is)
    (ap (λ y. y ∷ map (part imports) (drop (c.loop-sub.sub-index + 1) c.args.subs.now)) (sym c.in_ok-part.ensures))
    c.loop-sub.invariant c.in_ok-push.ensures.pushed

pub arguments-loop-arg-preserved : goal.arguments-loop-arg-preserved
arguments-loop-arg-preserved t c =
    let at : c.loop-arg.arg-index < length c.args.args.now = omega arith in
    let imports = c.args.numpy.now.imports.now in
    let more = drop (c.loop-arg.arg-index + 1) c.args.args.now in
    let here = item_here c.args.args.now c.loop-arg.arg-index c.arg-item.result at c.arg-item.is in
    record {
      plain = joins (λ l. flat_map plain_in (map (argument imports) l)) _ _ c.arg-item.result _ _ _ _ here
          (ap (λ y. plain_in y ++ flat_map plain_in (map (argument imports) more)) (sym c.in_ok-argument.ensures))
          c.loop-arg.invariant.plain c.in_ok-add_argument.ensures.plain;
      keyed = joins (λ l. flat_map keyed_in (map (argument imports) l)) _ _ c.arg-item.result _ _ _ _ here
          (ap (λ y. keyed_in y ++ flat_map keyed_in (map (argument imports) more)) (sym c.in_ok-argument.ensures))
          c.loop-arg.invariant.keyed c.in_ok-add_argument.ensures.keyed;
    }

pub follow-loop-trailer-preserved : goal.follow-loop-trailer-preserved
follow-loop-trailer-preserved t c =
    let at : c.loop-trailer.trailer-index < length c.args.trailers.now = omega arith in
    let imports = c.args.numpy.now.imports.now in
    goes (λ r l. trailed r (map (walk imports) l)) _ _ c.trailer-item.result _ _ _
    (item_here c.args.trailers.now c.loop-trailer.trailer-index c.trailer-item.result at c.trailer-item.is)
    (ap (λ r. trailed r (map (walk imports) (drop (c.loop-trailer.trailer-index + 1) c.args.trailers.now)))
    c.in_ok-reached.ensures)
    c.loop-trailer.invariant

pub chain-loop-link-preserved : goal.chain-loop-link-preserved
chain-loop-link-preserved t c =
    let at : c.loop-link.link-index < length c.args.links.now = omega arith in
    let imports = c.args.numpy.now.imports.now in
    let l = c.link-item.result in
    goes (λ x rest. chained x (map (link imports) rest)) _ _ l _ _ _
    (item_here c.args.links.now c.loop-link.link-index l at c.link-item.is)
    (ap (λ x. chained x (map (link imports) (drop (c.loop-link.link-index + 1) c.args.links.now)))
    (c.in_ok-whole.ensures ∙ ap (λ y. binary (op.Binary l.0) l.1 c.loop-link.whole y) c.in_ok-operand.ensures))
    c.loop-link.invariant

use Rattle.std.proofs.Common.{◌≡◌, ◌++◌, drop, map, flat_map}
use Rattle.module_terms.specs.Expressions.{terms, chained, link, condition, operand, trailed, walk, plain_in, keyed_in}
use Rattle.module_terms.specs.Expressions.{argument, part}
use Rattle.module_terms.proofs.expression.+expressions.Given as goal

abbrev pub invariant-terms-loop-x : goal.invariant-terms-loop-x
invariant-terms-loop-x l =
    l.list ++ terms l.numpy.imports.now (drop l.x-index l.items) ≡ terms l.numpy.imports.now l.items

abbrev pub invariant-chain-loop-link : goal.invariant-chain-loop-link
invariant-chain-loop-link l =
    chained l.whole (map (link l.numpy.imports.now) (drop l.link-index l.links))
    ≡ chained l.fn.first (map (link l.numpy.imports.now) l.links)

abbrev pub invariant-conditions-loop-link : goal.invariant-conditions-loop-link
invariant-conditions-loop-link l =
    l.list ++ map condition (map (operand l.numpy.imports.now) (drop l.link-index l.links))
    ≡ map condition (map (operand l.numpy.imports.now) l.links)

abbrev pub invariant-follow-loop-trailer : goal.invariant-follow-loop-trailer
invariant-follow-loop-trailer l =
    trailed l.reached (map (walk l.numpy.imports.now) (drop l.trailer-index l.trailers))
    ≡ trailed l.fn.head (map (walk l.numpy.imports.now) l.trailers)

abbrev pub invariant-arguments-loop-arg : goal.invariant-arguments-loop-arg
invariant-arguments-loop-arg l = record {
  plain : l.list.plain ++ flat_map plain_in (map (argument l.numpy.imports.now) (drop l.arg-index l.args))
      ≡ flat_map plain_in (map (argument l.numpy.imports.now) l.args);
  keyed : l.list.keyed ++ flat_map keyed_in (map (argument l.numpy.imports.now) (drop l.arg-index l.args))
      ≡ flat_map keyed_in (map (argument l.numpy.imports.now) l.args);
}

abbrev pub invariant-parts-loop-sub : goal.invariant-parts-loop-sub
invariant-parts-loop-sub l =
    l.list ++ map (part l.numpy.imports.now) (drop l.sub-index l.subs) ≡ map (part l.numpy.imports.now) l.subs

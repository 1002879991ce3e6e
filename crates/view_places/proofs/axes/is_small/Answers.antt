use Rattle.std.proofs.Common.{◌≡◌, ◌^◌, arith, sym, ap, ◌∙◌, leb}
use Rattle.view_places.proofs.PartLemmas.{small-is}
use Rattle.view_places.proofs.axes.is_small.Goals as goal

pub returns-then-are_limited : goal.returns-then-are_limited
returns-then-are_limited c =
    let most : c.from.result ≡ 2 ^ 22 = omega arith in
    ap (leb c.element_count_of.result) most ∙
    small-is c.args.extent.now c.element_count_of.result (sym c.are_limited.ensures ∙ c.if-are_limited.true)
    c.element_count_of.ensures

use Rattle.std.proofs.Common.{◌∙◌, ap, sym, ℕ, List, length}
use Rattle.std.proofs.lemmas.List.FromFn.{length-range_with_len}
use Rattle.view_places.specs.Arrays.{element_count}
use Rattle.view_places.specs.Shape.{extents}
use Rattle.array_ops.proofs.lists.spread_count.Goals as goal

pub returns : goal.returns
returns c =
    c.by_rows-2.ensures.count ∙ ap element_count (sym c.same_extents.ensures) ∙ sym c.by_rows.ensures.count ∙
    ap (λ (xs : List ℕ). length xs) c.whole-whole.ensures.places ∙
    length-range_with_len 0 (element_count (extents c.args.shape.now))

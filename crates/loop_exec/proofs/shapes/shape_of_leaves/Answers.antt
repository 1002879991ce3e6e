use Rattle.std.proofs.Common.{◌∙◌, ap, sym, map}
use Rattle.std.specs.List.{list_all}
use Rattle.std.proofs.lemmas.Result.{IfOk-weaker}
use Rattle.array_ops.specs.Elements.{spreads_to}
use Rattle.view_places.specs.Shape.{extents}
use Rattle.loop_exec.proofs.ShapeLemmas.{all_spread}
use Rattle.loop_exec.proofs.shapes.shape_of_leaves.Goals as goal

pub returns-clause-spread : goal.returns-clause-spread
returns-clause-spread c =
    IfOk-weaker c.broadcast_all.result _ _ (λ shape spread.
    ap (list_all (λ from. spreads_to from (extents shape)))
    (sym c.in_ok-shapes_of_leaves.ensures.extents ∙ ap (map extents) (sym c.as_slice.ensures.value)) ∙
    all_spread (extents shape) c.as_slice.result.now spread) c.broadcast_all.ensures.spreads

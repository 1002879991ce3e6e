use Rattle.std.proofs.Common.{◌≡◌, map, arith, rules, sym, ◌∙◌, Some, None}
use Rattle.view_places.specs.Arrays.{extent_back}
use Rattle.view_places.specs.Shape.{extents}
use Rattle.view_places.proofs.OneDimension.{joining-one, met-next, met-apart, met-all}
use Rattle.view_places.proofs.aligned.extent_of_all.Goals as goal

pub returns-in_err-one : goal.returns-in_err-one
returns-in_err-one c =
    let met : c.joined_extent.result ≡ None = search rules in
    c.from_residual.ensures ∙
    sym (met-apart extents c.args.back c.args.shapes.now c.loop-shape.shape-index _ c.loop-shape-test.true
    c.loop-shape.one c.extent_back.result c.extent_back.ensures (sym c.joined_extent.ensures ∙ met)) ∙
    c.loop-shape.invariant ∙ joining-one (map (extent_back c.args.back) (map extents c.args.shapes.now))

pub loop-shape-preserved : goal.loop-shape-preserved
loop-shape-preserved c =
    let met : c.joined_extent.result ≡ Some c.in_ok-one.one = search rules in
    sym (met-next extents c.args.back c.args.shapes.now c.loop-shape.shape-index _ c.loop-shape-test.true
    c.loop-shape.one c.extent_back.result c.extent_back.ensures c.in_ok-one.one (sym c.joined_extent.ensures ∙ met)) ∙
    c.loop-shape.invariant

pub returns : goal.returns
returns c =
    met-all extents c.args.back c.args.shapes.now c.loop-shape.shape-index (omega arith) c.loop-shape.one ∙
    c.loop-shape.invariant ∙ joining-one (map (extent_back c.args.back) (map extents c.args.shapes.now))

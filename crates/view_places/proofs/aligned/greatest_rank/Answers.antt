use Rattle.std.proofs.Common.{arith, ◌∙◌}
use Rattle.view_places.specs.Shape.{extents}
use Rattle.view_places.proofs.OneDimension.{rank-next, rank-all}
use Rattle.view_places.proofs.aligned.greatest_rank.Goals as goal

pub loop-shape-preserved : goal.loop-shape-preserved
loop-shape-preserved c = record {
  greatest =
      rank-next extents c.args.shapes.now c.loop-shape.shape-index _ c.loop-shape-test.true c.loop-shape.rank
      c.rank_of.result c.greater-rank.result c.rank_of.ensures.value c.greater-rank.ensures ∙
      c.loop-shape.invariant.greatest;
  few = omega (arith, c.loop-shape.invariant.few, c.rank_of.ensures.few);
}

pub returns-clause-value : goal.returns-clause-value
returns-clause-value c =
    rank-all extents c.args.shapes.now c.loop-shape.shape-index (omega arith) c.loop-shape.rank ∙
    c.loop-shape.invariant.greatest

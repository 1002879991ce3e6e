use Rattle.std.proofs.Common.{◌≡◌, ℕ, ◌-◌, ◌++◌, map, get_or, take, replicate, set, arith, rules, sym, ap, ◌∙◌}
use Rattle.std.proofs.Common.{Some, None}
use Rattle.view_places.specs.Arrays.{extent_back, proper_extents}
use Rattle.view_places.specs.Alignment.{all_fit, one_extent}
use Rattle.view_places.specs.Shape.{extents}
use Rattle.view_places.proofs.Broadcasts.{aligned}
use Rattle.view_places.proofs.Joins.{joined-none, joined-fits, joined-extent, joined-all, joined-front, joined-unused}
use Rattle.view_places.proofs.aligned.joined_shape.Goals as goal

pub returns-in_err-extent-clause-apart : goal.returns-in_err-extent-clause-apart
returns-in_err-extent-clause-apart c =
    let met : None ≡ one_extent (map (extent_back (c.greatest_rank-rank.result - 1 - c.loop-axis.axis))
    (map extents c.args.shapes.now)) = search rules in
    rw c.from_residual.ensures
    (joined-none (map extents c.args.shapes.now) c.greatest_rank-rank.result c.greatest_rank-rank.ensures.value
    c.loop-axis.axis (omega arith) met)

pub loop-axis-preserved : goal.loop-axis-preserved
loop-axis-preserved c =
    let met : Some c.in_ok-extent.field-0 ≡
    one_extent (map (extent_back (c.greatest_rank-rank.result - 1 - c.loop-axis.axis))
    (map extents c.args.shapes.now)) = search rules in
    record {
      built =
          ap (λ (i : ℕ). set c.loop-axis.extent i c.in_ok-extent.field-0) c.from.ensures ∙
          joined-extent (map extents c.args.shapes.now) c.greatest_rank-rank.result c.greatest_rank-rank.ensures.value
          c.loop-axis.axis (omega arith) c.in_ok-extent.field-0 met c.loop-axis.extent c.greatest_rank-rank.ensures.few
          c.loop-axis.invariant.built;
      fits =
          joined-fits (map extents c.args.shapes.now) c.greatest_rank-rank.result c.greatest_rank-rank.ensures.value
          c.loop-axis.axis (omega arith) c.in_ok-extent.field-0 met c.loop-axis.invariant.fits;
    }

pub returns-clause-fits : goal.returns-clause-fits
returns-clause-fits c =
    let done : c.loop-axis.axis ≡ c.greatest_rank-rank.result = omega arith in
    joined-all (map extents c.args.shapes.now) c.greatest_rank-rank.result c.greatest_rank-rank.ensures.value
    (ap (λ (i : ℕ). all_fit (map extents c.args.shapes.now) (take i (aligned c.greatest_rank-rank.result))) (sym done) ∙
    c.loop-axis.invariant.fits)

pub returns-clause-extents : goal.returns-clause-extents
returns-clause-extents c =
    let done : c.loop-axis.axis ≡ c.greatest_rank-rank.result = omega arith in
    joined-front (map extents c.args.shapes.now) c.greatest_rank-rank.result c.greatest_rank-rank.ensures.value
    c.loop-axis.extent
    (c.loop-axis.invariant.built ∙
    ap (λ (i : ℕ). map (λ (k : ℕ). get_or (proper_extents k (map extents c.args.shapes.now)) 0 1)
    (take i (aligned c.greatest_rank-rank.result)) ++ replicate (4 - i) 1) done)

pub returns-clause-shape : goal.returns-clause-shape
returns-clause-shape c =
    let done : c.loop-axis.axis ≡ c.greatest_rank-rank.result = omega arith in
    record {
      rank = c.greatest_rank-rank.ensures.few;
      unused =
          joined-unused (map extents c.args.shapes.now) c.greatest_rank-rank.result c.greatest_rank-rank.ensures.value
          c.loop-axis.extent
          (c.loop-axis.invariant.built ∙
          ap (λ (i : ℕ). map (λ (k : ℕ). get_or (proper_extents k (map extents c.args.shapes.now)) 0 1)
          (take i (aligned c.greatest_rank-rank.result)) ++ replicate (4 - i) 1) done);
    }

use Rattle.std.proofs.Common.{◌≡◌, ◌-◌, map, take, sym, ◌∙◌, true, false}
use Rattle.view_places.specs.Arrays.{is_small}
use Rattle.view_places.specs.Shape.{extents}
use Rattle.view_places.proofs.Joins.{small-four, broadcast-ok, broadcast-limit}
use Rattle.view_places.proofs.Spreading.{all-spread}
use Rattle.view_places.proofs.aligned.broadcast_all.Goals as goal

pub returns-then-is_small-clause-value : goal.returns-then-is_small-clause-value
returns-then-is_small-clause-value c =
    let small : is_small (take c.in-Some.shape.rank c.in-Some.shape.extent) ≡ true =
    sym (small-four c.in-Some.shape.rank
    (4 - c.in-Some.shape.rank) c.in-Some.shape.extent c.in-Some.ensures.shape.unused) ∙
    sym c.is_small.ensures ∙ c.if-is_small.true in
    broadcast-ok (map extents c.args.shapes.now) (take c.in-Some.shape.rank c.in-Some.shape.extent)
    c.in-Some.ensures.fits c.in-Some.ensures.extents small

pub returns-then-is_small-clause-spreads : goal.returns-then-is_small-clause-spreads
returns-then-is_small-clause-spreads c =
    let small : is_small (take c.in-Some.shape.rank c.in-Some.shape.extent) ≡ true =
    sym (small-four c.in-Some.shape.rank
    (4 - c.in-Some.shape.rank) c.in-Some.shape.extent c.in-Some.ensures.shape.unused) ∙
    sym c.is_small.ensures ∙ c.if-is_small.true in
    all-spread extents c.args.shapes.now (take c.in-Some.shape.rank c.in-Some.shape.extent)
    c.in-Some.ensures.fits c.in-Some.ensures.extents small

pub returns-else-is_small-clause-fault : goal.returns-else-is_small-clause-fault
returns-else-is_small-clause-fault c =
    let small : is_small (take c.in-Some.shape.rank c.in-Some.shape.extent) ≡ false =
    sym (small-four c.in-Some.shape.rank
    (4 - c.in-Some.shape.rank) c.in-Some.shape.extent c.in-Some.ensures.shape.unused) ∙
    sym c.is_small.ensures ∙ c.if-is_small.false in
    broadcast-limit (map extents c.args.shapes.now) (take c.in-Some.shape.rank c.in-Some.shape.extent)
    c.in-Some.ensures.fits c.in-Some.ensures.extents small

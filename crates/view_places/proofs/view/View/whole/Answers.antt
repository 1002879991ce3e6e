use Rattle.std.proofs.Common.{◌≡◌, ◌-◌, ◌^◌, ◌≤◌, List, take, arith, sym, subst, ◌∙◌, ℤ, pos}
use Rattle.view_places.specs.Arrays.{element_count}
use Rattle.view_places.specs.Strides.{LeadsWithin, LeadsApart}
use Rattle.view_places.proofs.PartLemmas.{small_count}
use Rattle.view_places.proofs.Shapes.{count-take, whole-within, whole-apart, whole-places}
use Rattle.view_places.proofs.view.View.whole.Goals as goal

pub overflow_cast-element_count_of : goal.overflow_cast-element_count_of
overflow_cast-element_count_of c =
    let count : element_count c.args.shape.now.extent ≡
    element_count (take c.args.shape.now.rank c.args.shape.now.extent) =
    count-take c.args.shape.now.rank (4 - c.args.shape.now.rank) c.args.shape.now.extent c.requires.shape.unused in
    let few : element_count (take c.args.shape.now.rank c.args.shape.now.extent) ≤ 2 ^ 22 =
    small_count (take c.args.shape.now.rank c.args.shape.now.extent) c.requires.small in
    omega (arith, count, few, c.element_count_of.ensures)

pub view-requires-clause-shape : goal.view-requires-clause-shape
view-requires-clause-shape c = record
    { rank_fits = c.requires.shape.rank; unused = c.requires.shape.unused; small = c.requires.small }

pub view-requires-clause-within : goal.view-requires-clause-within
view-requires-clause-within c =
    let count : element_count c.args.shape.now.extent ≡
    element_count (take c.args.shape.now.rank c.args.shape.now.extent) =
    count-take c.args.shape.now.rank (4 - c.args.shape.now.rank) c.args.shape.now.extent c.requires.shape.unused in
    subst (λ (ss : List ℤ). LeadsWithin c.element_count_of.result (take c.args.shape.now.rank c.args.shape.now.extent)
    (pos 0) ss) (sym c.row_major-stride.ensures)
    (whole-within c.args.shape.now.rank
    (4 - c.args.shape.now.rank) c.element_count_of.result c.args.shape.now.extent c.requires.shape.unused
    (c.element_count_of.ensures ∙ count))

pub view-requires-clause-apart : goal.view-requires-clause-apart
view-requires-clause-apart c =
    subst (λ (ss : List ℤ). LeadsApart (take c.args.shape.now.rank c.args.shape.now.extent) (pos 0) ss)
    (sym c.row_major-stride.ensures) (whole-apart c.args.shape.now.rank
    (4 - c.args.shape.now.rank) c.args.shape.now.extent c.requires.shape.unused)

pub returns-clause-length : goal.returns-clause-length
returns-clause-length c =
    c.view.ensures.length ∙ c.element_count_of.ensures ∙
    count-take c.args.shape.now.rank (4 - c.args.shape.now.rank) c.args.shape.now.extent c.requires.shape.unused

pub returns-clause-places : goal.returns-clause-places
returns-clause-places c = c.view.ensures.places ∙
    whole-places c.args.shape.now.rank
    (4 - c.args.shape.now.rank) c.args.shape.now.extent c.row_major-stride.result c.requires.shape.unused
    c.row_major-stride.ensures

use Rattle.std.proofs.Common.{arith, rules, ◌∙◌}
use Rattle.std.proofs.lemmas.Int.{ints}
use Rattle.view_places.proofs.PartLemmas.{ranks-fit}
use Rattle.view_places.proofs.Operations.{spread_view-within, spread_view-places}
use Rattle.view_places.proofs.view.View.spread_to.Goals as goal

pub overflow_sub-shape : goal.overflow_sub-shape
overflow_sub-shape c = ranks-fit c.args.self.now.rank c.args.shape.now.rank c.args.self.now.extent
    c.args.shape.now.extent (search rules)
    (search rules) c.args.self.now.shape.rank_fits c.requires.shape.rank c.requires.fits.rank

pub spread-requires-clause-shape : goal.spread-requires-clause-shape
spread-requires-clause-shape c = record
    { rank_fits = c.requires.shape.rank; unused = c.requires.shape.unused; small = c.requires.small }

pub spread-requires-clause-within : goal.spread-requires-clause-within
spread-requires-clause-within c = spread_view-within c.args.self.now.rank c.args.shape.now.rank c.args.self.now.length
    c.args.self.now.extent c.args.shape.now.extent c.args.self.now.offset _ c.args.self.now.stride
    c.widened-stride.result c.args.self.now.shape (search rules) (search rules) c.requires.shape.rank
    c.args.self.now.settled.still c.requires.fits (c.widened-stride.ensures ∙ c.shifted-stride.ensures)
    (omega (arith, ints)) c.args.self.now.within

pub returns-clause-places : goal.returns-clause-places
returns-clause-places c = c.spread.ensures.places ∙
    spread_view-places c.args.self.now.rank c.args.shape.now.rank c.args.self.now.length c.args.self.now.extent
    c.args.shape.now.extent c.args.self.now.offset _ c.args.self.now.stride c.widened-stride.result
    c.args.self.now.shape (search rules) (search rules) c.requires.shape.rank
    c.args.self.now.settled.still c.requires.fits (c.widened-stride.ensures ∙ c.shifted-stride.ensures)
    (omega (arith, ints))

use Rattle.std.proofs.Common.{arith, rules, refl, ◌∙◌}
use Rattle.std.proofs.lemmas.Int.{ints}
use Rattle.view_places.proofs.Operations.{turned-shape, turned-extents, turned-within, turned-apart, turned-places}
use Rattle.view_places.proofs.view.View.transpose.Goals as goal

pub view-requires-clause-shape : goal.view-requires-clause-shape
view-requires-clause-shape c = turned-shape c.args.self.now.rank c.args.self.now.length c.args.self.now.extent
    c.reversed-extent.result c.args.self.now.offset c.args.self.now.offset c.args.self.now.stride
    c.widened-stride.result c.args.self.now.shape (search rules) (search rules)
    c.reversed-extent.ensures (c.widened-stride.ensures ∙ c.reversed-stride.ensures) refl

pub view-requires-clause-within : goal.view-requires-clause-within
view-requires-clause-within c = turned-within c.args.self.now.rank c.args.self.now.length c.args.self.now.extent
    c.reversed-extent.result c.args.self.now.offset _ c.args.self.now.stride c.widened-stride.result
    c.args.self.now.shape (search rules) (search rules)
    c.reversed-extent.ensures (c.widened-stride.ensures ∙ c.reversed-stride.ensures)
    (omega (arith, ints)) c.args.self.now.within

pub view-requires-clause-apart : goal.view-requires-clause-apart
view-requires-clause-apart c = turned-apart c.args.self.now.rank c.args.self.now.length c.args.self.now.extent
    c.reversed-extent.result c.args.self.now.offset _ c.args.self.now.stride c.widened-stride.result
    c.args.self.now.shape (search rules) (search rules)
    c.reversed-extent.ensures (c.widened-stride.ensures ∙ c.reversed-stride.ensures)
    (omega (arith, ints)) c.args.self.now.apart

pub returns : goal.returns
returns c = record {
  buffer = c.view.ensures.buffer;
  length = c.view.ensures.length;
  extents = c.view.ensures.extents ∙
      turned-extents c.args.self.now.rank c.args.self.now.length c.args.self.now.extent c.reversed-extent.result
      c.args.self.now.offset c.args.self.now.offset c.args.self.now.stride c.widened-stride.result
      c.args.self.now.shape (search rules) (search rules)
      c.reversed-extent.ensures (c.widened-stride.ensures ∙ c.reversed-stride.ensures) refl;
  places = c.view.ensures.places ∙ turned-places c.args.self.now.rank c.args.self.now.length c.args.self.now.extent
      c.reversed-extent.result c.args.self.now.offset _ c.args.self.now.stride c.widened-stride.result
      c.args.self.now.shape (search rules) (search rules)
      c.reversed-extent.ensures (c.widened-stride.ensures ∙ c.reversed-stride.ensures) (omega (arith, ints));
}

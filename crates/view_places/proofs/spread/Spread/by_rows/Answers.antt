use Rattle.std.proofs.Common.{◌-◌, take, rules, sym, ◌∙◌}
use Rattle.view_places.proofs.Distinct.{length-places, places-below}
use Rattle.view_places.proofs.RowLemmas.{rows-led}
use Rattle.view_places.proofs.Shapes.{count-take}
use Rattle.view_places.proofs.spread.Spread.by_rows.Goals as goal

pub returns-clause-count : goal.returns-clause-count
returns-clause-count c =
    length-places (take c.args.self.now.rank c.args.self.now.extent) c.args.self.now.offset c.args.self.now.stride ∙
    sym (count-take c.args.self.now.rank (4 - c.args.self.now.rank) c.args.self.now.extent c.args.self.now.shape.unused)

pub returns-clause-within : goal.returns-clause-within
returns-clause-within c =
    places-below c.args.self.now.length (take c.args.self.now.rank c.args.self.now.extent) c.args.self.now.offset
    c.args.self.now.stride c.args.self.now.within

pub returns-clause-places : goal.returns-clause-places
returns-clause-places c =
    rows-led c.args.self.now.rank c.args.self.now.length c.args.self.now.extent c.args.self.now.offset
    c.args.self.now.stride
    c.args.self.now.shape (search rules) (search rules) c.args.self.now.within

use Rattle.std.proofs.Common.{take}
use Rattle.view_places.proofs.Distinct.{length-places, places-below, places-distinct}
use Rattle.view_places.proofs.view.View.places_are_distinct.Goals as goal

pub returns-clause-count : goal.returns-clause-count
returns-clause-count c = length-places
    (take c.args.self.now.rank c.args.self.now.extent) c.args.self.now.offset c.args.self.now.stride

pub returns-clause-within : goal.returns-clause-within
returns-clause-within c = places-below c.args.self.now.length
    (take c.args.self.now.rank c.args.self.now.extent) c.args.self.now.offset c.args.self.now.stride
    c.args.self.now.within

pub returns-clause-distinct : goal.returns-clause-distinct
returns-clause-distinct c = places-distinct c.args.self.now.length
    (take c.args.self.now.rank c.args.self.now.extent) c.args.self.now.offset c.args.self.now.stride
    c.args.self.now.within c.args.self.now.apart

use Rattle.std.proofs.Common.{rules}
use Rattle.view_places.proofs.OneView.{view-one}
use Rattle.view_places.proofs.view.View.same_places_make_one_view.Goals as goal

pub returns : goal.returns
returns c = view-one c.args.self.now c.args.other.now (search rules) (search rules) (search rules)
    (search rules) c.requires.buffer c.requires.length c.requires.extents c.requires.places

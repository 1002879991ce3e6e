use Rattle.std.proofs.Common.{rules}
use Rattle.view_places.proofs.OneView.{extents-one}
use Rattle.view_places.proofs.view.View.same_extents.Goals as goal

pub returns : goal.returns
returns c =
    (extents-one c.args.self.now.rank c.args.other.now.rank c.args.self.now.extent c.args.other.now.extent
    c.args.self.now.shape c.args.other.now.shape (search rules) (search rules) c.requires).1

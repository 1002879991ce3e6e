use Rattle.std.proofs.Common.{◌-◌, ◌∙◌}
use Rattle.view_places.proofs.Joins.{small-four}
use Rattle.view_places.proofs.shape.Shape.is_small.Goals as goal

pub returns : goal.returns
returns c =
    c.is_small.ensures ∙ small-four c.args.self.now.rank
    (4 - c.args.self.now.rank) c.args.self.now.extent c.requires.unused

use Rattle.std.specs.Cmp.Rules.{signed_items}
use Rattle.std.proofs.Common.{int_eq}
use Rattle.std.proofs.lemmas.Bool.Decides.{Decides-at}
use lib.Pointwise.{pointwise}
use Rattle.view_places.proofs.axes.are_same.Goals as goal

pub returns : goal.returns
returns c = Decides-at c.eq.result (pointwise int_eq c.args.first.now c.args.second.now) c.eq.ensures
    (signed_items c.args.first.now c.args.second.now)

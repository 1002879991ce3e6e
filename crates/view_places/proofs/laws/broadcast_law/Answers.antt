use Rattle.view_places.proofs.OwnShapes.{each_spreads, own_broadcast, own_spread}
use Rattle.view_places.proofs.laws.broadcast_law.Goals as goal

pub returns : goal.returns
returns c = record { each = each_spreads; alone = own_broadcast; itself = own_spread }

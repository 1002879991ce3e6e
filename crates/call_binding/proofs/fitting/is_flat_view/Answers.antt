use Rattle.view_places.specs.View.{places}
use Rattle.call_binding.proofs.Consecutive.{flat_is}
use Rattle.call_binding.proofs.fitting.is_flat_view.Goals as goal

pub returns : goal.returns
returns c = flat_is c.is_contiguous.result (places c.args.view.now) c.is_contiguous.ensures

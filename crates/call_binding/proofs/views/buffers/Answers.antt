use Rattle.std.proofs.Common.{arith}
use Rattle.call_binding.specs.Views.{buffer_of}
use Rattle.call_binding.proofs.Lists.{filter_more}
use Rattle.call_binding.proofs.views.buffers.Goals as goal

pub loop-item-preserved : goal.loop-item-preserved
loop-item-preserved c =
    filter_more buffer_of c.args.items.now c.loop-item.item-index c.item-item.result (omega arith) c.item-item.is _ _
    c.loop-item.invariant c.in_ok-push_array.ensures

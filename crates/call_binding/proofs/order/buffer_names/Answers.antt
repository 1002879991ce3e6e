use Rattle.std.proofs.Common.{arith}
use Rattle.call_binding.specs.Tests.{buffer_name}
use Rattle.call_binding.proofs.Lists.{filter_more}
use Rattle.call_binding.proofs.order.buffer_names.Goals as goal

pub loop-item-preserved : goal.loop-item-preserved
loop-item-preserved c =
    filter_more buffer_name c.args.items.now c.loop-item.item-index c.item-item.result (omega arith) c.item-item.is _
    _ c.loop-item.invariant c.in_ok-push_name.ensures

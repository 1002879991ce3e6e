use Rattle.std.proofs.Common.{arith, map}
use Rattle.call_binding.specs.Binding.{passed_by}
use Rattle.call_binding.specs.Seen.{named}
use Rattle.call_binding.proofs.Lists.{filter_more}
use Rattle.call_binding.proofs.fitting.all_passed.Goals as goal

pub loop-item-preserved : goal.loop-item-preserved
loop-item-preserved c =
    filter_more (passed_by (map named c.args.buffers.now)) c.args.items.now c.loop-item.item-index c.item-item.result
    (omega arith) c.item-item.is _ _ c.loop-item.invariant c.in_ok-push_passed.ensures

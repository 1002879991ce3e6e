use Rattle.std.proofs.Common.{◌≡◌, map, take}
use Rattle.call_binding.specs.Tests.{buffer_names}
use Rattle.call_binding.proofs.order.buffer_names.Given as goal

abbrev pub invariant-loop-item : goal.invariant-loop-item
invariant-loop-item l = map (λ name. name.now) l.names.items ≡ buffer_names (take l.item-index l.items)

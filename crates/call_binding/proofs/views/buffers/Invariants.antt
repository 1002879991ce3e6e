use Rattle.std.proofs.Common.{◌≡◌, map, take}
use Rattle.call_binding.specs.Seen.{named}
use Rattle.call_binding.specs.Views.{buffers}
use Rattle.call_binding.proofs.views.buffers.Given as goal

abbrev pub invariant-loop-item : goal.invariant-loop-item
invariant-loop-item l = map named l.arrays.items ≡ buffers (take l.item-index l.items)

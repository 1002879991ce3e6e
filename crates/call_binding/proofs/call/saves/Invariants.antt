use Rattle.std.proofs.Common.{◌≡◌, map, take}
use Rattle.std.specs.List.{filter_map}
use Rattle.call_binding.specs.Binding.{save_by}
use Rattle.call_binding.specs.Seen.{named}
use Rattle.call_binding.proofs.call.saves.Given as goal

abbrev pub invariant-loop-item : goal.invariant-loop-item
invariant-loop-item l = l.saves.items ≡ filter_map (save_by (map named l.buffers)) (take l.item-index l.items)

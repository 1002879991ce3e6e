use Rattle.std.proofs.Common.{◌≡◌, map, take}
use Rattle.std.specs.List.{filter_map}
use Rattle.call_binding.specs.Binding.{passed_by}
use Rattle.call_binding.specs.Seen.{named, passed}
use Rattle.call_binding.proofs.fitting.all_passed.Given as goal

abbrev pub invariant-loop-item : goal.invariant-loop-item
invariant-loop-item l =
    map passed l.given.items ≡ filter_map (passed_by (map named l.buffers)) (take l.item-index l.items)

use Rattle.std.proofs.Common.{◌≡◌, ◌^◌, ◌-◌, min, take}
use Rattle.view_places.specs.Arrays.{element_count}
use Rattle.np_file.proofs.reading.bounded_count.Given as goal

abbrev pub invariant-loop-extent : goal.invariant-loop-extent
invariant-loop-extent l = l.count ≡ min (element_count (take l.extent-index l.extents)) (2 ^ 64 - 1)

use Rattle.std.proofs.Common.{◌≡◌, ◌^◌, nat_le, take, true}
use Rattle.std.specs.List.{list_all}
use Rattle.np_file.proofs.reading.are_extents_small.Given as goal

abbrev pub invariant-loop-extent : goal.invariant-loop-extent
invariant-loop-extent l = list_all (λ n. nat_le n (2 ^ 22)) (take l.extent-index l.extents) ≡ true

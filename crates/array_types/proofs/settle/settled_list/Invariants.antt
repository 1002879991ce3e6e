use Rattle.std.proofs.Common.{◌≡◌, take, map}
use Rattle.array_types.specs.Settle.{settled_pair}
use Rattle.array_types.proofs.settle.settled_list.Given as goal

abbrev pub invariant-loop-pair : goal.invariant-loop-pair
invariant-loop-pair l = l.list ≡ map (settled_pair l.numbers) (take l.pair-index l.pairs)

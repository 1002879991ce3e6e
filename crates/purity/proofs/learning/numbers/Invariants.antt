use Rattle.std.proofs.Common.{◌≡◌}
use Rattle.std.specs.List.{flat_map, range_with_len}
use Rattle.purity.specs.Knowledge.{number_when}
use Rattle.purity.proofs.learning.numbers.Given as goal

abbrev pub invariant-loop-number : goal.invariant-loop-number
invariant-loop-number l = l.numbers ≡ flat_map (number_when l.marks) (range_with_len 0 l.number)

use Rattle.std.proofs.Common.{◌≡◌, ◌++◌, length}
use Rattle.np_file.specs.Npy.{more_numbers}
use Rattle.np_file.proofs.writing.push_more_numbers.Given as goal

abbrev pub invariant-loop-rest : goal.invariant-loop-rest
invariant-loop-rest l = l.out.items ++ more_numbers l.rest ≡ l.fn.out.items ++ more_numbers l.fn.numbers

abbrev pub decreases-loop-rest : goal.decreases-loop-rest
decreases-loop-rest l = length l.rest

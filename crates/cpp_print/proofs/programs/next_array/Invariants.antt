use Rattle.std.proofs.Common.{◌≡◌, length}
use Rattle.cpp_print.specs.Programs.{is_array, names_of}
use Rattle.cpp_print.proofs.programs.next_array.Given as goal

abbrev pub decreases-loop-left : goal.decreases-loop-left
decreases-loop-left l = length l.left

-- the parameters so far give no name
abbrev pub invariant-loop-left : goal.invariant-loop-left
invariant-loop-left l = names_of is_array l.left ≡ names_of is_array l.params

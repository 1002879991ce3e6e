use Rattle.std.proofs.Common.{◌≡◌, ◌++◌, length, reverse}
use Rattle.cpp_print.proofs.front.Front.put.Given as goal

abbrev pub decreases-loop-left : goal.decreases-loop-left
decreases-loop-left l = length l.left

-- what is left and what is written are all of it
abbrev pub invariant-loop-left : goal.invariant-loop-left
invariant-loop-left l = l.left ++ reverse l.self-inside.bytes ≡ l.bytes ++ l.fn.self

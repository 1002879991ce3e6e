use Rattle.std.proofs.Common.{◌≡◌, length}
use Rattle.cpp_print.specs.Backwards.{written}
use Rattle.cpp_print.proofs.template.close.Given as goal

abbrev pub decreases-loop-operand : goal.decreases-loop-operand
decreases-loop-operand l = length l.operands

-- what is written so far comes to what it came to at first
abbrev pub invariant-loop-operand : goal.invariant-loop-operand
invariant-loop-operand l = written l.operands l.front ≡ written l.fn.operands l.fn.front

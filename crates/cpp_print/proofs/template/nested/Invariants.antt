use Rattle.std.proofs.Common.{◌≡◌, ◌-◌, length, take, []}
use Rattle.cpp_print.specs.Backwards.{all_before}
use Rattle.cpp_print.proofs.template.nested.Given as goal

-- the steps that are left, before what is written, come to what all come to
abbrev pub invariant-loop-k : goal.invariant-loop-k
invariant-loop-k l =
    all_before (take (length l.steps - l.k) l.steps) (l.operands, l.front) ≡ all_before l.steps ([], [])

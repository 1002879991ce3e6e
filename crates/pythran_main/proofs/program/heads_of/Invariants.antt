use Rattle.std.proofs.Common.{◌≡◌, map, take}
use Rattle.pythran_main.specs.Answer.{head_of}
use Rattle.pythran_main.proofs.program.heads_of.Given as goal

abbrev pub invariant-loop-number : goal.invariant-loop-number
invariant-loop-number l = l.heads.items ≡ map (head_of l.instances) (take l.number-index l.program.kernels)

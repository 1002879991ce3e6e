use Rattle.std.proofs.Common.{◌≡◌, map}
use Rattle.pythran_main.specs.Answer.{buffer_head}
use Rattle.pythran_main.proofs.answer.buffer_heads.Given as goal

-- the heads of the pairs so far
abbrev pub invariant-loop-name : goal.invariant-loop-name
invariant-loop-name l = l.heads.items ≡ map buffer_head (map (λ p. (p.0.now, p.1.now)) l.yielded)

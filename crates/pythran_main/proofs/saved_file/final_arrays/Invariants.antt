use Rattle.std.proofs.Common.{◌≡◌, map}
use Rattle.pythran_main.specs.Answer.{with_words}
use Rattle.pythran_main.proofs.saved_file.final_arrays.Given as goal

-- the arrays of the pairs so far
abbrev pub invariant-loop-array : goal.invariant-loop-array
invariant-loop-array l = l.finals.items ≡ map with_words (map (λ p. (p.0, p.1)) l.yielded)

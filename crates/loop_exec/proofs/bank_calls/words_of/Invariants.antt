use Rattle.std.proofs.Common.{◌≡◌, map, take}
use Rattle.loop_exec.proofs.bank_calls.words_of.Given as goal

-- the words of the buffers so far
abbrev pub invariant-loop-array : goal.invariant-loop-array
invariant-loop-array l = l.buffers ≡ map (λ a. a.words) (take l.array-index l.arrays)

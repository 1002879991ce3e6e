use Rattle.std.proofs.Common.{◌≡◌, take}
use Rattle.array_types.specs.Forms.{opers_in}
use Rattle.array_types.proofs.cores.opers_of.Given as goal

-- the operands so far
abbrev pub invariant-loop-v : goal.invariant-loop-v
invariant-loop-v l = l.opers ≡ opers_in (take l.v-index l.values)

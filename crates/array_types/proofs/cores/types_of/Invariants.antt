use Rattle.std.proofs.Common.{◌≡◌, take}
use Rattle.array_types.specs.Forms.{types_in}
use Rattle.array_types.proofs.cores.types_of.Given as goal

-- the types so far
abbrev pub invariant-loop-v : goal.invariant-loop-v
invariant-loop-v l = l.types ≡ types_in (take l.v-index l.values)

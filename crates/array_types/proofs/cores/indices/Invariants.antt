use Rattle.std.proofs.Common.{◌≡◌, take}
use Rattle.array_types.specs.Rows.{indices}
use Rattle.array_types.proofs.cores.indices.Given as goal

-- the integers so far
abbrev pub invariant-loop-sub : goal.invariant-loop-sub
invariant-loop-sub l = l.index ≡ indices (take l.sub-index l.subs)

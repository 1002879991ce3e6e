use Rattle.std.proofs.Common.{◌≡◌, map, take}
use Rattle.inline.specs.Tables.{held}
use Rattle.inline.proofs.counts.round.Given as goal

abbrev pub invariant-loop-f : goal.invariant-loop-f
invariant-loop-f l = l.counts ≡ map (held l.measure l.table) (take l.f-index l.instances)

use Rattle.std.proofs.Common.{◌≡◌}
use Rattle.inline.specs.Tables.{rounds}
use Rattle.inline.proofs.counts.counts.Given as goal

abbrev pub invariant-loop-level : goal.invariant-loop-level
invariant-loop-level l = l.table ≡ rounds l.measure l.instances l._level

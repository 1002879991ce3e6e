use Rattle.std.proofs.Common.{◌≡◌, take}
use Rattle.std.specs.List.{flat_map}
use Rattle.purity.specs.Uses.{written}
use Rattle.purity.proofs.rows.writes.Given as goal

abbrev pub invariant-loop-found : goal.invariant-loop-found
invariant-loop-found l = l.names ≡ flat_map written (take l.found-index l.uses)

use Rattle.std.proofs.Common.{◌≡◌, ℕ, take}
use Rattle.std.specs.List.{flat_map}
use Rattle.purity.specs.Marks.{row}
use Rattle.purity.specs.Uses.{given_as}
use Rattle.purity.proofs.rows.given.Given as goal

abbrev pub invariant-loop-found : goal.invariant-loop-found
invariant-loop-found l = (k : ℕ) → row l.rows.items k ≡ flat_map (given_as k) (take l.found-index l.uses)

use Rattle.std.proofs.Common.{◌≡◌, ◌++◌, drop}
use Rattle.inline.specs.Places.{targets}
use Rattle.inline.proofs.moves.targets.Given as goal

abbrev pub invariant-loop-at : goal.invariant-loop-at
invariant-loop-at l = l.list ++ targets (drop l.at l.types) (drop l.at l.names) ≡ targets l.types l.names

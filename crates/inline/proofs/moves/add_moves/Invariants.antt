use Rattle.std.proofs.Common.{◌≡◌, ◌++◌, drop}
use Rattle.inline.specs.Places.{moves}
use Rattle.inline.proofs.moves.add_moves.Given as goal

abbrev pub invariant-loop-at : goal.invariant-loop-at
invariant-loop-at l =
    l.body ++ moves (drop l.at l.targets) (drop l.at l.xs) ≡ l.fn.body ++ moves l.targets l.xs

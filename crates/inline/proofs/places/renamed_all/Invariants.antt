use Rattle.std.proofs.Common.{◌≡◌, map, take}
use Rattle.inline.specs.Places.{renamed}
use Rattle.inline.proofs.places.renamed_all.Given as goal

abbrev pub invariant-loop-x : goal.invariant-loop-x
invariant-loop-x l = l.list ≡ map (renamed l.place) (take l.x-index l.xs)

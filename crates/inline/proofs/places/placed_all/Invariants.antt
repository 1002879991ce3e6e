use Rattle.std.proofs.Common.{◌≡◌, map, take}
use Rattle.inline.specs.Places.{placed}
use Rattle.inline.proofs.places.placed_all.Given as goal

abbrev pub invariant-loop-name : goal.invariant-loop-name
invariant-loop-name l = l.list ≡ map (placed l.place) (take l.name-index l.names)

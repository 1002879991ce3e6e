use Rattle.std.proofs.Common.{◌≡◌, map, take}
use Rattle.inline.specs.Places.{renamed_pair}
use Rattle.inline.proofs.places.renamed_pair_list.Given as goal

abbrev pub invariant-loop-pair : goal.invariant-loop-pair
invariant-loop-pair l = l.list ≡ map (renamed_pair l.place) (take l.pair-index l.pairs)

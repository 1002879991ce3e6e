use Rattle.std.proofs.Common.{◌≡◌, map, take}
use Rattle.inline.specs.Places.{renamed_sub}
use Rattle.inline.proofs.places.renamed_subs.Given as goal

abbrev pub invariant-loop-sub : goal.invariant-loop-sub
invariant-loop-sub l = l.list ≡ map (renamed_sub l.place) (take l.sub-index l.subs)

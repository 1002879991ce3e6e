use Rattle.std.proofs.Common.{take}
use Rattle.export_sig.specs.Listing.{HoldsPlaces}
use Rattle.export_sig.proofs.loops.places.Given as goal

abbrev pub invariant-loop-place : goal.invariant-loop-place
invariant-loop-place l = HoldsPlaces (take l.place-index l.list) l.set.keys

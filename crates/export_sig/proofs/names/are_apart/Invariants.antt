use Rattle.std.proofs.Common.{◌≡◌, [], drop, map}
use Rattle.export_sig.specs.Listing.{are_apart, texts}
use Rattle.export_sig.proofs.names.are_apart.Given as goal

abbrev pub invariant-loop-pair : goal.invariant-loop-pair
invariant-loop-pair l = are_apart (map (λ k. k.now) l.seen.keys) (texts (drop l.pair-index l.pairs)) ≡ are_apart []
    (texts l.pairs)

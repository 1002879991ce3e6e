use Rattle.std.proofs.Common.{map, [], ℕ, ◌+◌, List, Bor, ◌∙◌, ap, drop}
use Rattle.export_sig.specs.Listing.{are_apart, texts}
use Rattle.export_sig.proofs.Sets.{stands_twice, goes_on, flipped, kept, kept_keys}
use Rattle.export_sig.proofs.names.are_apart.Goals as goal

pub returns-then-not-branch : goal.returns-then-not-branch
returns-then-not-branch c =
    stands_twice (λ (x : Bor (List ℕ)). x.now) c.args.pairs.now c.loop-pair.pair-index c.pair-item.result
    c.loop-pair.seen.keys c.as_slice.result
    (are_apart [] (texts c.args.pairs.now)) c.loop-pair-test.true c.pair-item.is c.as_slice.ensures
    c.loop-pair.invariant
    (flipped c.in_ok-insert.field-0 _ c.in_ok-insert.ensures.added c.if-not-branch.true)

pub loop-pair-preserved : goal.loop-pair-preserved
loop-pair-preserved c =
    let new = kept c.in_ok-insert.field-0 _ c.in_ok-insert.ensures.added c.if-not-branch.false in
    ap (λ (keys : List (Bor (List ℕ))). are_apart (map (λ k. k.now) keys) (texts (drop (c.loop-pair.pair-index + 1)
    c.args.pairs.now)))
    (c.in_ok-insert.ensures.keys ∙ kept_keys _ _ _ new)
    ∙ goes_on (λ (x : Bor (List ℕ)). x.now) c.args.pairs.now c.loop-pair.pair-index c.pair-item.result
    c.loop-pair.seen.keys c.as_slice.result
    (are_apart [] (texts c.args.pairs.now)) c.loop-pair-test.true c.pair-item.is c.as_slice.ensures
    c.loop-pair.invariant new

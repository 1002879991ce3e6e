use Rattle.std.proofs.Common.{◌≡◌, ◌++◌, map, take}
use Rattle.const_fold.proofs.tallies.add_pairs.Given as goal

abbrev pub invariant-loop-pair : goal.invariant-loop-pair
invariant-loop-pair l = l.list ≡ l.fn.list ++ map (λ p. p.1) (take l.pair-index l.pairs)

use Rattle.std.proofs.Common.{◌≡◌, ℕ, drop, option_map, slice_get}
use Rattle.const_fold.specs.Folded.{times}
use Rattle.const_fold.specs.Tallies.{after}
use Rattle.const_fold.proofs.tallies.count_all.Given as goal

abbrev pub invariant-loop-name : goal.invariant-loop-name
invariant-loop-name l = (k : ℕ) →
    option_map (after (times k (drop l.name-index l.names))) (slice_get l.table.items k) ≡
    option_map (after (times k l.names)) (slice_get l.fn.table.items k)

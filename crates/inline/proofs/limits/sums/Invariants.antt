use Rattle.std.proofs.Common.{◌≡◌, ◌++◌, drop}
use Rattle.inline.specs.Tables.{held_sums}
use Rattle.inline.proofs.limits.sums.Given as goal

-- the sums so far, and those of the counts that are left
abbrev pub invariant-loop-count : goal.invariant-loop-count
invariant-loop-count l =
    l.sums ++ held_sums l.so_far (drop l.count-index l.counts) ≡ held_sums 0 l.counts

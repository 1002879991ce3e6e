use Rattle.std.proofs.Common.{◌≡◌, ◌+◌, ◌-◌, ◌≤◌, ℕ, length}
use Rattle.purity.specs.Marks.{row}
use Rattle.purity.proofs.rows.grow.Given as goal

abbrev pub invariant-more : goal.invariant-more
invariant-more l = record {
  longer : length l.fn.rows.items ≤ length l.rows.items;
  same : (k : ℕ) → row l.rows.items k ≡ row l.fn.rows.items k;
}

abbrev pub decreases-more : goal.decreases-more
decreases-more l = l.number + 1 - length l.rows.items

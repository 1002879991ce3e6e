use Rattle.std.proofs.Common.{◌≡◌, ◌<◌, ℕ, length}
use Rattle.purity.specs.Knowledge.{AreSources}
use Rattle.purity.specs.Marks.{row}
use Rattle.purity.proofs.learning.all_sources.Given as goal

abbrev pub invariant-loop-names : goal.invariant-loop-names
invariant-loop-names l = record {
  count : length l.all ≡ l.names-index;
  each : (k : ℕ) → k < l.names-index → AreSources l.rows (row l.values k) l.params (row l.all k);
}

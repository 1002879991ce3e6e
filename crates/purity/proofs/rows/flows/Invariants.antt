use Rattle.std.proofs.Common.{◌≡◌, ◌≤◌, ℕ, length, take}
use Rattle.std.specs.List.{flat_map}
use Rattle.purity.specs.Marks.{row}
use Rattle.purity.specs.Uses.{flow_into}
use Rattle.purity.proofs.rows.flows.Given as goal

abbrev pub invariant-loop-found : goal.invariant-loop-found
invariant-loop-found l = record {
  count : l.params ≤ length l.rows.items;
  rows : (k : ℕ) → row l.rows.items k ≡ flat_map (flow_into k) (take l.found-index l.uses);
}

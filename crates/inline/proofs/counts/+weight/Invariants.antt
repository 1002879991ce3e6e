use Rattle.std.proofs.Common.{◌≡◌, ◌+◌, ◌≤◌, drop, min}
use Rattle.inline.specs.Counts.{called_weight}
use Rattle.inline.specs.Tables.{in_table}
use Rattle.inline.proofs.counts.+weight.Given as goal

-- what is left of the block weighs, with what was summed, what the block weighs
abbrev pub invariant-called_in-loop-core : goal.invariant-called_in-loop-core
invariant-called_in-loop-core l = record {
  held : l.sum ≤ 20001;
  left : min 20001 (l.sum + called_weight (in_table l.table) (drop l.core-index l.block)) ≡
      min 20001 (called_weight (in_table l.table) l.block);
}

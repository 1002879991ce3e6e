use Rattle.std.proofs.Common.{◌≡◌, ◌≤◌, drop, max, min}
use Rattle.inline.specs.Counts.{block_depth}
use Rattle.inline.specs.Tables.{in_table}
use Rattle.inline.proofs.counts.+depth.Given as goal

-- the deepest so far and what is left of the block are as deep as the block
abbrev pub invariant-depth_in-loop-core : goal.invariant-depth_in-loop-core
invariant-depth_in-loop-core l = record {
  held : l.deepest ≤ 129;
  left : min 129 (max l.deepest (block_depth (in_table l.table) (drop l.core-index l.block))) ≡
      min 129 (block_depth (in_table l.table) l.block);
}

use Rattle.std.proofs.Common.{◌≡◌, ◌++◌, ◌+◌, ◌*◌, drop, length, map, max}
use denote.Param.Weighed.{most}
use Rattle.eager_rules.specs.declared.program.Core.{size-Core}
use Rattle.lazy_expr.specs.Plain.{in_turn, plain_of}
use Rattle.lazy_expr.proofs.lower.+lower.Given as goal

-- what is left of the block becomes, behind what there is, what the block becomes
abbrev pub invariant-lower_block-loop-core : goal.invariant-lower_block-loop-core
invariant-lower_block-loop-core l = record {
  body : l.body ++ (in_turn (map (plain_of l.names l.table) (drop l.core-index l.block)) (length l.views)).body ≡
      (in_turn (map (plain_of l.names l.table) l.block) (length l.fn.views)).body;
  views : l.views ++ (in_turn (map (plain_of l.names l.table) (drop l.core-index l.block)) (length l.views)).fresh ≡
      l.fn.views ++ (in_turn (map (plain_of l.names l.table) l.block) (length l.fn.views)).fresh;
}

-- each function between a statement and those of its blocks has a rank
abbrev pub decreases-lower : goal.decreases-lower
decreases-lower l = 3 * goal.size-lower l

abbrev pub decreases-lower_block : goal.decreases-lower_block
decreases-lower_block l = 3 * goal.size-lower_block l + 1

abbrev pub decreases-lower_if : goal.decreases-lower_if
decreases-lower_if l = 3 * max (most size-Core l.yes.now) (most size-Core l.no.now) + 2

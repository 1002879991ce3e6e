use Rattle.std.proofs.Common.{◌≡◌, ◌<◌, ◌+◌, drop, length}
use Rattle.eager_rules.specs.Sound.{shape_of_body}
use Rattle.array_types.specs.Shapes.{shape_seen}
use Rattle.array_types.proofs.shape.+shape.Given as goal

-- where the statements from here on return
abbrev pub invariant-of_block-loop-left : goal.invariant-of_block-loop-left
invariant-of_block-loop-left l = record {
  within : l.left < length l.block;
  shape : shape_seen l.end ≡ shape_of_body (drop l.left l.block);
}

abbrev pub decreases-of_block-loop-left : goal.decreases-of_block-loop-left
decreases-of_block-loop-left l = l.left

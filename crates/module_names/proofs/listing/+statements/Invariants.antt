use Rattle.std.proofs.Common.{◌≡◌, ◌++◌, ◌+◌, ◌*◌, drop, flat_map}
use Rattle.module_names.specs.Listing.{arm_nodes, block_nodes}
use Rattle.module_names.specs.Seen.{listed}
use Rattle.module_names.proofs.Weights.{weight, block_weight, arms_weight}
use Rattle.module_names.proofs.listing.+statements.Given as goal

abbrev pub decreases-list_stmt : goal.decreases-list_stmt
decreases-list_stmt l = 4 * weight l.statement.now + 1

abbrev pub decreases-list_parts : goal.decreases-list_parts
decreases-list_parts l = 4 * weight l.statement.now

abbrev pub decreases-list_if : goal.decreases-list_if
decreases-list_if l = 4 * (arms_weight l.arms.now + block_weight l.otherwise.now) + 3

abbrev pub decreases-list_arms : goal.decreases-list_arms
decreases-list_arms l = 4 * arms_weight l.arms.now + 2

abbrev pub decreases-list_block : goal.decreases-list_block
decreases-list_block l = 4 * block_weight l.block.now + 2

abbrev pub decreases-list_loop : goal.decreases-list_loop
decreases-list_loop l = 4 * block_weight l.body.now + 3

abbrev pub invariant-list_arms-loop-arm : goal.invariant-list_arms-loop-arm
invariant-list_arms-loop-arm l = listed l.out ++ flat_map (arm_nodes l.last) (drop l.arm-index l.arms)
    ≡ listed l.fn.out ++ flat_map (arm_nodes l.last) l.arms

abbrev pub invariant-list_block-loop-at : goal.invariant-list_block-loop-at
invariant-list_block-loop-at l = listed l.out ++ block_nodes l.last (drop l.at l.block) ≡ listed l.fn.out
    ++ block_nodes l.last l.block

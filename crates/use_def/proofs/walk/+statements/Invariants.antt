use Rattle.std.proofs.Common.{◌≡◌, ◌+◌, ◌*◌, drop, map}
use Rattle.module_names.specs.Places.{soonest}
use Rattle.use_def.specs.Flows.{block_flow, parts, arm_flows, both}
use Rattle.use_def.specs.Sets.{assigned, outside, marked, common_set, AreBack}
use Rattle.use_def.proofs.Weights.{weight, block_weight, arms_weight}
use Rattle.use_def.proofs.walk.+statements.Given as goal

abbrev pub decreases-statement : goal.decreases-statement
decreases-statement l = 4 * weight l.statement.now

abbrev pub decreases-block : goal.decreases-block
decreases-block l = 4 * block_weight l.block.now + 1

abbrev pub decreases-part : goal.decreases-part
decreases-part l = 4 * block_weight l.body.now + 2

abbrev pub decreases-branches : goal.decreases-branches
decreases-branches l = 4 * (arms_weight l.arms.now + block_weight l.otherwise.now) + 3

abbrev pub decreases-looped : goal.decreases-looped
decreases-looped l = 4 * block_weight l.body.now + 2

abbrev pub invariant-block-loop-s : goal.invariant-block-loop-s
invariant-block-loop-s l = record {
  first : soonest l.first (block_flow l.words.tree.now (drop l.s-index l.block) (assigned l.names)).1
      ≡ soonest l.fn.first (block_flow l.words.tree.now l.block (assigned l.fn.names)).1;
  assigned : (block_flow l.words.tree.now (drop l.s-index l.block) (assigned l.names)).0
      ≡ (block_flow l.words.tree.now l.block (assigned l.fn.names)).0;
  outside : outside l.names ≡ outside l.fn.names;
}

abbrev pub invariant-branches-loop-arm : goal.invariant-branches-loop-arm
invariant-branches-loop-arm l = record {
  first : soonest l.first (parts l.words.tree.now (map (arm_flows l.words.tree.now) (drop l.arm-index l.arms))
      (block_flow l.words.tree.now l.otherwise) (assigned l.fn.names)).1
      ≡ soonest l.fn.first (parts l.words.tree.now (map (arm_flows l.words.tree.now) l.arms)
      (block_flow l.words.tree.now l.otherwise) (assigned l.fn.names)).1;
  common : both (common_set (marked l.fn.names) l.common) (parts l.words.tree.now
      (map (arm_flows l.words.tree.now) (drop l.arm-index l.arms)) (block_flow l.words.tree.now l.otherwise)
      (assigned l.fn.names)).0
      ≡ (parts l.words.tree.now (map (arm_flows l.words.tree.now) l.arms) (block_flow l.words.tree.now l.otherwise)
      (assigned l.fn.names)).0;
  back : AreBack l.fn.names l.names;
}

use Rattle.std.proofs.Common.{◌≡◌, ◌++◌, ◌+◌, ◌-◌, ◌*◌, drop, length, map}
use Rattle.module_terms.specs.Lines.{branches, arm, block}
use Rattle.module_terms.proofs.Weights.{weight, block_weight, arms_weight}
use Rattle.module_terms.proofs.block.+statements.Given as goal

abbrev pub decreases-add_lines : goal.decreases-add_lines
decreases-add_lines l = 4 * weight l.statement.now

abbrev pub decreases-add_if : goal.decreases-add_if
decreases-add_if l = 4 * (arms_weight l.arms.now + block_weight l.otherwise.now) + 3

abbrev pub decreases-branches : goal.decreases-branches
decreases-branches l = 4 * arms_weight l.arms.now + 2

abbrev pub decreases-block : goal.decreases-block
decreases-block l = 4 * block_weight l.statements.now + 2

abbrev pub decreases-add_loop : goal.decreases-add_loop
decreases-add_loop l = 4 * block_weight l.body.now + 3

abbrev pub invariant-branches-loop-back : goal.invariant-branches-loop-back
invariant-branches-loop-back l =
    branches l.numpy.imports.now (map (arm l.numpy.imports.now l.targets.directives.now)
    (drop (length l.arms - l.back) l.arms)) l.fn.otherwise
    ≡ l.no

abbrev pub invariant-block-loop-statement : goal.invariant-block-loop-statement
invariant-block-loop-statement l =
    l.out ++ block l.numpy.imports.now l.targets.directives.now (drop l.statement-index l.statements)
    ≡ block l.numpy.imports.now l.targets.directives.now l.statements

use Rattle.std.proofs.Common.{◌≡◌, ◌+◌, ◌*◌, ◌++◌, drop}
use denote.Param.Weighed.{most}
use Rattle.py_parse.specs.declared.tree.Stmt.{size-Stmt}
use Rattle.export_sig.specs.Loops.{arm_loops, block_loops}
use Rattle.export_sig.proofs.loops.+loops.Given as goal

-- what the rest of a list gives comes behind what was found
abbrev pub invariant-push_arms-loop-arm : goal.invariant-push_arms-loop-arm
invariant-push_arms-loop-arm l = l.found.items ++ arm_loops
    (drop l.arm-index l.arms) ≡ l.fn.found.items ++ arm_loops l.arms

abbrev pub invariant-push_block-loop-statement : goal.invariant-push_block-loop-statement
invariant-push_block-loop-statement l = l.found.items ++ block_loops
    (drop l.statement-index l.block) ≡ l.fn.found.items ++ block_loops l.block

abbrev pub decreases-push_arms : goal.decreases-push_arms
decreases-push_arms l = 3 * most (λ a. most size-Stmt a.2) l.arms.now + 2

abbrev pub decreases-push_block : goal.decreases-push_block
decreases-push_block l = 3 * goal.size-push_block l + 1

abbrev pub decreases-push_statement : goal.decreases-push_statement
decreases-push_statement l = 3 * goal.size-push_statement l

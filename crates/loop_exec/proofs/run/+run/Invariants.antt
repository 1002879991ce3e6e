use Rattle.std.proofs.Common.{◌≡◌, ◌+◌, ◌*◌, ◌≤◌, drop}
use Rattle.eager_rules.specs.Blocks.{for_each}
use Rattle.loop_exec.specs.Running.{numbers_of, reached}
use Rattle.loop_prog.specs.Serial.{block, set_variable}
use Rattle.loop_exec.proofs.run.+run.Given as goal

-- what is left of the block does from here what the block does from the start
abbrev pub invariant-run_block-loop-statement : goal.invariant-run_block-loop-statement
invariant-run_block-loop-statement l =
    block l.kinds (drop l.statement-index l.body) (reached l.run) ≡ block l.kinds l.body (reached l.fn.run)

-- the numbers that are left do from here what all of them do from the start, and there are no more than turns
abbrev pub invariant-run_loop-loop-turn : goal.invariant-run_loop-loop-turn
invariant-run_loop-loop-turn l =
    (for_each (set_variable l.var) (block l.kinds l.body) (numbers_of l.left) (reached l.run) ≡
    for_each (set_variable l.var) (block l.kinds l.body) (numbers_of l.fn.turns) (reached l.fn.run))
    × (l.left.most + l._turn ≤ l.most)

-- each function between a statement and those of its blocks has a rank
abbrev pub decreases-run_statement : goal.decreases-run_statement
decreases-run_statement l = 3 * goal.size-run_statement l

abbrev pub decreases-run_block : goal.decreases-run_block
decreases-run_block l = 3 * goal.size-run_block l + 1

abbrev pub decreases-run_loop : goal.decreases-run_loop
decreases-run_loop l = 3 * goal.size-run_loop l + 2

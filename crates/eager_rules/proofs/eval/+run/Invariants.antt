use Rattle.std.proofs.Common.{◌≡◌, ◌+◌, ◌*◌, ◌≤◌, ℕ, drop, List}
use denote.Param.Weighed.{most}
use Rattle.eager_rules.specs.declared.program.Core.{size-Core}
use Rattle.eager_rules.specs.Blocks.{for_each}
use Rattle.eager_rules.specs.Holding.{block_held, calls_held, set_held}
use Rattle.eager_rules.specs.Running.{held_of, numbers_of}
use Rattle.eager_rules.specs.declared.program.Instance.{Instance}
use Rattle.eager_rules.proofs.eval.+run.Given as goal

-- what is left of the block does from here what the block does from the start
abbrev pub invariant-run_block-loop-core : goal.invariant-run_block-loop-core
invariant-run_block-loop-core l =
    block_held (calls_held l.instances l.depth) (drop l.core-index l.body) (held_of l.state) ≡
    block_held (calls_held l.instances l.depth) l.body (held_of l.fn.state)

-- the numbers that are left do from here what all of them do from the start, and there are no more than turns
abbrev pub invariant-run_loop-loop-turn : goal.invariant-run_loop-loop-turn
invariant-run_loop-loop-turn l =
    (for_each (set_held l.var) (block_held (calls_held l.instances l.depth) l.body) (numbers_of l.left)
    (held_of l.state) ≡
    for_each (set_held l.var) (block_held (calls_held l.instances l.depth) l.body) (numbers_of l.fn.turns)
    (held_of l.fn.state))
    × (l.left.most + l._turn ≤ l.most)

-- how deep the deepest body is
abbrev body_size : Instance → ℕ
body_size f = most size-Core f.body

abbrev deepest : List Instance → ℕ
deepest instances = most body_size instances

-- a call goes one level down, and each function between a statement and its blocks has a rank
abbrev per_call : List Instance → ℕ
per_call instances = 3 * deepest instances + 6

abbrev pub decreases-call : goal.decreases-call
decreases-call l = l.depth * per_call l.instances.now

abbrev pub decreases-enter : goal.decreases-enter
decreases-enter l = l.depth * per_call l.instances.now + 3 * most size-Core l.f.now.body + 4

abbrev pub decreases-run : goal.decreases-run
decreases-run l = l.depth * per_call l.instances.now + 3 * goal.size-run l + 1

abbrev pub decreases-run_block : goal.decreases-run_block
decreases-run_block l = l.depth * per_call l.instances.now + 3 * goal.size-run_block l + 2

abbrev pub decreases-run_loop : goal.decreases-run_loop
decreases-run_loop l = l.depth * per_call l.instances.now + 3 * goal.size-run_loop l + 3

abbrev pub decreases-run_call : goal.decreases-run_call
decreases-run_call l = l.depth * per_call l.instances.now + 1

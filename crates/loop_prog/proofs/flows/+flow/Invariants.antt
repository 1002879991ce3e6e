use Rattle.std.proofs.Common.{◌≡◌, ◌+◌, ◌*◌, drop, max}
use denote.Param.Weighed.{most}
use Rattle.loop_prog.specs.declared.program.Statement.{size-Statement}
use Rattle.loop_prog.specs.Paths.{block_flow}
use Rattle.loop_prog.specs.Undo.{Undoes}
use Rattle.loop_prog.proofs.flows.+flow.Given as goal

-- what is left of the block leads from here to where the block leads from the start
abbrev pub invariant-flow_block-loop-statement : goal.invariant-flow_block-loop-statement
invariant-flow_block-loop-statement l =
    (block_flow (drop l.statement-index l.body) l.paths ≡ block_flow l.body l.fn.paths) ×
    Undoes l.log l.paths l.fn.log l.fn.paths

-- each function between a statement and those of its blocks has a rank
abbrev pub decreases-flow : goal.decreases-flow
decreases-flow l = 3 * goal.size-flow l

abbrev pub decreases-flow_block : goal.decreases-flow_block
decreases-flow_block l = 3 * goal.size-flow_block l + 1

abbrev pub decreases-flow_loop : goal.decreases-flow_loop
decreases-flow_loop l = 3 * goal.size-flow_loop l + 2

abbrev pub decreases-flow_parts : goal.decreases-flow_parts
decreases-flow_parts l = 3 * max (most size-Statement l.yes.now) (most size-Statement l.no.now) + 2

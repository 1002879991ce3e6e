use Rattle.std.proofs.Common.{◌≡◌, ◌+◌, ◌*◌, drop, max}
use denote.Param.Weighed.{most}
use Rattle.loop_prog.specs.declared.program.Statement.{size-Statement}
use Rattle.loop_prog.specs.Judging.{Left, block_by}
use Rattle.loop_prog.specs.Paths.{block_flow}
use Rattle.loop_prog.specs.Undo.{Undoes}
use Rattle.loop_prog.proofs.inspect.+inspect.Given as goal

-- what is left of the block, from here, is judged as the block from the start, and leads to where it does
abbrev pub invariant-inspect_block-loop-statement : goal.invariant-inspect_block-loop-statement
invariant-inspect_block-loop-statement l =
    (l.seen ≡ l.statement-index) × Left l.number (block_by l.kernel (drop l.statement-index l.body) l.site l.paths)
    l.fn.number (block_by l.kernel l.body l.site l.fn.paths) ×
    (block_flow (drop l.statement-index l.body) l.paths ≡ block_flow l.body l.fn.paths) ×
    Undoes l.log l.paths l.fn.log l.fn.paths

-- each function between a statement and those of its blocks has a rank
abbrev pub decreases-inspect : goal.decreases-inspect
decreases-inspect l = 4 * goal.size-inspect l + 1

abbrev pub decreases-inspect_inner : goal.decreases-inspect_inner
decreases-inspect_inner l = 4 * goal.size-inspect_inner l

abbrev pub decreases-inspect_block : goal.decreases-inspect_block
decreases-inspect_block l = 4 * goal.size-inspect_block l + 2

abbrev pub decreases-inspect_turn : goal.decreases-inspect_turn
decreases-inspect_turn l = 4 * goal.size-inspect_turn l + 3

abbrev pub decreases-inspect_parts : goal.decreases-inspect_parts
decreases-inspect_parts l = 4 * max (most size-Statement l.yes.now) (most size-Statement l.no.now) + 3

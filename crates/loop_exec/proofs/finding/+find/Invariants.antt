use denote.Param.Weighed.{most}
use Rattle.std.proofs.Common.{◌≡◌, ◌+◌, ◌*◌, drop, length, max, slice_get}
use Rattle.loop_prog.specs.Statements.{statements}
use Rattle.loop_prog.specs.declared.program.Statement.{size-Statement}
use Rattle.loop_exec.proofs.finding.+find.Given as goal

-- the number that is left, in what is left of the block, is that of the same statement
abbrev pub invariant-find_in-loop-statement : goal.invariant-find_in-loop-statement
invariant-find_in-loop-statement l =
    (slice_get (statements (drop l.statement-index l.block)) l.number ≡ slice_get (statements l.block) l.fn.number)
    × (l.fn.number + length (statements (drop l.statement-index l.block)) ≡ l.number + length (statements l.block))

-- each function between a statement and those of its blocks has a rank
abbrev pub decreases-find_in : goal.decreases-find_in
decreases-find_in l = 3 * goal.size-find_in l + 1

abbrev pub decreases-find_parts : goal.decreases-find_parts
decreases-find_parts l = 3 * max (most size-Statement l.yes.now) (most size-Statement l.no.now) + 2

abbrev pub decreases-find_below : goal.decreases-find_below
decreases-find_below l = 3 * goal.size-find_below l

use denote.Param.Weighed.{most}
use Rattle.std.proofs.Common.{◌≡◌, ◌+◌, ◌*◌, drop, max}
use Rattle.loop_prog.specs.Statements.{statements}
use Rattle.loop_prog.specs.declared.program.Statement.{size-Statement}
use Rattle.omp_loops.specs.Seeking.{Left}
use Rattle.omp_loops.specs.Serial.{all_serial}
use Rattle.omp_loops.proofs.seek.+seek.Given as goal

-- the first loop of what is left of the block, from here, is that of the block, and so is the test
abbrev pub invariant-seek_in-loop-statement : goal.invariant-seek_in-loop-statement
invariant-seek_in-loop-statement l =
    Left l.number (statements (drop l.statement-index l.body)) l.fn.number (statements l.body)
    × (all_serial (drop l.statement-index l.body) ≡ all_serial l.body)

-- each function between a statement and those of its blocks has a rank
abbrev pub decreases-seek_in : goal.decreases-seek_in
decreases-seek_in l = 3 * goal.size-seek_in l + 1

abbrev pub decreases-seek_parts : goal.decreases-seek_parts
decreases-seek_parts l = 3 * max (most size-Statement l.yes.now) (most size-Statement l.no.now) + 2

abbrev pub decreases-seek_below : goal.decreases-seek_below
decreases-seek_below l = 3 * goal.size-seek_below l

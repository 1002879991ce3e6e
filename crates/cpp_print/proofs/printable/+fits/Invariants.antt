use Rattle.std.proofs.Common.{◌≡◌, ◌+◌, ◌*◌, drop}
use Rattle.cpp_print.specs.Printable.{block_printable}
use Rattle.cpp_print.proofs.printable.+fits.Given as goal

abbrev pub invariant-block_printable-loop-statement : goal.invariant-block_printable-loop-statement
invariant-block_printable-loop-statement l =
    block_printable (drop l.statement-index l.body) l.depth ≡ block_printable l.body l.depth

-- each function between a statement and those of its blocks has a rank
abbrev pub decreases-statement_printable : goal.decreases-statement_printable
decreases-statement_printable l = 3 * goal.size-statement_printable l + 1

abbrev pub decreases-blocks_printable : goal.decreases-blocks_printable
decreases-blocks_printable l = 3 * goal.size-blocks_printable l

abbrev pub decreases-block_printable : goal.decreases-block_printable
decreases-block_printable l = 3 * goal.size-block_printable l + 2

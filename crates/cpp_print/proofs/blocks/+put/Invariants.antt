use Rattle.std.proofs.Common.{◌≡◌, ◌++◌, ◌+◌, ◌*◌, take, drop, max, true}
use denote.Param.Weighed.{most}
use Rattle.loop_prog.specs.declared.program.Statement.{size-Statement}
use Rattle.cpp_print.specs.Printable.{block_printable}
use Rattle.cpp_print.specs.Statements.{block_text}
use Rattle.cpp_print.proofs.blocks.+put.Given as goal

-- the statements so far stand behind what was there, and the others are printable
abbrev pub invariant-put_block-loop-statement : goal.invariant-put_block-loop-statement
invariant-put_block-loop-statement l = record {
  text : l.out ≡ l.fn.out ++ block_text (take l.statement-index l.body) l.depth;
  others : block_printable (drop l.statement-index l.body) l.depth ≡ true;
}

-- each function between a statement and those of its blocks has a rank
abbrev pub decreases-put_statement : goal.decreases-put_statement
decreases-put_statement l = 3 * goal.size-put_statement l

abbrev pub decreases-put_block : goal.decreases-put_block
decreases-put_block l = 3 * goal.size-put_block l + 1

abbrev pub decreases-put_if : goal.decreases-put_if
decreases-put_if l = 3 * max (most size-Statement l.yes.now) (most size-Statement l.no.now) + 2

abbrev pub decreases-put_for : goal.decreases-put_for
decreases-put_for l = 3 * most size-Statement l.body.now + 2

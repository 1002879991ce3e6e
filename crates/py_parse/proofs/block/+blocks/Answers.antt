use Rattle.std.proofs.Common.{arith}
use Rattle.py_parse.specs.Blocks.{tail_with, elif_with}
use Rattle.py_parse.proofs.BlockLevelLaws.{tail_is}
use Rattle.py_parse.proofs.block.+blocks.Goals as goal

pub tail-returns-in_err-inner-in-Elif : goal.tail-returns-in_err-inner-in-Elif
unfolding tail_with elif_with
tail-returns-in_err-inner-in-Elif t c = grind (arith, tail_is)

pub tail-returns-in_err-next-in-Elif : goal.tail-returns-in_err-next-in-Elif
unfolding tail_with elif_with
tail-returns-in_err-next-in-Elif t c = grind (arith, tail_is)

pub tail-returns-in_ok-push-in-Elif : goal.tail-returns-in_ok-push-in-Elif
unfolding tail_with elif_with
tail-returns-in_ok-push-in-Elif t c = grind (arith, tail_is)

pub tail-returns-in-Else : goal.tail-returns-in-Else
unfolding tail_with elif_with
tail-returns-in-Else t c = grind (arith, tail_is)

pub tail-returns-in_default : goal.tail-returns-in_default
unfolding tail_with elif_with
tail-returns-in_default t c = grind (arith, tail_is)

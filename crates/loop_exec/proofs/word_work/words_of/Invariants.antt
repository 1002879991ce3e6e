use Rattle.std.proofs.Common.{◌≡◌, map, take}
use Rattle.eager_rules.specs.Works.{word_of}
use Rattle.loop_exec.specs.Banks.{words_bound}
use Rattle.loop_exec.proofs.word_work.words_of.Given as goal
use Rattle.loop_prog.specs.State.{operand_in}

-- the words so far
abbrev pub invariant-loop-x : goal.invariant-loop-x
invariant-loop-x l = l.zs.items ≡ map word_of (map (operand_in (words_bound l.words)) (take l.x-index l.opers))

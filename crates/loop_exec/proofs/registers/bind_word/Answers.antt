use Rattle.std.proofs.Common.{ap, ◌∙◌, map}
use Rattle.std.proofs.lemmas.List.{map-set}
use Rattle.loop_exec.specs.Banks.{word_bound}
use Rattle.loop_exec.proofs.registers.bind_word.Goals as goal

pub returns-then-r-len : goal.returns-then-r-len
returns-then-r-len c =
    ap (map word_bound) c.set.ensures ∙ map-set word_bound c.args.words.now c.args.r c.args.value

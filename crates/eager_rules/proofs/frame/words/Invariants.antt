use Rattle.std.proofs.Common.{◌≡◌, map, take}
use Rattle.eager_rules.specs.Running.{meanings}
use Rattle.eager_rules.specs.Works.{word_of}
use Rattle.eager_rules.proofs.frame.words.Given as goal

-- the words so far
abbrev pub invariant-loop-value : goal.invariant-loop-value
invariant-loop-value l = l.zs ≡ map word_of (meanings (take l.value-index l.values))

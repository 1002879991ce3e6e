use Rattle.std.proofs.Common.{◌≡◌, drop, map}
use Rattle.const_fold.specs.Folded.{folded, words_in}
use Rattle.const_fold.proofs.LearnLaws.{led}
use Rattle.const_fold.proofs.literals.words_of.Given as goal

abbrev pub invariant-loop-x : goal.invariant-loop-x
invariant-loop-x l =
    led l.words (words_in (map (folded l.table) (drop l.x-index l.xs))) ≡ words_in (map (folded l.table) l.xs)

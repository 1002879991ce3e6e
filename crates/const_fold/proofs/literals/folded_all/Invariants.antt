use Rattle.std.proofs.Common.{◌≡◌, map, take}
use Rattle.const_fold.specs.Folded.{folded}
use Rattle.const_fold.proofs.literals.folded_all.Given as goal

abbrev pub invariant-loop-x : goal.invariant-loop-x
invariant-loop-x l = l.list ≡ map (folded l.table) (take l.x-index l.xs)

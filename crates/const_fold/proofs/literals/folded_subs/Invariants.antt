use Rattle.std.proofs.Common.{◌≡◌, map, take}
use Rattle.const_fold.specs.Folded.{folded_sub}
use Rattle.const_fold.proofs.literals.folded_subs.Given as goal

abbrev pub invariant-loop-sub : goal.invariant-loop-sub
invariant-loop-sub l = l.list ≡ map (folded_sub l.table) (take l.sub-index l.subs)

use Rattle.std.proofs.Common.{take}
use Rattle.purity.specs.Marks.{Grows, has}
use Rattle.purity.proofs.reach.Walk.meet_all.Given as goal

abbrev pub invariant-loop-number : goal.invariant-loop-number
invariant-loop-number l = Grows (λ n. has n (take l.number-index l.numbers)) l.fn.self l.self

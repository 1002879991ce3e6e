use Rattle.std.proofs.Common.{◌+◌, ◌*◌, take}
use Rattle.purity.specs.Knowledge.{LearnsAll}
use Rattle.purity.proofs.learning.+visit.Given as goal

abbrev pub decreases-visit : goal.decreases-visit
decreases-visit l = l.depth * 3

abbrev pub decreases-visit_new : goal.decreases-visit_new
decreases-visit_new l = l.depth * 3 + 2

abbrev pub decreases-visit_all : goal.decreases-visit_all
decreases-visit_all l = l.depth * 3 + 1

abbrev pub invariant-visit_all-loop-number : goal.invariant-visit_all-loop-number
invariant-visit_all-loop-number l =
    LearnsAll l.instances (take l.number-index l.numbers) l.fn.known.items l.known.items

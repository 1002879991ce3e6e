use Rattle.std.proofs.Common.{◌≡◌, ◌++◌, false, replicate, take, true}
use Rattle.eager_rules.proofs.assigned.first_marked.Given as goal

abbrev pub invariant-loop-name : goal.invariant-loop-name
invariant-loop-name l = l.marks ≡ take l.name (replicate l.params true ++ replicate l.count false)

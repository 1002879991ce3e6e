use Rattle.std.proofs.Common.{◌≡◌, drop, false}
use Rattle.eager_rules.specs.Assigned.{set_all}
use Rattle.eager_rules.proofs.assigned.unmark_all.Given as goal

abbrev pub invariant-loop-name : goal.invariant-loop-name
invariant-loop-name l = set_all (drop l.name-index l.fresh) false l.marks ≡ set_all l.fresh false l.fn.marks

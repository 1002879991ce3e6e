use Rattle.std.proofs.Common.{◌≡◌, take}
use Rattle.std.specs.List.{filter}
use Rattle.eager_rules.specs.Assigned.{bindings}
use Rattle.eager_rules.specs.Sound.{bound_in}
use Rattle.eager_rules.proofs.assigned.bound_of.Given as goal

abbrev pub invariant-loop-name : goal.invariant-loop-name
invariant-loop-name l = l.kept ≡ filter (bound_in (bindings l.names)) (take l.name-index l.among)

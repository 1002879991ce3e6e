use Rattle.std.proofs.Common.{◌≡◌, drop}
use Rattle.std.specs.List.{list_all}
use Rattle.eager_rules.specs.Sound.{is_assigned}
use Rattle.eager_rules.proofs.assigned.all_assigned.Given as goal

abbrev pub invariant-loop-f : goal.invariant-loop-f
invariant-loop-f l =
    list_all is_assigned (drop l.f-index l.program.instances) ≡ list_all is_assigned l.program.instances

use Rattle.std.proofs.Common.{◌≡◌, drop, None}
use Rattle.module_names.specs.Places.{soonest}
use Rattle.pythran_main.specs.Kernel.{unserved}
use Rattle.pythran_main.proofs.served.first_unserved.Given as goal

abbrev pub invariant-loop-directive : goal.invariant-loop-directive
invariant-loop-directive l =
    soonest l.first (unserved (drop l.directive-index l.directives)) ≡ soonest None (unserved l.directives)

use Rattle.std.proofs.Common.{◌≡◌, drop}
use Rattle.array_types.specs.Checked.{descend_from}
use Rattle.array_types.proofs.checked.descend.Given as goal

abbrev pub invariant-loop-n : goal.invariant-loop-n
invariant-loop-n l =
    descend_from l.n l.heights (drop l.n l.instances) ≡ descend_from 0 l.heights l.instances

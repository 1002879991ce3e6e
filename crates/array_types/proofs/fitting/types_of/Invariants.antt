use Rattle.std.proofs.Common.{◌≡◌, drop}
use Rattle.eager_rules.specs.Types.{types_of}
use Rattle.array_types.proofs.Checks.{behind}
use Rattle.array_types.proofs.fitting.types_of.Given as goal

abbrev pub invariant-loop-x : goal.invariant-loop-x
invariant-loop-x l =
    behind l.found (types_of l.names (drop l.x-index l.xs)) ≡ types_of l.names l.xs

use Rattle.std.proofs.Common.{◌≡◌, ◌++◌, drop, map}
use Rattle.array_types.specs.Modules.{functions, numbered_from}
use Rattle.array_types.proofs.instances.functions.Given as goal

abbrev pub invariant-loop-k : goal.invariant-loop-k
invariant-loop-k l = l.known ++ numbered_from l.k (map (λ r. r.name) (drop l.k l.routines)) ≡ functions l.routines

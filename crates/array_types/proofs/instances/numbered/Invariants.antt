use Rattle.std.proofs.Common.{◌≡◌, ◌++◌, drop}
use Rattle.array_types.specs.Modules.{numbered, numbered_from}
use Rattle.array_types.proofs.instances.numbered.Given as goal

abbrev pub invariant-loop-k : goal.invariant-loop-k
invariant-loop-k l = l.known ++ numbered_from l.k (drop l.k l.names) ≡ numbered l.names

use Rattle.std.proofs.Common.{◌≡◌, ◌++◌, drop}
use Rattle.std.specs.List.{zip}
use Rattle.array_types.specs.Modules.{texts}
use Rattle.array_types.proofs.instances.params_of.Given as goal

abbrev pub invariant-loop-k : goal.invariant-loop-k
invariant-loop-k l = l.all ++ zip (texts (drop l.k l.names)) (drop l.k l.params) ≡ zip (texts l.names) l.params

use Rattle.std.proofs.Common.{◌≡◌}
use Rattle.array_types.specs.Modules.{complete}
use Rattle.array_types.proofs.modules.complete.Given as goal

abbrev pub invariant-loop-instance : goal.invariant-loop-instance
invariant-loop-instance l = l.all ≡ complete l.yielded

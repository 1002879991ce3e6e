use Rattle.std.proofs.Common.{◌≡◌, drop}
use Rattle.std.specs.List.{list_all}
use Rattle.array_types.specs.Modules.{has_rank}
use Rattle.array_types.proofs.modules.ranks_fit.Given as goal

abbrev pub invariant-loop-param : goal.invariant-loop-param
invariant-loop-param l = list_all has_rank (drop l.param-index l.params) ≡ list_all has_rank l.params

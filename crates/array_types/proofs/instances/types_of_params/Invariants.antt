use Rattle.std.proofs.Common.{◌≡◌, take, map}
use Rattle.eager_rules.specs.Types.{type_of_param}
use Rattle.array_types.proofs.instances.types_of_params.Given as goal

abbrev pub invariant-loop-param : goal.invariant-loop-param
invariant-loop-param l = l.types ≡ map type_of_param (take l.param-index l.params)

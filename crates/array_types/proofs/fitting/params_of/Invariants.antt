use Rattle.std.proofs.Common.{◌≡◌, take, map}
use Rattle.eager_rules.specs.Types.{type_of_param}
use Rattle.array_types.proofs.fitting.params_of.Given as goal

abbrev pub invariant-loop-param : goal.invariant-loop-param
invariant-loop-param l =
    l.types ≡ map (λ p. type_of_param p.1) (take l.param-index l.params)

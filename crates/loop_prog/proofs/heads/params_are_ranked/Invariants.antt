use Rattle.std.proofs.Common.{◌≡◌, map, drop}
use Rattle.std.specs.List.{list_all}
use Rattle.loop_prog.specs.Check.{param_is_ranked}
use Rattle.loop_prog.proofs.heads.params_are_ranked.Given as goal

abbrev pub invariant-loop-param : goal.invariant-loop-param
invariant-loop-param l =
    list_all param_is_ranked (map (λ p. p.1) (drop l.param-index l.params)) ≡
    list_all param_is_ranked (map (λ p. p.1) l.params)

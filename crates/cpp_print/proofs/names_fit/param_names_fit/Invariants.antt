use Rattle.std.proofs.Common.{◌≡◌, drop}
use Rattle.std.specs.List.{list_all}
use Rattle.cpp_print.specs.Printable.{is_name}
use Rattle.cpp_print.proofs.names_fit.param_names_fit.Given as goal

abbrev pub invariant-loop-param : goal.invariant-loop-param
invariant-loop-param l =
    list_all (λ p. is_name p.0) (drop l.param-index l.params) ≡ list_all (λ p. is_name p.0) l.params

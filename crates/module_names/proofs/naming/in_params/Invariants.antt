use Rattle.std.proofs.Common.{◌≡◌, drop, take, []}
use Rattle.module_names.specs.Names.{second_param}
use Rattle.module_names.specs.Places.{soonest, in_turn}
use Rattle.module_names.specs.Sets.{Holds}
use Rattle.module_names.specs.Words.{is_same}
use Rattle.module_names.proofs.naming.in_params.Given as goal

abbrev pub invariant-loop-param : goal.invariant-loop-param
invariant-loop-param l = record {
  met : Holds is_same l.met (take l.param-index l.params);
  least : soonest l.first (in_turn second_param (take l.param-index l.params) (drop l.param-index l.params))
      ≡ soonest l.fn.first (in_turn second_param [] l.params);
}

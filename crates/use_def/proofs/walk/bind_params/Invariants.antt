use Rattle.std.proofs.Common.{◌≡◌, drop}
use Rattle.use_def.specs.Flows.{with_params}
use Rattle.use_def.specs.Sets.{assigned}
use Rattle.use_def.proofs.walk.bind_params.Given as goal

abbrev pub invariant-loop-param : goal.invariant-loop-param
invariant-loop-param l = with_params (drop l.param-index l.params) (assigned l.names)
    ≡ with_params l.params (assigned l.fn.names)

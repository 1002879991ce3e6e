use Rattle.std.proofs.Common.{◌≡◌, ◌++◌, take, map}
use Rattle.module_names.specs.Nodes.{Bound}
use Rattle.module_names.specs.Seen.{listed}
use Rattle.module_names.proofs.listing.list_params.Given as goal

abbrev pub invariant-loop-param : goal.invariant-loop-param
invariant-loop-param l = listed l.out ≡ listed l.fn.out ++ map Bound (take l.param-index l.params)

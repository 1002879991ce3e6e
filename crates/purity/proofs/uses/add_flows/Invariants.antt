use Rattle.std.proofs.Common.{◌≡◌, ◌++◌, take}
use Rattle.std.specs.List.{flat_map}
use Rattle.purity.specs.Uses.{flows_at}
use Rattle.purity.proofs.uses.add_flows.Given as goal

abbrev pub invariant-loop-param : goal.invariant-loop-param
invariant-loop-param l = l.uses ≡ l.fn.uses ++ flat_map (flows_at l.args l.name) (take l.param-index l.params)

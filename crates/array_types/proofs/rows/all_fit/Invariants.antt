use Rattle.std.proofs.Common.{◌≡◌, drop}
use Rattle.std.specs.List.{list_all}
use Rattle.eager_rules.specs.Types.{sub_fits}
use Rattle.array_types.proofs.rows.all_fit.Given as goal

abbrev pub invariant-loop-sub : goal.invariant-loop-sub
invariant-loop-sub l = list_all (sub_fits l.names) (drop l.sub-index l.subs) ≡ list_all (sub_fits l.names) l.subs

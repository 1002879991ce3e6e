use Rattle.std.proofs.Common.{◌≡◌, map, take}
use Rattle.lazy_expr.specs.Table.{sub_of}
use Rattle.lazy_expr.proofs.registers.subs_of.Given as goal

abbrev pub invariant-loop-sub : goal.invariant-loop-sub
invariant-loop-sub l = l.list ≡ map (sub_of l.table) (take l.sub-index l.subs)

use Rattle.std.proofs.Common.{◌≡◌, map, take}
use Rattle.lazy_expr.specs.Table.{back_of}
use Rattle.lazy_expr.proofs.registers.backs_of.Given as goal

abbrev pub invariant-loop-x : goal.invariant-loop-x
invariant-loop-x l = l.backs ≡ map (back_of l.table) (take l.x-index l.xs)

use Rattle.std.proofs.Common.{◌≡◌, take}
use Rattle.lazy_expr.specs.Table.{opers_of}
use Rattle.lazy_expr.proofs.registers.opers_of.Given as goal

abbrev pub invariant-loop-x : goal.invariant-loop-x
invariant-loop-x l = l.opers ≡ opers_of l.table (take l.x-index l.xs)

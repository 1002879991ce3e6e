use Rattle.std.proofs.Common.{◌≡◌, ◌++◌, drop}
use Rattle.lazy_expr.specs.Table.{view_types}
use Rattle.lazy_expr.proofs.registers.view_types.Given as goal

abbrev pub invariant-loop-ty : goal.invariant-loop-ty
invariant-loop-ty l = l.types ++ view_types (drop l.ty-index l.names) ≡ view_types l.names

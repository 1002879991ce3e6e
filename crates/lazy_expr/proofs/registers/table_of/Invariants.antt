use Rattle.std.proofs.Common.{◌≡◌, ◌++◌, ◌+◌, drop}
use Rattle.lazy_expr.specs.Table.{table_from, table_of}
use Rattle.lazy_expr.proofs.registers.table_of.Given as goal

abbrev pub invariant-loop-ty : goal.invariant-loop-ty
invariant-loop-ty l = record {
  table : l.table ++ table_from l.words l.views (drop l.ty-index l.names) ≡ table_of l.names;
  count : l.words + l.views ≡ l.ty-index;
}

use Rattle.std.proofs.Common.{◌≡◌, ◌++◌, drop}
use Rattle.lazy_expr.specs.Table.{word_kinds}
use Rattle.lazy_expr.proofs.registers.word_kinds.Given as goal

abbrev pub invariant-loop-ty : goal.invariant-loop-ty
invariant-loop-ty l = l.kinds ++ word_kinds (drop l.ty-index l.names) ≡ word_kinds l.names

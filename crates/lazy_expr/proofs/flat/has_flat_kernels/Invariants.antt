use Rattle.std.proofs.Common.{◌≡◌, drop}
use Rattle.std.specs.List.{list_all}
use Rattle.lazy_expr.specs.Promise.{is_flat_number}
use Rattle.lazy_expr.proofs.flat.has_flat_kernels.Given as goal

abbrev pub invariant-loop-number : goal.invariant-loop-number
invariant-loop-number l =
    list_all (is_flat_number l.program) (drop l.number-index l.program.kernels) ≡
    list_all (is_flat_number l.program) l.program.kernels

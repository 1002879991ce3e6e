use Rattle.std.proofs.Common.{◌≡◌, map, take}
use Rattle.lazy_expr.specs.Plain.{reduction_of}
use Rattle.lazy_expr.proofs.forms.reductions_of.Given as goal

abbrev pub invariant-loop-pair : goal.invariant-loop-pair
invariant-loop-pair l = l.list ≡ map (reduction_of l.table) (take l.pair-index l.pairs)

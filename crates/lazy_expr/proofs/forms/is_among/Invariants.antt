use Rattle.std.proofs.Common.{◌≡◌, drop}
use Rattle.std.specs.List.{list_any}
use Rattle.lazy_expr.specs.Plain.{names_it}
use Rattle.lazy_expr.proofs.forms.is_among.Given as goal

abbrev pub invariant-loop-x : goal.invariant-loop-x
invariant-loop-x l = list_any (names_it l.name) (drop l.x-index l.args) ≡ list_any (names_it l.name) l.args

use Rattle.std.proofs.Common.{◌-◌, drop, length}
use Rattle.module_terms.specs.Targets.{Finds}
use Rattle.module_terms.proofs.targets.index_of.Given as goal

abbrev pub invariant-loop-behind : goal.invariant-loop-behind
invariant-loop-behind l =
    Finds l.index (length l.directives - l.behind) (drop (length l.directives - l.behind) l.directives)

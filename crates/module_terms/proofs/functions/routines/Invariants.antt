use Rattle.std.proofs.Common.{◌≡◌, ◌++◌, drop, map}
use Rattle.module_terms.specs.Lines.{routine}
use Rattle.module_terms.proofs.functions.routines.Given as goal

abbrev pub invariant-loop-function : goal.invariant-loop-function
invariant-loop-function l =
    l.list ++ map (routine l.«module».imports l.directives) (drop l.function-index l.function-items)
    ≡ map (routine l.«module».imports l.directives) l.function-items

use Rattle.std.proofs.Common.{◌≡◌, drop, flat_map}
use Rattle.module_names.specs.Places.{soonest}
use Rattle.module_names.specs.Names.{function_marks}
use Rattle.module_names.proofs.naming.in_functions.Given as goal

abbrev pub invariant-loop-function : goal.invariant-loop-function
invariant-loop-function l =
    soonest l.first (flat_map (function_marks l.words.tree.now) (drop l.function-index l.functions))
    ≡ soonest l.fn.first (flat_map (function_marks l.words.tree.now) l.functions)

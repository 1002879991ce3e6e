use Rattle.std.proofs.Common.{take}
use Rattle.module_names.specs.Sets.{Holds}
use Rattle.module_names.specs.Words.{is_called}
use Rattle.module_names.proofs.words.function_names.Given as goal

abbrev pub invariant-loop-function : goal.invariant-loop-function
invariant-loop-function l = Holds is_called l.names (take l.function-index l.functions)

use Rattle.std.proofs.Common.{take}
use Rattle.module_names.specs.Sets.{Holds}
use Rattle.module_names.specs.Words.{gives_numpy}
use Rattle.module_names.proofs.words.numpy_names.Given as goal

abbrev pub invariant-loop-import : goal.invariant-loop-import
invariant-loop-import l = Holds gives_numpy l.names (take l.import-index l.imports)

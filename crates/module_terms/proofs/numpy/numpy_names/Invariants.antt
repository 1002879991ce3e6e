use Rattle.std.proofs.Common.{take}
use Rattle.module_terms.specs.Numpy.{Holds}
use Rattle.module_terms.proofs.numpy.numpy_names.Given as goal

abbrev pub invariant-loop-import : goal.invariant-loop-import
invariant-loop-import l = Holds l.names (take l.import-index l.imports)

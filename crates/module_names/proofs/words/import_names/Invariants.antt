use Rattle.std.proofs.Common.{take}
use Rattle.module_names.specs.Sets.{Holds}
use Rattle.module_names.specs.Words.{gives}
use Rattle.module_names.proofs.words.import_names.Given as goal

abbrev pub invariant-loop-import : goal.invariant-loop-import
invariant-loop-import l = Holds gives l.names (take l.import-index l.imports)

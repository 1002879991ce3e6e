use Rattle.std.proofs.Common.{◌≡◌, drop, flat_map, None}
use Rattle.module_names.specs.Places.{soonest}
use Rattle.module_names.specs.Names.{import_marks}
use Rattle.module_names.proofs.naming.in_imports.Given as goal

abbrev pub invariant-loop-import : goal.invariant-loop-import
invariant-loop-import l =
    soonest l.first (flat_map import_marks (drop l.import-index l.imports))
    ≡ soonest None (flat_map import_marks l.imports)

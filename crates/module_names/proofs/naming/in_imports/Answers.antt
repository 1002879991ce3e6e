use Rattle.std.proofs.Common.{length, ◌<◌, arith}
use Rattle.module_names.specs.Names.{import_marks}
use Rattle.module_names.proofs.Loops.{nears, item_here}
use Rattle.module_names.proofs.naming.in_imports.Goals as goal

pub loop-import-preserved : goal.loop-import-preserved
loop-import-preserved c =
    let at : c.loop-import.import-index < length c.args.imports.now = omega arith in
    nears import_marks _ _ c.import-item.result _ _ _
    (item_here c.args.imports.now c.loop-import.import-index c.import-item.result at c.import-item.is)
    c.loop-import.invariant c.in_import-first.ensures

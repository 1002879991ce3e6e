use Rattle.std.proofs.Common.{length, take, ◌<◌, subst, sym, arith}
use Rattle.module_terms.specs.Numpy.{Holds}
use Rattle.module_terms.proofs.Loops.{taken_here}
use Rattle.module_terms.proofs.numpy.numpy_names.Goals as goal

pub loop-import-preserved : goal.loop-import-preserved
loop-import-preserved c =
    let at : c.loop-import.import-index < length c.args.imports.now = omega arith in
    subst (Holds c.add_import.new.names) (sym (taken_here c.args.imports.now c.loop-import.import-index
    c.import-item.result at c.import-item.is))
    (c.in_ok-add_import.ensures (take c.loop-import.import-index c.args.imports.now) c.loop-import.invariant)

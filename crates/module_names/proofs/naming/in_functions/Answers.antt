use Rattle.std.proofs.Common.{length, ◌<◌, arith}
use Rattle.module_names.specs.Names.{function_marks}
use Rattle.module_names.proofs.Loops.{nears, item_here}
use Rattle.module_names.proofs.naming.in_functions.Goals as goal

pub loop-function-preserved : goal.loop-function-preserved
loop-function-preserved c =
    let at : c.loop-function.function-index < length c.args.functions.now = omega arith in
    nears (function_marks c.args.words.now.tree.now) _ _ c.function-item.result _ _ _
    (item_here c.args.functions.now c.loop-function.function-index c.function-item.result at c.function-item.is)
    c.loop-function.invariant c.in_ok-first.ensures

use Rattle.std.proofs.Common.{◌<◌, length, arith, ap, drop, ◌+◌}
use Rattle.module_names.specs.Nodes.{Operand}
use Rattle.use_def.specs.Flows.{reads_marks, values_marks}
use Rattle.use_def.specs.Sets.{assigned}
use Rattle.use_def.proofs.Steps.{item_here, nears}
use Rattle.use_def.proofs.reads.values_reads.Goals as goal

pub loop-x-preserved : goal.loop-x-preserved
loop-x-preserved c =
    let i = c.loop-x.x-index in
    let xs = c.args.values.now in
    let at : i < length xs = omega arith in
    let m = c.args.words.now.tree.now in
    let s = assigned c.args.names.now in
    nears (reads_marks m s Operand c.x-item.result) (values_marks m s (drop (i + 1) xs)) (values_marks m s (drop i xs))
    c.loop-x.first c.in_ok-first.first _ (ap (values_marks m s) (item_here xs i c.x-item.result at c.x-item.is))
    c.loop-x.invariant c.in_ok-first.ensures

use Rattle.std.proofs.Common.{rules}
use Rattle.call_chains.proofs.LayerLaws.{layer_more}
use Rattle.call_chains.proofs.layers.last_layer.Goals as goal

pub loop-done-preserved : goal.loop-done-preserved
loop-done-preserved c =
    layer_more c.args.rows.now c.args.exported.now c.loop-done._done c.loop-done.marks.items c.in_ok-marks-2.marks.items
    c.loop-done.invariant (search (rules, c.in_ok-marks-2.ensures))

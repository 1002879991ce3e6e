use Rattle.purity.proofs.RowLaws.{summarized}
use Rattle.purity.proofs.learning.summary_of.Goals as goal

pub returns : goal.returns
returns c =
    summarized c.args.uses.now c.args.params c.in_ok-rows.rows.items c.as_slice-flowing.result.now
    c.in_ok-values.values.items c.as_slice-returned.result.now c.in_ok-names.names c.as_slice-ends.result.now _
    c.in_ok-rows.ensures.rows c.in_ok-names.ensures c.in_ok-values.ensures c.as_slice-flowing.ensures.value
    c.as_slice-ends.ensures c.as_slice-returned.ensures.value c.in_ok-marks.ensures c.in_ok-sources.ensures.count
    c.in_ok-sources.ensures.each c.faults-test.ensures

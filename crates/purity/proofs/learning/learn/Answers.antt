use Rattle.purity.specs.Uses.{listed}
use Rattle.purity.proofs.Learned.{learns_by}
use Rattle.purity.proofs.learning.learn.Goals as goal

pub returns : goal.returns
returns c = λ instances here are knows there.
    learns_by instances c.args.number c.args.f.now (listed c.args.lines.now) c.as_slice-names.result.now
    c.args.known.now.items c.as_slice-so_far.result.now _ c.in_ok-uses.uses c.as_slice-found.result.now _
    c.in_ok-summary.summary here are knows there c.as_slice-names.ensures c.as_slice-so_far.ensures.value
    c.in_ok-uses.ensures c.as_slice-found.ensures c.len-count.ensures c.in_ok-summary.ensures c.put.ensures

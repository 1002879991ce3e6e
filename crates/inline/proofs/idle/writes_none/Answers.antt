use Rattle.std.proofs.Common.{arith, ◌∙◌, ◌<◌, ap, sym, not}
use Rattle.std.specs.List.{list_all, range_with_len}
use Rattle.purity.specs.Answers.{may_write_in}
use Rattle.inline.proofs.FlatLaws.{walk_on}
use Rattle.inline.proofs.idle.writes_none.Goals as goal

pub loop-param-preserved : goal.loop-param-preserved
loop-param-preserved c =
    let at : c.loop-param.param < c.args.params = omega arith in
    walk_on (λ param. not (may_write_in c.args.effects.now c.args.number param)) c.loop-param.param c.args.params
    (list_all (λ param. not (may_write_in c.args.effects.now c.args.number param)) (range_with_len 0 c.args.params)) at
    (ap not (sym c.writes.ensures ∙ c.if-writes.false)) c.loop-param.invariant

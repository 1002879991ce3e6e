use Rattle.std.proofs.Common.{◌^◌, ◌-◌, ◌*◌, min, get_or, ap, ◌∙◌}
use Rattle.np_file.proofs.Counting.{count_more}
use Rattle.np_file.proofs.reading.bounded_count.Goals as goal

pub loop-extent-preserved : goal.loop-extent-preserved
loop-extent-preserved c =
    c.saturating_mul-count.ensures ∙ ap
    (λ x. min (x * get_or c.args.extents.now c.loop-extent.extent-index 0) (2 ^ 64 - 1)) c.loop-extent.invariant ∙
    count_more (2 ^ 64 - 1) c.args.extents.now c.loop-extent.extent-index c.loop-extent-test.true

use Rattle.std.proofs.Common.{◌++◌, map, ap, ◌∙◌}
use Rattle.std.proofs.lemmas.Iterator.{YieldsList-from_slice, YieldsList-from_zip}
use Rattle.std.proofs.lemmas.Iterator.Consumers.{YieldsList-at, YieldsList-end}
use Rattle.call_report.specs.Report.{buffer_line, lines_text}
use Rattle.call_report.proofs.lines.append_buffers.Goals as goal

-- At its end the loop has gone over each pair.
pub returns : goal.returns
returns c =
    let heads = YieldsList-at c.zip-head-items.ensures.first
    (YieldsList-from_slice c.args.heads.now c.iter.ensures.rest) in
    let buffers = YieldsList-from_slice c.args.buffers.now c.zip-head-items.ensures.second.0 in
    let pairs = YieldsList-at c.into_iter-head-iterator.ensures.into_iter_gives (YieldsList-from_zip heads buffers) in
    let end = YieldsList-end pairs c.loop-head.yielded c.loop-head.head-iterator c.loop-head.yielded_by c.next.result
    c.next.new.self c.in-None.is c.next.ensures.steps in
    c.loop-head.invariant ∙ ap (λ ps. c.args.out.now.items ++ lines_text (map buffer_line ps)) end.0

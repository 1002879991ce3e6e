use Rattle.std.proofs.Common.{map, ap, ◌∙◌}
use Rattle.std.proofs.lemmas.Iterator.{YieldsList-from_slice, YieldsList-from_zip}
use Rattle.std.proofs.lemmas.Iterator.Consumers.{YieldsList-at, YieldsList-end}
use Rattle.pythran_main.specs.Answer.{buffer_head}
use Rattle.pythran_main.proofs.answer.buffer_heads.Goals as goal

-- At its end the loop has gone over each pair.
pub returns : goal.returns
returns c =
    let names = YieldsList-at c.zip-name-items.ensures.first
    (YieldsList-from_slice c.args.names.now c.iter.ensures.rest) in
    let arrays = YieldsList-from_slice c.args.arrays.now c.zip-name-items.ensures.second.0 in
    let pairs = YieldsList-at c.into_iter-name-iterator.ensures.into_iter_gives (YieldsList-from_zip names arrays) in
    let end = YieldsList-end pairs c.loop-name.yielded c.loop-name.name-iterator c.loop-name.yielded_by c.next.result
    c.next.new.self c.in-None.is c.next.ensures.steps in
    c.loop-name.invariant ∙ ap (λ ps. map buffer_head ps) end.0

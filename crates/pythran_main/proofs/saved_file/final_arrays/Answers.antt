use Rattle.std.proofs.Common.{◌∙◌, ap, map, length}
use Rattle.std.proofs.lemmas.Iterator.{YieldsList-from_zip}
use Rattle.std.proofs.lemmas.Iterator.Adapters.{YieldsList-from_vec}
use Rattle.std.proofs.lemmas.Iterator.Consumers.{YieldsList-at, YieldsList-end}
use Rattle.pythran_main.specs.Answer.{with_words}
use Rattle.pythran_main.proofs.saved_file.final_arrays.Goals as goal

-- At its end the loop has gone over each pair.
pub returns : goal.returns
returns c =
    let array_items = c.into_iter.ensures.rest ∙ c.into_vec.ensures in
    let word_items = c.zip-array-items.ensures.second.0 ∙ c.into_vec-2.ensures in
    let arrays = YieldsList-at c.zip-array-items.ensures.first
    (YieldsList-from_vec c.args.arrays array_items (c.into_iter.result.rest.ok.0 ∙ ap length array_items)) in
    let words = YieldsList-from_vec c.args.words word_items
    (c.zip-array-items.result.b.rest.ok.0 ∙ ap length word_items) in
    let pairs = YieldsList-at c.into_iter-array-iterator.ensures.into_iter_gives (YieldsList-from_zip arrays words) in
    let end = YieldsList-end pairs c.loop-array.yielded c.loop-array.array-iterator c.loop-array.yielded_by
    c.next.result c.next.new.self c.in-None.is c.next.ensures.steps in
    c.loop-array.invariant ∙ ap (λ ps. map with_words ps) end.0

use Rattle.std.proofs.Common.{◌∙◌, ap, List, ℤ, length, map}
use Rattle.std.proofs.lemmas.List.FromFn.{length-map-range_with_len}
use Rattle.std.specs.List.{range_with_len}
use Rattle.overlap.specs.Walks.{with_words}
use Rattle.view_places.specs.View.{places}
use Rattle.loop_exec.specs.Elements.{each_of}
use Rattle.loop_exec.proofs.NestLemmas.{same_words}
use Rattle.loop_exec.proofs.nest.store_made.Goals as goal

pub put_words-requires : goal.put_words-requires
put_words-requires c =
    ap (λ (xs : List ℤ). length xs) (c.as_slice-2.ensures ∙ c.in_ok-words.ensures) ∙
    length-map-range_with_len (each_of c.args.e.now c.as_slice.result.now) 0 (length (places c.args.e.now.frame.now))

pub returns-clause-stored : goal.returns-clause-stored
returns-clause-stored c =
    c.put_words.ensures ∙
    same_words c.args.buffers.now c.args.e.now.frame.now.buffer (places c.args.e.now.frame.now)
    c.as_slice-2.result.now ∙
    ap (with_words c.args.buffers.now c.args.e.now.frame.now.buffer (places c.args.e.now.frame.now))
    (c.as_slice-2.ensures ∙ c.in_ok-words.ensures ∙
    ap (λ (bs : List (List ℤ)). map (each_of c.args.e.now bs)
    (range_with_len 0 (length (places c.args.e.now.frame.now)))) c.as_slice.ensures)

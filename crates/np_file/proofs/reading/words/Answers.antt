use Rattle.std.proofs.Common.{rules, ◌∷◌, [], ◌++◌, ap, ◌∙◌}
use Rattle.std.proofs.lemmas.Int.{to_z-of_z}
use Rattle.std.specs.Int.{w64}
use Rattle.np_file.specs.Npy.{word}
use Rattle.np_file.specs.Views.{view_layout}
use Rattle.np_file.proofs.Elements.{words_more}
use Rattle.np_file.proofs.reading.words.Goals as goal

pub loop-k-preserved : goal.loop-k-preserved
loop-k-preserved c =
    let l = c.args.layout.now in
    words_more (view_layout l) c.loop-k.k c.loop-k.words.items c.push.new.self.items c.element_word.result
    (c.in_ok-push.ensures.items ∙ ap (λ z. c.loop-k.words.items ++ z ∷ [])
    (to_z-of_z w64 c.element_word.result (search rules)))
    (c.element_word.ensures ∙ ap (word l.kind l.elements.now) c.place_in_file-place.ensures.value) c.loop-k.invariant

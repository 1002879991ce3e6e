use Rattle.std.proofs.Common.{rules, ◌++◌, pos, get_or, ap, ◌∙◌}
use Rattle.std.proofs.lemmas.Int.{to_z-of_z}
use Rattle.std.specs.Int.{w64}
use Rattle.std.specs.Int.RustNames.{FitsSigned}
use Rattle.np_file.specs.Npy.{element}
use Rattle.np_file.proofs.Turns.{pushed, all_more, all_whole}
use Rattle.np_file.proofs.writing.push_elements.Goals as goal

pub loop-word-preserved : goal.loop-word-preserved
loop-word-preserved c =
    let z = get_or c.args.words.now c.loop-word.word-index (pos 0) in
    let fit : FitsSigned w64 z = search rules in
    record {
      text = pushed (element c.args.kind) c.args.out.now.items c.loop-word.out.items c.push_element.new.out.items
          c.args.words.now c.loop-word.word-index (pos 0) c.loop-word-test.true
          (c.in_ok-push_element.ensures ∙ ap (λ x. c.loop-word.out.items ++ element c.args.kind x)
          (to_z-of_z w64 z fit)) c.loop-word.invariant.text;
      fits = all_more (FitsSigned w64) c.args.words.now c.loop-word.word-index
          (pos 0) c.loop-word-test.true c.loop-word.invariant.fits fit;
    }

pub returns-clause-fits : goal.returns-clause-fits
returns-clause-fits c = all_whole (FitsSigned w64) c.args.words.now c.loop-word.word-index c.loop-word-test.false
    c.loop-word.invariant.fits

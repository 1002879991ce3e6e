use Rattle.std.proofs.Common.{FitsSigned, rules, ◌∙◌}
use Rattle.std.specs.Int.{w64}
use Rattle.std.proofs.lemmas.Int.{to_z-of_z}
use Rattle.krn_base.proofs.Wrapping.{wrap-pos}
use Rattle.krn_base.proofs.words.word_of.Goals as goal

pub returns : goal.returns
returns c =
    let fits : FitsSigned w64 c.cast_signed.result = search rules in
    to_z-of_z w64 c.cast_signed.result fits ∙ c.cast_signed.ensures ∙ wrap-pos c.args.n c.ranges.n.fits

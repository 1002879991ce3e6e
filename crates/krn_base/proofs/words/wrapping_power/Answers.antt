use Rattle.std.proofs.Common.{FitsSigned, rules, ◌∙◌}
use Rattle.std.specs.Int.{w64, int_wrapping_pow}
use Rattle.std.proofs.lemmas.Int.{to_z-of_z}
use Rattle.krn_base.proofs.Wrapping.{wrap-power}
use Rattle.krn_base.proofs.words.wrapping_power.Goals as goal

pub returns : goal.returns
returns c =
    let fits : FitsSigned w64 c.wrapping_pow.result = search rules in
    to_z-of_z w64 c.wrapping_pow.result fits ∙ c.wrapping_pow.ensures
    ∙ (λ i. int_wrapping_pow w64 (to_z-of_z w64 c.args.a c.ranges.a i) (c.from.ensures i)) ∙
    wrap-power c.args.a c.args.exponent c.ranges.a

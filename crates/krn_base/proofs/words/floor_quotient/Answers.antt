use Rattle.std.proofs.Common.{FitsSigned, rules, ◌∙◌, ap, pos, neg_ℤ, unsigned_abs, int_lt, sym}
use mathlib.Core.Bool.{beq}
use Rattle.krn_base.specs.Numbers.{wrap}
use Rattle.std.specs.Int.{w64, div_ceil}
use Rattle.std.proofs.lemmas.Int.{to_z-of_z}
use Rattle.krn_base.proofs.Wrapping.{wrap-neg, floor_div-apart}
use Rattle.krn_base.proofs.words.floor_quotient.Goals as goal

pub returns-else-a-b : goal.returns-else-a-b
returns-else-a-b c =
    let out : FitsSigned w64 c.wrapping_opposite.result = search rules in
    let in_word : FitsSigned w64 c.word_of-else-a-b.result = search rules in
    let a = to_z-of_z w64 c.args.a c.ranges.a in
    let b = to_z-of_z w64 c.args.b c.ranges.b in
    let size = c.unsigned_abs-size.ensures.value ∙ ap unsigned_abs a in
    let divisor = c.unsigned_abs-divisor.ensures.value ∙ ap unsigned_abs b in
    let apart = sym (λ i. beq (int_lt (a i) (pos 0)) (int_lt (b i) (pos 0))) ∙ c.if-a-b.false in
    to_z-of_z w64 c.wrapping_opposite.result out ∙ c.wrapping_opposite.ensures
    ∙ ap (λ z. wrap (neg_ℤ z)) (to_z-of_z w64 c.word_of-else-a-b.result in_word ∙ c.word_of-else-a-b.ensures)
    ∙ wrap-neg (pos c.div_ceil.result)
    ∙ ap (λ n. wrap (neg_ℤ (pos n))) (c.div_ceil.ensures ∙ (λ i. div_ceil (size i) (divisor i)))
    ∙ ap wrap (floor_div-apart c.args.a c.args.b apart)

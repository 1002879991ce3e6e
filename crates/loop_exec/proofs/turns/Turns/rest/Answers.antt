use Rattle.loop_exec.proofs.Words.{word_kept}
use Rattle.std.proofs.Common.{rules, FitsSigned, w64, to_z, of_z, subst, sym, ◌≡◌, ◌∙◌, ap, ◌∷◌, ℤ, List, ◌+ℤ◌, ◌-◌}
use Rattle.std.proofs.Common.{false}
use Rattle.loop_exec.proofs.Ranges.{none_from, past_words, some_from}
use Rattle.view_places.specs.Slice.{is_before}
use Rattle.loop_exec.proofs.turns.Turns.rest.Goals as goal

pub returns-in-None-clause-numbers : goal.returns-in-None-clause-numbers
returns-in-None-clause-numbers c =
    let next_fits : FitsSigned w64 c.args.self.now.next = search rules in
    let hi_fits : FitsSigned w64 c.args.self.now.hi = search rules in
    let step_fits : FitsSigned w64 c.args.self.now.step = search rules in
    let same : to_z w64 (of_z w64 c.args.self.now.next) +ℤ to_z w64 (of_z w64 c.args.self.now.step) ≡
    c.args.self.now.next +ℤ c.args.self.now.step =
    ap (λ (z : ℤ). z +ℤ to_z w64 (of_z w64 c.args.self.now.step)) (word_kept c.args.self.now.next next_fits) ∙
    ap (λ (z : ℤ). c.args.self.now.next +ℤ z) (word_kept c.args.self.now.step step_fits) in
    let past :
    is_before c.args.self.now.step c.args.self.now.hi (c.args.self.now.next +ℤ c.args.self.now.step) ≡ false =
    past_words c.args.self.now.next c.args.self.now.hi c.args.self.now.step next_fits hi_fits
    (λ fits. c.in-None.ensures (subst (λ (z : ℤ). FitsSigned w64 z) (sym same) fits)) in
    some_from c.args.self.now.most c.args.self.now.next c.args.self.now.hi c.args.self.now.step
    c.requires.some c.requires.before ∙
    ap (λ (rest : List ℤ). c.args.self.now.next ∷ rest) (none_from (c.args.self.now.most - 1)
    (c.args.self.now.next +ℤ c.args.self.now.step) c.args.self.now.hi c.args.self.now.step past)

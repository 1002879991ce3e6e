use Rattle.std.proofs.Common.{◌≡◌, ℕ, ℤ, ◌+◌, ◌*ℤ◌, refl, sym, ap, ◌∙◌, add-one}
use Rattle.std.specs.Int.{w64}
use Rattle.std.proofs.lemmas.Int.{int_wrap-mul_left}
use Rattle.krn_base.specs.Numbers.{wrap, power}
use Rattle.krn_base.proofs.laws.power_laws.Goals as goal

one_more : (a : ℤ) (k : ℕ) → power a (k + 1) ≡ power a k *ℤ a
unfolding power
one_more a k = ap (power a) (add-one k)

pub returns-clause-none : goal.returns-clause-none
unfolding power
returns-clause-none c = λ a. refl

pub returns-clause-one_more : goal.returns-clause-one_more
returns-clause-one_more c = one_more

pub returns-clause-wrapped : goal.returns-clause-wrapped
returns-clause-wrapped c = λ a k. ap wrap (one_more a k) ∙ sym (int_wrap-mul_left w64 (power a k) a)

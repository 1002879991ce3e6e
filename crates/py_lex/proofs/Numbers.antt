-- Numbers that are cut at the bound.
use Rattle.std.proofs.Common.{◌≡◌, ℕ, ◌^◌, min, nat_lt, is_some, Option, Some, None, refl, arith}
use Rattle.std.proofs.lemmas.Bool.Decides.{nat_tests}
use Rattle.py_lex.specs.Words.{is_in_range, below_bound}
use Rattle.py_lex.proofs.Choices.{by_test}

pub below_bound_capped : (n : ℕ) → below_bound (Some (min n (2 ^ 63))) ≡ below_bound (Some n)
below_bound_capped n = grind (arith, nat_tests)

pub below_bound_some : (o : Option ℕ) → is_some (below_bound o) ≡ is_in_range o
below_bound_some (Some n) = by_test (nat_lt n (2 ^ 63)) (λ e. grind (arith, nat_tests)) (λ e. grind (arith, nat_tests))
below_bound_some None = refl

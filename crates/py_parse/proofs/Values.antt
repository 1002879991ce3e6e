-- The value of a number's text.
use Rattle.std.proofs.Common.{◌≡◌, ℕ, Option, Some, None, pos, refl, arith}
use Rattle.std.proofs.lemmas.Bool.Decides.{nat_tests}
use Rattle.std.specs.Option.{unwrap_or}
use Rattle.py_lex.specs.Words.{below_bound}
use Rattle.py_parse.specs.Trees.{within}

pub within_bound : (o : Option ℕ) → unwrap_or (below_bound o) (pos 0) ≡ pos (within o)
within_bound (Some n) = grind (arith, nat_tests)
within_bound None = refl

-- Trailers behind an expression that ends in trailers.
use Rattle.std.proofs.Common.{◌≡◌, ◌≢◌, List, [], ◌∷◌, ◌++◌, length, refl, ap, rules}
use Rattle.py_parse.specs.Trees.{trailed, behind}
use Rattle.py_parse.specs.declared.tree.Expr.{Expr, out-Expr, the_lemmas}
use Rattle.py_parse.specs.declared.tree.Expr.TheVariants as e
use Rattle.py_parse.specs.declared.tree.Expr.TheOpen.{Expr-F}
use Rattle.py_parse.specs.declared.tree.Trailer.{Trailer}

out-primary : (head : Expr) (earlier : List Trailer) → out-Expr (e.Primary head earlier) ≡ Expr-F.Primary head earlier
out-primary head earlier = search (rules, the_lemmas)

pub trailed_primary : (head : Expr) (earlier more : List Trailer) → length more ≢ 0
    → trailed (e.Primary head earlier) more ≡ e.Primary head (earlier ++ more)
unfolding trailed
trailed_primary head earlier [] some = absurd (some refl)
trailed_primary head earlier (x ∷ xs) some = ap (behind (e.Primary head earlier) x xs) (out-primary head earlier)

-- The loops of a module, by the places of their `for`.
use Rattle.std.specs.Prelude.{List, [], ◌∷◌, ◌++◌, map}
use Rattle.krn_base.specs.declared.place.Loc.{Loc}
use Rattle.py_parse.specs.declared.tree.Expr.{Expr}
use Rattle.py_parse.specs.declared.tree.Function.{Function}
use Rattle.py_parse.specs.declared.tree.Stmt.{Stmt}
use Rattle.py_parse.specs.declared.tree.Stmt.TheOpen.{Stmt-F}
use Rattle.py_parse.specs.declared.tree.Stmt.TheFolds.{fold-Stmt}

abbrev pub joined : List (List Loc) → List Loc
joined [] = []
joined (a ∷ more) = a ++ joined more

abbrev pub of_arms : List (Loc × Expr × List (List Loc)) → List Loc
of_arms [] = []
of_arms (a ∷ more) = joined a.2 ++ of_arms more

-- the loops of a statement, from those of the statements of its blocks
abbrev pub of_layer : Stmt-F (List Loc) → List Loc
of_layer (Stmt-F.If arms other) = of_arms arms ++ joined other
of_layer (Stmt-F.For at variable range body) = at ∷ joined body
of_layer _ = []

abbrev pub loops_of : Stmt → List Loc
loops_of = fold-Stmt (List Loc) of_layer

abbrev pub block_loops : List Stmt → List Loc
block_loops block = joined (map loops_of block)

abbrev pub arm_loops : List (Loc × Expr × List Stmt) → List Loc
arm_loops arms = of_arms (map (λ a. (a.0, a.1, map loops_of a.2)) arms)

abbrev pub all_loops : List Function → List Loc
all_loops functions = joined (map (λ f. block_loops f.body) functions)

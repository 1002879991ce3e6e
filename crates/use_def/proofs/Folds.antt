-- Folds over statements at each form, and induction over statements.
use Rattle.std.proofs.Common.{◌≡◌, ◌∙◌, ap, sym, subst, List, map}
use Rattle.krn_base.specs.declared.operation.BinOp.{BinOp}
use Rattle.krn_base.specs.declared.place.Loc.{Loc}
use Rattle.py_parse.specs.declared.tree.Expr.{Expr}
use Rattle.py_parse.specs.declared.tree.Name.{Name}
use Rattle.py_parse.specs.declared.tree.Stmt.{Stmt}
use Rattle.py_parse.specs.declared.tree.Stmt.TheVariants as s
use Rattle.py_parse.specs.declared.tree.Stmt.TheOpen.{Stmt-F}
use Rattle.py_parse.specs.declared.tree.Stmt.TheFolds.{fold-Stmt, fold-roll-Stmt, map-Stmt, ind-Stmt}
use Rattle.py_parse.specs.declared.tree.Stmt.TheViews.{roll-Stmt}

module _ (A : Type 0) (step : Stmt-F A → A) where
  abbrev pub folded : Stmt → A
  folded = fold-Stmt A step

  pub fold_doc : folded s.Doc ≡ step Stmt-F.Doc
  fold_doc = ap folded (sym s.rolls-Doc) ∙ fold-roll-Stmt A step Stmt-F.Doc

  pub fold_pass : folded s.Pass ≡ step Stmt-F.Pass
  fold_pass = ap folded (sym s.rolls-Pass) ∙ fold-roll-Stmt A step Stmt-F.Pass

  pub fold_return : (at : Loc) (values : List Expr) → folded (s.Return at values) ≡ step (Stmt-F.Return at values)
  fold_return at values =
      ap folded (sym (s.rolls-Return at values)) ∙ fold-roll-Stmt A step (Stmt-F.Return at values)

  pub fold_alone : (x : Expr) → folded (s.Alone x) ≡ step (Stmt-F.Alone x)
  fold_alone x = ap folded (sym (s.rolls-Alone x)) ∙ fold-roll-Stmt A step (Stmt-F.Alone x)

  pub fold_assign : (target : Expr) (at : Loc) (value : Expr)
      → folded (s.Assign target at value) ≡ step (Stmt-F.Assign target at value)
  fold_assign target at value =
      ap folded (sym (s.rolls-Assign target at value)) ∙ fold-roll-Stmt A step (Stmt-F.Assign target at value)

  pub fold_augment : (target : Expr) (op : BinOp) (at : Loc) (value : Expr)
      → folded (s.Augment target op at value) ≡ step (Stmt-F.Augment target op at value)
  fold_augment target op at value =
      ap folded (sym (s.rolls-Augment target op at value))
      ∙ fold-roll-Stmt A step (Stmt-F.Augment target op at value)

  pub fold_if : (arms : List (Loc × Expr × List Stmt)) (otherwise : List Stmt) → folded (s.If arms otherwise)
      ≡ step (Stmt-F.If (map (λ arm. (arm.0, arm.1, map folded arm.2)) arms) (map folded otherwise))
  fold_if arms otherwise =
      ap folded (sym (s.rolls-If arms otherwise)) ∙ fold-roll-Stmt A step (Stmt-F.If arms otherwise)

  pub fold_for : (at : Loc) (variable : Name) (over : Expr) (body : List Stmt)
      → folded (s.For at variable over body) ≡ step (Stmt-F.For at variable over (map folded body))
  fold_for at variable over body =
      ap folded (sym (s.rolls-For at variable over body))
      ∙ fold-roll-Stmt A step (Stmt-F.For at variable over body)

-- a statement with its fact
abbrev pub Good : (Stmt → Type 0) → Type 0
Good P = (x : Stmt) × P x

-- what follows for a statement from its inner ones follows for all
pub by_layers : (P : Stmt → Type 0)
    → ((y : Stmt-F (Good P)) → P (roll-Stmt (map-Stmt (Good P) Stmt (λ g. g.0) y))) → (x : Stmt) → P x
by_layers P layer = ind-Stmt P (λ x y is. subst (λ (z : Stmt-F Stmt). P (roll-Stmt z)) is (layer y))

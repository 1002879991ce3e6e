-- A number for statements that falls from a statement to those of its blocks: the measure of the walk.
use Rattle.std.proofs.Common.{◌≡◌, ℕ, ◌+◌, ◌<◌, ◌≤◌, List, [], ◌∷◌, length, get_or, map, sum, refl, ap, sym, subst}
use Rattle.std.proofs.Common.{◌∙◌}
use Rattle.std.specs.List.{sum_by}
use Rattle.std.proofs.lemmas.List.Sums.{sum_by-cons, sum-map, get_or-le-sum_by}
use Rattle.krn_base.specs.declared.place.Loc.{Loc}
use Rattle.py_parse.specs.declared.tree.Expr.{Expr}
use Rattle.py_parse.specs.declared.tree.Name.{Name}
use Rattle.py_parse.specs.declared.tree.Stmt.{Stmt}
use Rattle.py_parse.specs.declared.tree.Stmt.TheVariants as s
use Rattle.py_parse.specs.declared.tree.Stmt.TheOpen.{Stmt-F}
use Rattle.py_parse.specs.declared.tree.Stmt.TheFolds.{fold-Stmt, fold-roll-Stmt}

abbrev weigh_arm : Loc × Expr × List ℕ → ℕ
weigh_arm arm = 1 + sum arm.2

abbrev weigh_step : Stmt-F ℕ → ℕ
weigh_step (Stmt-F.If arms otherwise) = 1 + (sum_by weigh_arm arms + sum otherwise)
weigh_step (Stmt-F.For at variable over body) = 1 + sum body
weigh_step _ = 1

pub weight : Stmt → ℕ
weight = fold-Stmt ℕ weigh_step

abbrev pub block_weight : List Stmt → ℕ
block_weight block = sum (map weight block)

abbrev pub arm_weight : Loc × Expr × List Stmt → ℕ
arm_weight arm = 1 + block_weight arm.2

abbrev pub arms_weight : List (Loc × Expr × List Stmt) → ℕ
arms_weight arms = sum_by arm_weight arms

mapped : {A B : Type 0} (f : B → ℕ) (g : A → B) (xs : List A) → sum_by f (map g xs) ≡ sum_by (λ x. f (g x)) xs
mapped f g [] = refl
mapped f g (x ∷ xs) =
    sum_by-cons f (g x) (map g xs) ∙ (ap (λ n. f (g x) + n) (mapped f g xs) ∙ sym (sum_by-cons (λ y. f (g y)) x xs))

pub weight_if : (arms : List (Loc × Expr × List Stmt)) (otherwise : List Stmt)
    → weight (s.If arms otherwise) ≡ 1 + (arms_weight arms + block_weight otherwise)
unfolding weight
weight_if arms otherwise =
    ap weight (sym (s.rolls-If arms otherwise))
    ∙ (fold-roll-Stmt ℕ weigh_step (Stmt-F.If arms otherwise)
    ∙ ap (λ n. 1 + (n + block_weight otherwise)) (mapped weigh_arm _ arms))

pub weight_for : (at : Loc) (variable : Name) (over : Expr) (body : List Stmt) → weight (s.For at variable over body)
    ≡ 1 + block_weight body
unfolding weight
weight_for at variable over body =
    ap weight (sym (s.rolls-For at variable over body)) ∙ fold-roll-Stmt ℕ weigh_step (Stmt-F.For at variable over body)

below : {A : Type 0} (f : A → ℕ) (xs : List A) (i : ℕ) (x : A) → i < length xs → x ≡ get_or xs i x → f x ≤ sum_by f xs
below f xs i x lt is = subst (λ y. f y ≤ sum_by f xs) (sym is) (get_or-le-sum_by f xs i x lt)

pub stmt_below : (block : List Stmt) (i : ℕ) (x : Stmt) → i < length block → x ≡ get_or block i x
    → weight x ≤ block_weight block
stmt_below block i x lt is = subst (λ n. weight x ≤ n) (sym (sum-map weight block)) (below weight block i x lt is)

pub arm_below : (arms : List (Loc × Expr × List Stmt)) (i : ℕ) (x : Loc × Expr × List Stmt) → i < length arms → x
    ≡ get_or arms i x
    → arm_weight x ≤ arms_weight arms
arm_below arms i x lt is = below arm_weight arms i x lt is

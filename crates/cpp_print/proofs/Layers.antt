-- Induction over statements, for facts of several folds.
use Rattle.std.proofs.Common.{◌≡◌, ◌∙◌, ap, subst, refl, List, [], ◌∷◌, map}
use Rattle.loop_prog.specs.declared.program.Statement.{Statement}
use Rattle.loop_prog.specs.declared.program.Statement.TheOpen as l
use Rattle.loop_prog.specs.declared.program.Statement.TheFolds.{map-Statement, ind-Statement}
use Rattle.loop_prog.specs.declared.program.Statement.TheViews.{roll-Statement}

-- a statement with its fact
abbrev pub Good : (Statement → Type 0) → Type 0
Good P = (x : Statement) × P x

module _ (P : Statement → Type 0) where
  pub fused_list : (A : Type 0) (h : Statement → A) (gs : List (Good P)) →
      map (λ (g : Good P). h g.0) gs ≡ map h (map (λ (g : Good P). g.0) gs)
  fused_list A h [] = λ i. []
  fused_list A h (g ∷ gs) = ap (λ (xs : List A). h g.0 ∷ xs) (fused_list A h gs)

  pub fused : (A : Type 0) (h : Statement → A) (y : l.Statement-F (Good P)) →
      map-Statement (Good P) A (λ g. h g.0) y ≡
      map-Statement Statement A h (map-Statement (Good P) Statement (λ g. g.0) y)
  fused A h (l.If cond part other) =
      ap (λ (xs : List A). l.If cond xs (map (λ (g : Good P). h g.0) other)) (fused_list A h part) ∙
      ap (λ (xs : List A). l.If cond (map h (map (λ (g : Good P). g.0) part)) xs) (fused_list A h other)
  fused A h (l.For var lo hi by at body) =
      ap (λ (xs : List A). l.For var lo hi by at xs) (fused_list A h body)
  fused A h (l.ParFor var lo hi by at guard reductions privates body) =
      ap (λ (xs : List A). l.ParFor var lo hi by at guard reductions privates xs) (fused_list A h body)
  fused A h (l.Set to op args at) = refl
  fused A h (l.Extent to of axis) = refl
  fused A h (l.Get to of index at) = refl
  fused A h (l.Put of index value at) = refl
  fused A h (l.ViewOf to of subs at) = refl
  fused A h (l.Flip to of) = refl
  fused A h (l.Same to of) = refl
  fused A h (l.Fresh to dims fill at) = refl
  fused A h (l.Like to views at) = refl
  fused A h (l.Check test views at) = refl
  fused A h (l.Nest to template at) = refl
  fused A h (l.Fold to join template at) = refl
  fused A h (l.Release v) = refl
  fused A h (l.Return values) = refl

  -- what follows for a statement from its inner ones follows for all
  pub by_layers : ((y : l.Statement-F (Good P)) → P (roll-Statement (map-Statement (Good P) Statement (λ g. g.0) y))) →
      (x : Statement) → P x
  by_layers layer = ind-Statement P (λ x y is. subst (λ (z : l.Statement-F Statement). P (roll-Statement z)) is
      (layer y))

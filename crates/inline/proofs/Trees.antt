-- Induction over statements, for facts of two folds.
use Rattle.std.proofs.Common.{◌≡◌, ◌∙◌, ap, subst, refl, List, [], ◌∷◌, map}
use Rattle.eager_rules.specs.declared.program.Core.{Core}
use Rattle.eager_rules.specs.declared.program.Core.TheOpen as c
use Rattle.eager_rules.specs.declared.program.Core.TheFolds.{map-Core, ind-Core}
use Rattle.eager_rules.specs.declared.program.Core.TheViews.{roll-Core}

-- a statement with its fact
abbrev pub Good : (Core → Type 0) → Type 0
Good P = (x : Core) × P x

module _ (P : Core → Type 0) where
  pub fused_list : (A : Type 0) (h : Core → A) (gs : List (Good P)) →
      map (λ (g : Good P). h g.0) gs ≡ map h (map (λ (g : Good P). g.0) gs)
  fused_list A h [] = λ i. []
  fused_list A h (g ∷ gs) = ap (λ (xs : List A). h g.0 ∷ xs) (fused_list A h gs)

  pub fused : (A : Type 0) (h : Core → A) (y : c.Core-F (Good P)) →
      map-Core (Good P) A (λ g. h g.0) y ≡ map-Core Core A h (map-Core (Good P) Core (λ g. g.0) y)
  fused A h (c.If cond part other) =
      ap (λ (xs : List A). c.If cond xs (map (λ (g : Good P). h g.0) other)) (fused_list A h part) ∙
      ap (λ (xs : List A). c.If cond (map h (map (λ (g : Good P). g.0) part)) xs) (fused_list A h other)
  fused A h (c.For var lo hi by at omp body) =
      ap (λ (xs : List A). c.For var lo hi by at omp xs) (fused_list A h body)
  fused A h (c.Word to op args at) = refl
  fused A h (c.Extent to of axis) = refl
  fused A h (c.Get to of index at) = refl
  fused A h (c.Put of index value at) = refl
  fused A h (c.Pick to of subs at) = refl
  fused A h (c.Flip to of) = refl
  fused A h (c.Alias to of) = refl
  fused A h (c.Fresh to dims fill at) = refl
  fused A h (c.Map to op args at) = refl
  fused A h (c.Reduce to op of at) = refl
  fused A h (c.Store of value at) = refl
  fused A h (c.Call to instance args) = refl
  fused A h (c.Return values) = refl

  -- what follows for a statement from its inner ones follows for all
  pub by_layers : ((y : c.Core-F (Good P)) → P (roll-Core (map-Core (Good P) Core (λ g. g.0) y))) → (x : Core) → P x
  by_layers layer = ind-Core P (λ x y is. subst (λ (z : c.Core-F Core). P (roll-Core z)) is (layer y))

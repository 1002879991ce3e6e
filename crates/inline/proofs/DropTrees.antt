-- Induction over statements, for what idle calls that are left out leave as it is.
use Rattle.std.proofs.Common.{◌≡◌, ◌∙◌, ap, sym, subst, refl, ℕ, Bool, true, false, ◌&&◌, List, [], ◌∷◌, map}
use Rattle.std.proofs.Common.{Option}
use Rattle.std.specs.List.{AllByRecursion}
use Rattle.krn_base.specs.declared.operation.Join.{Join}
use Rattle.krn_base.specs.declared.place.Loc.{Loc}
use Rattle.eager_rules.specs.declared.program.Core.{Core}
use Rattle.eager_rules.specs.declared.program.Core.TheOpen as c
use Rattle.eager_rules.specs.declared.program.Core.TheVariants as v
use Rattle.eager_rules.specs.declared.program.Core.TheFolds.{fold-Core, map-Core, fold-roll-Core}
use Rattle.eager_rules.specs.declared.program.Core.TheViews.{roll-Core}
use Rattle.eager_rules.specs.declared.program.Oper.{Oper}
use Rattle.inline.specs.Dropped.{drop_step, unless_idle, without}
use Rattle.inline.specs.Idle.{is_none}
use Rattle.inline.specs.Own.{joined}
use Rattle.inline.proofs.Trees.{Good, by_layers, fused, fused_list}

-- a statement that has no block and calls nothing
abbrev pub IsLeaf : {A : Type 0} → c.Core-F A → Type 0
IsLeaf (c.If cond part other) = ⊥
IsLeaf (c.For var lo hi by at omp body) = ⊥
IsLeaf (c.Call to instance args) = ⊥
IsLeaf _ = Unit {0}

abbrev pub drop : (ℕ → Bool) → Core → List Core
drop calm = fold-Core (List Core) (drop_step calm)

module _ (calm : ℕ → Bool) (Q : Core → List Core → Type 0) where
  -- a fact of a statement and of what stands for it
  abbrev pub Stands : Core → Type 0
  Stands x = Q x (drop calm x)

  module _ (leaf : (y : c.Core-F Core) → IsLeaf y → Q (roll-Core y) (roll-Core y ∷ []))
      (kept : (to : List ℕ) (k : ℕ) (xs : List Oper) → is_none to && calm k ≡ false →
      Q (roll-Core (c.Call to k xs)) (roll-Core (c.Call to k xs) ∷ []))
      (idle : (k : ℕ) (xs : List Oper) → calm k ≡ true → Q (roll-Core (c.Call [] k xs)) [])
      (at_if : (cond : Oper) (part other : List Core) → AllByRecursion Stands part → AllByRecursion Stands other →
      Q (roll-Core (c.If cond part other)) (roll-Core (c.If cond (without calm part) (without calm other)) ∷ []))
      (at_for : (var : ℕ) (lo hi by : Oper) (at : Loc) (omp : Option (List (Join × ℕ))) (body : List Core) →
      AllByRecursion Stands body →
      Q (roll-Core (c.For var lo hi by at omp body)) (roll-Core (c.For var lo hi by at omp (without calm body)) ∷ []))
    where
      abbrev cores : List (Good Stands) → List Core
      cores gs = map (λ (g : Good Stands). g.0) gs

      abbrev drops : List (Good Stands) → List (List Core)
      drops gs = map (λ (g : Good Stands). drop calm g.0) gs

      all_stand : (gs : List (Good Stands)) → AllByRecursion Stands (cores gs)
      all_stand [] = tt
      all_stand (g ∷ gs) = (g.1, all_stand gs)

      without_is : (gs : List (Good Stands)) → without calm (cores gs) ≡ joined (drops gs)
      without_is gs = ap (λ (xs : List (List Core)). joined xs) (sym (fused_list Stands (List Core) (drop calm) gs))

      by_leaf : (y : c.Core-F Core) (x : Core) → IsLeaf y → roll-Core y ≡ x → Q (roll-Core y) (x ∷ [])
      by_leaf y x is e = subst (λ (z : Core). Q (roll-Core y) (z ∷ [])) e (leaf y is)

      by_call : (to : List ℕ) (k : ℕ) (xs : List Oper) →
          Q (roll-Core (c.Call to k xs)) (unless_idle (is_none to && calm k) (v.Call to k xs))
      by_call [] k xs = by_test (calm k) refl
        where
          by_test : (b : Bool) → calm k ≡ b → Q (roll-Core (c.Call [] k xs)) (unless_idle b (v.Call [] k xs))
          by_test true e = idle k xs e
          by_test false e =
              subst (λ (z : Core). Q (roll-Core (c.Call [] k xs)) (z ∷ [])) (v.rolls-Call [] k xs) (kept [] k xs e)
      by_call (n ∷ to) k xs =
          subst (λ (z : Core). Q (roll-Core (c.Call (n ∷ to) k xs)) (z ∷ [])) (v.rolls-Call (n ∷ to) k xs)
          (kept (n ∷ to) k xs refl)

      by_case : (y : c.Core-F (Good Stands)) → Q (roll-Core (map-Core (Good Stands) Core (λ g. g.0) y))
          (drop_step calm (map-Core (Good Stands) (List Core) (λ g. drop calm g.0) y))
      by_case (c.Word to op args at) =
          by_leaf (c.Word to op args at) (v.Word to op args at) tt (v.rolls-Word to op args at)
      by_case (c.Extent to of axis) =
          by_leaf (c.Extent to of axis) (v.Extent to of axis) tt (v.rolls-Extent to of axis)
      by_case (c.Get to of index at) =
          by_leaf (c.Get to of index at) (v.Get to of index at) tt (v.rolls-Get to of index at)
      by_case (c.Put of index value at) =
          by_leaf (c.Put of index value at) (v.Put of index value at) tt (v.rolls-Put of index value at)
      by_case (c.Pick to of subs at) =
          by_leaf (c.Pick to of subs at) (v.Pick to of subs at) tt (v.rolls-Pick to of subs at)
      by_case (c.Flip to of) = by_leaf (c.Flip to of) (v.Flip to of) tt (v.rolls-Flip to of)
      by_case (c.Alias to of) = by_leaf (c.Alias to of) (v.Alias to of) tt (v.rolls-Alias to of)
      by_case (c.Fresh to dims fill at) =
          by_leaf (c.Fresh to dims fill at) (v.Fresh to dims fill at) tt (v.rolls-Fresh to dims fill at)
      by_case (c.Map to op args at) =
          by_leaf (c.Map to op args at) (v.Map to op args at) tt (v.rolls-Map to op args at)
      by_case (c.Reduce to op of at) =
          by_leaf (c.Reduce to op of at) (v.Reduce to op of at) tt (v.rolls-Reduce to op of at)
      by_case (c.Store of value at) =
          by_leaf (c.Store of value at) (v.Store of value at) tt (v.rolls-Store of value at)
      by_case (c.Call to k xs) = by_call to k xs
      by_case (c.If cond part other) =
          subst (λ (z : Core). Q (roll-Core (c.If cond (cores part) (cores other))) (z ∷ []))
          (ap (λ (xs : List Core). roll-Core (c.If cond xs (without calm (cores other)))) (without_is part) ∙
          (ap (λ (xs : List Core). roll-Core (c.If cond (joined (drops part)) xs)) (without_is other) ∙
          v.rolls-If cond (joined (drops part)) (joined (drops other))))
          (at_if cond (cores part) (cores other) (all_stand part) (all_stand other))
      by_case (c.For var lo hi by at omp body) =
          subst (λ (z : Core). Q (roll-Core (c.For var lo hi by at omp (cores body))) (z ∷ []))
          (ap (λ (xs : List Core). roll-Core (c.For var lo hi by at omp xs)) (without_is body) ∙
          v.rolls-For var lo hi by at omp (joined (drops body)))
          (at_for var lo hi by at omp (cores body) (all_stand body))
      by_case (c.Return values) = by_leaf (c.Return values) (v.Return values) tt (v.rolls-Return values)

      layer : (y : c.Core-F (Good Stands)) → Stands (roll-Core (map-Core (Good Stands) Core (λ g. g.0) y))
      layer y =
          let x : c.Core-F Core = map-Core (Good Stands) Core (λ g. g.0) y in
          let same : drop_step calm (map-Core (Good Stands) (List Core) (λ g. drop calm g.0) y) ≡
          drop calm (roll-Core x) =
          ap (drop_step calm) (fused Stands (List Core) (drop calm) y) ∙
          sym (fold-roll-Core (List Core) (drop_step calm) x) in
          subst (λ (xs : List Core). Q (roll-Core x) xs) same (by_case y)

      pub stands : (x : Core) → Stands x
      stands = by_layers Stands layer

      pub all_bodies : (body : List Core) → AllByRecursion Stands body
      all_bodies [] = tt
      all_bodies (x ∷ body) = (stands x, all_bodies body)

-- Induction over statements, for facts of two folds and for what folding keeps.
use Rattle.std.proofs.Common.{◌≡◌, ◌∙◌, ap, sym, subst, subst₂, refl, ℕ, true, false, List, [], ◌∷◌, map}
use Rattle.std.proofs.Common.{Option, Some, None}
use Rattle.std.specs.List.{AllByRecursion}
use Rattle.krn_base.specs.declared.operation.Join.{Join}
use Rattle.krn_base.specs.declared.place.Loc.{Loc}
use Rattle.eager_rules.specs.declared.program.Core.{Core}
use Rattle.eager_rules.specs.declared.program.Core.TheOpen as c
use Rattle.eager_rules.specs.declared.program.Core.TheFolds.{fold-Core, map-Core, fold-roll-Core, ind-Core}
use Rattle.eager_rules.specs.declared.program.Core.TheVariants as v
use Rattle.eager_rules.specs.declared.program.Core.TheViews.{roll-Core}
use Rattle.eager_rules.specs.declared.program.Oper.{Oper}
use Rattle.eager_rules.specs.declared.program.Oper.TheVariants as oper
use Rattle.eager_rules.specs.declared.program.WordOp.{WordOp}
use Rattle.inline.specs.Own.{joined}
use Rattle.const_fold.specs.Folded.{Literals, fold_step, folded, folded_block, folded_sub, if_or_part, known}
use Rattle.const_fold.specs.Folded.{unless_known}

-- a statement with its fact
abbrev pub Good : (Core → Type 0) → Type 0
Good P = (x : Core) × P x

module _ (P : Core → Type 0) where
  pub fused_list : (A : Type 0) (h : Core → A) (gs : List (Good P)) →
      map (λ (g : Good P). h g.0) gs ≡ map h (map (λ (g : Good P). g.0) gs)
  fused_list A h [] = λ i. []
  fused_list A h (g ∷ gs) = ap (λ (xs : List A). h g.0 ∷ xs) (fused_list A h gs)

  pub fused : (A : Type 0) (h : Core → A) (y : c.Core-F (Good P)) →
      map-Core (Good P) A (λ g. h g.0) y ≡ map-Core Core A h (map-Core (Good P) Core (λ g. g.0) y)
  fused A h (c.If cond part other) =
      ap (λ (xs : List A). c.If cond xs (map (λ (g : Good P). h g.0) other)) (fused_list A h part) ∙
      ap (λ (xs : List A). c.If cond (map h (map (λ (g : Good P). g.0) part)) xs) (fused_list A h other)
  fused A h (c.For var lo hi by at omp body) =
      ap (λ (xs : List A). c.For var lo hi by at omp xs) (fused_list A h body)
  fused A h (c.Word to op args at) = refl
  fused A h (c.Extent to of axis) = refl
  fused A h (c.Get to of index at) = refl
  fused A h (c.Put of index value at) = refl
  fused A h (c.Pick to of subs at) = refl
  fused A h (c.Flip to of) = refl
  fused A h (c.Alias to of) = refl
  fused A h (c.Fresh to dims fill at) = refl
  fused A h (c.Map to op args at) = refl
  fused A h (c.Reduce to op of at) = refl
  fused A h (c.Store of value at) = refl
  fused A h (c.Call to instance args) = refl
  fused A h (c.Return values) = refl

  -- what follows for a statement from its inner ones follows for all
  pub by_layers : ((y : c.Core-F (Good P)) → P (roll-Core (map-Core (Good P) Core (λ g. g.0) y))) → (x : Core) → P x
  by_layers layer = ind-Core P (λ x y is. subst (λ (z : c.Core-F Core). P (roll-Core z)) is (layer y))

-- a relation of two folds
module _ (A B : Type 0) (one : c.Core-F A → A) (two : c.Core-F B → B) (R : A → B → Type 0) where
  abbrev pub Both : Core → Type 0
  Both x = R (fold-Core A one x) (fold-Core B two x)

  abbrev pub firsts : List (Good Both) → List A
  firsts gs = map (λ (g : Good Both). fold-Core A one g.0) gs

  abbrev pub seconds : List (Good Both) → List B
  seconds gs = map (λ (g : Good Both). fold-Core B two g.0) gs

  same_fold : (C : Type 0) (step : c.Core-F C → C) (y : c.Core-F (Good Both)) →
      step (map-Core (Good Both) C (λ g. fold-Core C step g.0) y) ≡
      fold-Core C step (roll-Core (map-Core (Good Both) Core (λ g. g.0) y))
  same_fold C step y =
      ap step (fused Both C (fold-Core C step) y) ∙
      sym (fold-roll-Core C step (map-Core (Good Both) Core (λ g. g.0) y))

  pub by_both : ((y : c.Core-F (Good Both)) → R (one (map-Core (Good Both) A (λ g. fold-Core A one g.0) y))
      (two (map-Core (Good Both) B (λ g. fold-Core B two g.0) y))) → (x : Core) → Both x
  by_both layer = by_layers Both (λ y. subst₂ R (same_fold A one y) (same_fold B two y) (layer y))

-- ---- a statement and what stands for it
-- a statement without blocks
abbrev pub IsLeaf : {A : Type 0} → c.Core-F A → Type 0
IsLeaf (c.If cond part other) = ⊥
IsLeaf (c.For var lo hi by at omp body) = ⊥
IsLeaf _ = Unit {0}

-- a statement that doesn't go
abbrev pub IsStaying : Literals → {A : Type 0} → c.Core-F A → Type 0
IsStaying table (c.Word to op args at) = known table to ≡ None
IsStaying table _ = Unit {0}

module _ (table : Literals) where
  -- a statement with literals for its operands
  abbrev pub with_literals : {A : Type 0} → c.Core-F A → c.Core-F A
  with_literals (c.Word to op args at) = c.Word to op (map (folded table) args) at
  with_literals (c.Extent to of axis) = c.Extent to of axis
  with_literals (c.Get to of index at) = c.Get to of (map (folded table) index) at
  with_literals (c.Put of index value at) = c.Put of (map (folded table) index) (folded table value) at
  with_literals (c.Pick to of subs at) = c.Pick to of (map (folded_sub table) subs) at
  with_literals (c.Flip to of) = c.Flip to of
  with_literals (c.Alias to of) = c.Alias to of
  with_literals (c.Fresh to dims fill at) = c.Fresh to (map (folded table) dims) fill at
  with_literals (c.Map to op args at) = c.Map to op (map (folded table) args) at
  with_literals (c.Reduce to op of at) = c.Reduce to op of at
  with_literals (c.Store of value at) = c.Store of (folded table value) at
  with_literals (c.Call to instance args) = c.Call to instance (map (folded table) args)
  with_literals (c.If cond part other) = c.If (folded table cond) part other
  with_literals (c.For var lo hi by at omp body) =
      c.For var (folded table lo) (folded table hi) (folded table by) at omp body
  with_literals (c.Return values) = c.Return (map (folded table) values)

  pub mapped : (A : Type 0) (h : Core → A) (y : c.Core-F Core) →
      map-Core Core A h (with_literals y) ≡ with_literals (map-Core Core A h y)
  mapped A h (c.Word to op args at) = refl
  mapped A h (c.Extent to of axis) = refl
  mapped A h (c.Get to of index at) = refl
  mapped A h (c.Put of index value at) = refl
  mapped A h (c.Pick to of subs at) = refl
  mapped A h (c.Flip to of) = refl
  mapped A h (c.Alias to of) = refl
  mapped A h (c.Fresh to dims fill at) = refl
  mapped A h (c.Map to op args at) = refl
  mapped A h (c.Reduce to op of at) = refl
  mapped A h (c.Store of value at) = refl
  mapped A h (c.Call to instance args) = refl
  mapped A h (c.If cond part other) = refl
  mapped A h (c.For var lo hi by at omp body) = refl
  mapped A h (c.Return values) = refl

  -- a step that takes literals as it takes operands
  pub same_layer : (A : Type 0) (step : c.Core-F A → A) → ((y : c.Core-F A) → step (with_literals y) ≡ step y) →
      (y : c.Core-F Core) → fold-Core A step (roll-Core (with_literals y)) ≡ fold-Core A step (roll-Core y)
  same_layer A step same y =
      fold-roll-Core A step (with_literals y) ∙ (ap step (mapped A (fold-Core A step) y) ∙
      (same (map-Core Core A (fold-Core A step) y) ∙ sym (fold-roll-Core A step y)))

  abbrev pub fold_one : Core → List Core
  fold_one = fold-Core (List Core) (fold_step table)

  -- an `If` by its condition
  abbrev pub if_cores : Oper → List Core → List Core → List Core
  if_cores (oper.Truth true) part other = part
  if_cores (oper.Truth false) part other = other
  if_cores cond part other = roll-Core (c.If cond part other) ∷ []

  module _ (Q : Core → List Core → Type 0) where
    -- a fact of a statement and of what stands for it
    abbrev pub Stands : Core → Type 0
    Stands x = Q x (fold_one x)

    module _ (leaf : (y : c.Core-F Core) → IsLeaf y → IsStaying table y →
        Q (roll-Core y) (roll-Core (with_literals y) ∷ []))
        (gone : (to : ℕ) (op : WordOp) (args : List Oper) (at : Loc) (l : Oper) → known table to ≡ Some l →
        Q (roll-Core (c.Word to op args at)) [])
        (at_if : (cond : Oper) (part other : List Core) → AllByRecursion Stands part → AllByRecursion Stands other →
        Q (roll-Core (c.If cond part other))
        (if_cores (folded table cond) (folded_block table part) (folded_block table other)))
        (at_for : (var : ℕ) (lo hi by : Oper) (at : Loc) (omp : Option (List (Join × ℕ))) (body : List Core) →
        AllByRecursion Stands body → Q (roll-Core (c.For var lo hi by at omp body))
        (roll-Core (with_literals (c.For var lo hi by at omp (folded_block table body))) ∷ []))
      where
        abbrev cores : List (Good Stands) → List Core
        cores gs = map (λ (g : Good Stands). g.0) gs

        abbrev folds : List (Good Stands) → List (List Core)
        folds gs = map (λ (g : Good Stands). fold_one g.0) gs

        all_stand : (gs : List (Good Stands)) → AllByRecursion Stands (cores gs)
        all_stand [] = tt
        all_stand (g ∷ gs) = (g.1, all_stand gs)

        block_is : (gs : List (Good Stands)) → folded_block table (cores gs) ≡ joined (folds gs)
        block_is gs = ap (λ (xs : List (List Core)). joined xs) (sym (fused_list Stands (List Core) fold_one gs))

        by_leaf : (y : c.Core-F Core) (x : Core) → IsLeaf y → IsStaying table y → roll-Core (with_literals y) ≡ x →
            Q (roll-Core y) (x ∷ [])
        by_leaf y x is stays e = subst (λ (z : Core). Q (roll-Core y) (z ∷ [])) e (leaf y is stays)

        by_word : (to : ℕ) (op : WordOp) (args : List Oper) (at : Loc) (o : Option Oper) → known table to ≡ o →
            Q (roll-Core (c.Word to op args at)) (unless_known o (v.Word to op (map (folded table) args) at))
        by_word to op args at None e =
            by_leaf (c.Word to op args at) (v.Word to op (map (folded table) args) at) tt e
            (v.rolls-Word to op (map (folded table) args) at)
        by_word to op args at (Some l) e = gone to op args at l e

        same_if : (x : Oper) (part other : List Core) → if_cores x part other ≡ if_or_part x part other
        same_if (oper.Truth true) part other = refl
        same_if (oper.Truth false) part other = refl
        same_if (oper.Int z) part other =
            ap (λ (y : Core). y ∷ []) (v.rolls-If (oper.Int z) part other)
        same_if (oper.Name name) part other =
            ap (λ (y : Core). y ∷ []) (v.rolls-If (oper.Name name) part other)

        by_case : (y : c.Core-F (Good Stands)) → Q (roll-Core (map-Core (Good Stands) Core (λ g. g.0) y))
            (fold_step table (map-Core (Good Stands) (List Core) (λ g. fold_one g.0) y))
        by_case (c.Word to op args at) = by_word to op args at (known table to) refl
        by_case (c.Extent to of axis) =
            by_leaf (c.Extent to of axis) (v.Extent to of axis) tt tt (v.rolls-Extent to of axis)
        by_case (c.Get to of index at) =
            by_leaf (c.Get to of index at) (v.Get to of (map (folded table) index) at) tt tt
            (v.rolls-Get to of (map (folded table) index) at)
        by_case (c.Put of index value at) =
            by_leaf (c.Put of index value at) (v.Put of (map (folded table) index) (folded table value) at) tt tt
            (v.rolls-Put of (map (folded table) index) (folded table value) at)
        by_case (c.Pick to of subs at) =
            by_leaf (c.Pick to of subs at) (v.Pick to of (map (folded_sub table) subs) at) tt tt
            (v.rolls-Pick to of (map (folded_sub table) subs) at)
        by_case (c.Flip to of) = by_leaf (c.Flip to of) (v.Flip to of) tt tt (v.rolls-Flip to of)
        by_case (c.Alias to of) = by_leaf (c.Alias to of) (v.Alias to of) tt tt (v.rolls-Alias to of)
        by_case (c.Fresh to dims fill at) =
            by_leaf (c.Fresh to dims fill at) (v.Fresh to (map (folded table) dims) fill at) tt tt
            (v.rolls-Fresh to (map (folded table) dims) fill at)
        by_case (c.Map to op args at) =
            by_leaf (c.Map to op args at) (v.Map to op (map (folded table) args) at) tt tt
            (v.rolls-Map to op (map (folded table) args) at)
        by_case (c.Reduce to op of at) =
            by_leaf (c.Reduce to op of at) (v.Reduce to op of at) tt tt (v.rolls-Reduce to op of at)
        by_case (c.Store of value at) =
            by_leaf (c.Store of value at) (v.Store of (folded table value) at) tt tt
            (v.rolls-Store of (folded table value) at)
        by_case (c.Call to k xs) =
            by_leaf (c.Call to k xs) (v.Call to k (map (folded table) xs)) tt tt
            (v.rolls-Call to k (map (folded table) xs))
        by_case (c.If cond part other) =
            subst (λ (xs : List Core). Q (roll-Core (c.If cond (cores part) (cores other))) xs)
            (ap (λ (xs : List Core). if_cores (folded table cond) xs (folded_block table (cores other)))
            (block_is part) ∙
            (ap (λ (xs : List Core). if_cores (folded table cond) (joined (folds part)) xs) (block_is other) ∙
            same_if (folded table cond) (joined (folds part)) (joined (folds other))))
            (at_if cond (cores part) (cores other) (all_stand part) (all_stand other))
        by_case (c.For var lo hi by at omp body) =
            subst (λ (z : Core). Q (roll-Core (c.For var lo hi by at omp (cores body))) (z ∷ []))
            (ap (λ (xs : List Core). roll-Core (with_literals (c.For var lo hi by at omp xs))) (block_is body) ∙
            v.rolls-For var (folded table lo) (folded table hi) (folded table by) at omp (joined (folds body)))
            (at_for var lo hi by at omp (cores body) (all_stand body))
        by_case (c.Return values) =
            by_leaf (c.Return values) (v.Return (map (folded table) values)) tt tt
            (v.rolls-Return (map (folded table) values))

        layer : (y : c.Core-F (Good Stands)) → Stands (roll-Core (map-Core (Good Stands) Core (λ g. g.0) y))
        layer y =
            let x : c.Core-F Core = map-Core (Good Stands) Core (λ g. g.0) y in
            let same : fold_step table (map-Core (Good Stands) (List Core) (λ g. fold_one g.0) y) ≡
            fold_one (roll-Core x) =
            ap (fold_step table) (fused Stands (List Core) fold_one y) ∙
            sym (fold-roll-Core (List Core) (fold_step table) x) in
            subst (λ (xs : List Core). Q (roll-Core x) xs) same (by_case y)

        stands : (x : Core) → Stands x
        stands = by_layers Stands layer

        pub all_bodies : (body : List Core) → AllByRecursion Stands body
        all_bodies [] = tt
        all_bodies (x ∷ body) = (stands x, all_bodies body)

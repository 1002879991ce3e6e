-- What statements mean, one level unfolded, and blocks of them.
use Rattle.std.proofs.Common.{◌≡◌, ◌∙◌, ap, sym, refl, List, [], ◌∷◌, ◌++◌}
use Rattle.eager_rules.specs.Blocks.{Meaning, End, GoesOn, Returned, Faulted, Stuck, in_order, then_do}
use Rattle.eager_rules.specs.Eager.{Calls, block, meaning, statement}
use Rattle.eager_rules.specs.State.{State}
use Rattle.eager_rules.specs.declared.program.Core.{Core}
use Rattle.eager_rules.specs.declared.program.Core.TheOpen as c
use Rattle.eager_rules.specs.declared.program.Core.TheFolds.{map-Core, fold-roll-Core}
use Rattle.eager_rules.specs.declared.program.Core.TheViews.{roll-Core}

module _ (calls : Calls) where
  means : (y : c.Core-F Core) (x : Core) → roll-Core y ≡ x →
      meaning calls x ≡ statement calls (map-Core Core (Meaning State) (meaning calls) y)
  means y x is = ap (meaning calls) (sym is) ∙ fold-roll-Core (Meaning State) (statement calls) y

  -- nothing follows
  pub then_nothing : (q : State × End) → then_do q (in_order []) ≡ q
  then_nothing (s, GoesOn) = refl
  then_nothing (s, Returned values) = refl
  then_nothing (s, Faulted fault at) = refl
  then_nothing (s, Stuck) = refl

  pub block_one : (y : c.Core-F Core) (x : Core) → roll-Core y ≡ x → (t : State) →
      block calls (x ∷ []) t ≡ statement calls (map-Core Core (Meaning State) (meaning calls) y) t
  block_one y x is t = then_nothing (meaning calls x t) ∙ ap (λ (m : Meaning State). m t) (means y x is)

  then_joined : (xs ys : List Core) (q : State × End) →
      ((t : State) → block calls (xs ++ ys) t ≡ then_do (block calls xs t) (block calls ys)) →
      then_do q (block calls (xs ++ ys)) ≡ then_do (then_do q (block calls xs)) (block calls ys)
  then_joined xs ys (t, GoesOn) h = h t
  then_joined xs ys (t, Returned values) h = refl
  then_joined xs ys (t, Faulted fault at) h = refl
  then_joined xs ys (t, Stuck) h = refl

  -- two blocks, the second behind the first
  pub block_joined : (xs ys : List Core) (t : State) →
      block calls (xs ++ ys) t ≡ then_do (block calls xs t) (block calls ys)
  block_joined [] ys t = refl
  block_joined (x ∷ xs) ys t = then_joined xs ys (meaning calls x t) (block_joined xs ys)

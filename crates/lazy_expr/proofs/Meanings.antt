-- What statements of the loop program mean, one level unfolded, and blocks of them.
use Rattle.std.proofs.Common.{◌≡◌, ◌∙◌, ap, sym, refl, ℕ, List, [], ◌∷◌, ◌++◌, map, Option}
use Rattle.krn_base.specs.declared.kind.Kind.{Kind}
use Rattle.krn_base.specs.declared.operation.Join.{Join}
use Rattle.krn_base.specs.declared.place.Loc.{Loc}
use Rattle.array_ops.specs.declared.operation.Fill.{Fill}
use Rattle.eager_rules.specs.Blocks.{Meaning, End, GoesOn, Returned, Faulted, Stuck, then_do}
use Rattle.eager_rules.specs.declared.program.CoreSub.{CoreSub}
use Rattle.eager_rules.specs.declared.program.Oper.{Oper}
use Rattle.eager_rules.specs.declared.program.WordOp.{WordOp}
use Rattle.loop_prog.specs.Serial.{block, meaning, statement}
use Rattle.loop_prog.specs.State.{State}
use Rattle.loop_prog.specs.declared.guard.Guard.{Guard}
use Rattle.loop_prog.specs.declared.program.Back.{Back}
use Rattle.loop_prog.specs.declared.program.Reg.{Reg}
use Rattle.loop_prog.specs.declared.program.Statement.{Statement}
use Rattle.loop_prog.specs.declared.program.Statement.TheVariants as v
use Rattle.loop_prog.specs.declared.program.Statement.TheOpen as l
use Rattle.loop_prog.specs.declared.program.Statement.TheFolds.{fold-roll-Statement}
use Rattle.loop_prog.specs.declared.program.Template.{Template}
use Rattle.loop_prog.specs.declared.program.Test.{Test}

module _ (kinds : List Kind) where
  pub means_Set : (to : ℕ) (op : WordOp) (args : List Oper) (at : Loc) →
      meaning kinds (v.Set to op args at) ≡ statement kinds (l.Set to op args at)
  means_Set to op args at = ap (meaning kinds) (sym (v.rolls-Set to op args at)) ∙
      fold-roll-Statement (Meaning State) (statement kinds) (l.Set to op args at)

  pub means_Extent : (to of : ℕ) (axis : Option ℕ) →
      meaning kinds (v.Extent to of axis) ≡ statement kinds (l.Extent to of axis)
  means_Extent to of axis = ap (meaning kinds) (sym (v.rolls-Extent to of axis)) ∙
      fold-roll-Statement (Meaning State) (statement kinds) (l.Extent to of axis)

  pub means_Get : (to of : ℕ) (index : List Oper) (at : Loc) →
      meaning kinds (v.Get to of index at) ≡ statement kinds (l.Get to of index at)
  means_Get to of index at = ap (meaning kinds) (sym (v.rolls-Get to of index at)) ∙
      fold-roll-Statement (Meaning State) (statement kinds) (l.Get to of index at)

  pub means_Put : (of : ℕ) (index : List Oper) (value : Oper) (at : Loc) →
      meaning kinds (v.Put of index value at) ≡ statement kinds (l.Put of index value at)
  means_Put of index value at = ap (meaning kinds) (sym (v.rolls-Put of index value at)) ∙
      fold-roll-Statement (Meaning State) (statement kinds) (l.Put of index value at)

  pub means_ViewOf : (to of : ℕ) (subs : List CoreSub) (at : Loc) →
      meaning kinds (v.ViewOf to of subs at) ≡ statement kinds (l.ViewOf to of subs at)
  means_ViewOf to of subs at = ap (meaning kinds) (sym (v.rolls-ViewOf to of subs at)) ∙
      fold-roll-Statement (Meaning State) (statement kinds) (l.ViewOf to of subs at)

  pub means_Flip : (to of : ℕ) → meaning kinds (v.Flip to of) ≡ statement kinds (l.Flip to of)
  means_Flip to of = ap (meaning kinds) (sym (v.rolls-Flip to of)) ∙
      fold-roll-Statement (Meaning State) (statement kinds) (l.Flip to of)

  pub means_Same : (to of : ℕ) → meaning kinds (v.Same to of) ≡ statement kinds (l.Same to of)
  means_Same to of = ap (meaning kinds) (sym (v.rolls-Same to of)) ∙
      fold-roll-Statement (Meaning State) (statement kinds) (l.Same to of)

  pub means_Fresh : (to : ℕ) (dims : List Oper) (fill : Fill) (at : Loc) →
      meaning kinds (v.Fresh to dims fill at) ≡ statement kinds (l.Fresh to dims fill at)
  means_Fresh to dims fill at = ap (meaning kinds) (sym (v.rolls-Fresh to dims fill at)) ∙
      fold-roll-Statement (Meaning State) (statement kinds) (l.Fresh to dims fill at)

  pub means_Like : (to : ℕ) (views : List ℕ) (at : Loc) →
      meaning kinds (v.Like to views at) ≡ statement kinds (l.Like to views at)
  means_Like to views at = ap (meaning kinds) (sym (v.rolls-Like to views at)) ∙
      fold-roll-Statement (Meaning State) (statement kinds) (l.Like to views at)

  pub means_Check : (test : Test) (views : List ℕ) (at : Loc) →
      meaning kinds (v.Check test views at) ≡ statement kinds (l.Check test views at)
  means_Check test views at = ap (meaning kinds) (sym (v.rolls-Check test views at)) ∙
      fold-roll-Statement (Meaning State) (statement kinds) (l.Check test views at)

  pub means_Nest : (to : ℕ) (template : Template) (at : Loc) →
      meaning kinds (v.Nest to template at) ≡ statement kinds (l.Nest to template at)
  means_Nest to template at = ap (meaning kinds) (sym (v.rolls-Nest to template at)) ∙
      fold-roll-Statement (Meaning State) (statement kinds) (l.Nest to template at)

  pub means_Fold : (to : ℕ) (join : Join) (template : Template) (at : Loc) →
      meaning kinds (v.Fold to join template at) ≡ statement kinds (l.Fold to join template at)
  means_Fold to join template at = ap (meaning kinds) (sym (v.rolls-Fold to join template at)) ∙
      fold-roll-Statement (Meaning State) (statement kinds) (l.Fold to join template at)

  pub means_If : (cond : Oper) (part other : List Statement) →
      meaning kinds (v.If cond part other) ≡
      statement kinds (l.If cond (map (meaning kinds) part) (map (meaning kinds) other))
  means_If cond part other = ap (meaning kinds) (sym (v.rolls-If cond part other)) ∙
      fold-roll-Statement (Meaning State) (statement kinds) (l.If cond part other)

  pub means_For : (var : ℕ) (lo hi by : Oper) (at : Loc) (body : List Statement) →
      meaning kinds (v.For var lo hi by at body) ≡
      statement kinds (l.For var lo hi by at (map (meaning kinds) body))
  means_For var lo hi by at body = ap (meaning kinds) (sym (v.rolls-For var lo hi by at body)) ∙
      fold-roll-Statement (Meaning State) (statement kinds) (l.For var lo hi by at body)

  pub means_ParFor : (var : ℕ) (lo hi by : Oper) (at : Loc) (guard : Guard) (reductions : List (Join × ℕ))
      (privates : List Reg) (body : List Statement) →
      meaning kinds (v.ParFor var lo hi by at guard reductions privates body) ≡
      statement kinds (l.ParFor var lo hi by at guard reductions privates (map (meaning kinds) body))
  means_ParFor var lo hi by at guard reductions privates body =
      ap (meaning kinds) (sym (v.rolls-ParFor var lo hi by at guard reductions privates body)) ∙
      fold-roll-Statement (Meaning State) (statement kinds)
      (l.ParFor var lo hi by at guard reductions privates body)

  pub means_Return : (values : List Back) → meaning kinds (v.Return values) ≡ statement kinds (l.Return values)
  means_Return values = ap (meaning kinds) (sym (v.rolls-Return values)) ∙
      fold-roll-Statement (Meaning State) (statement kinds) (l.Return values)

-- nothing follows
pub then_nothing : {T : Type 0} (q : T × End) → then_do q (λ u. (u, GoesOn)) ≡ q
then_nothing (t, GoesOn) = refl
then_nothing (t, Returned values) = refl
then_nothing (t, Faulted fault at) = refl
then_nothing (t, Stuck) = refl

pub block_one : (kinds : List Kind) (s : Statement) (t : State) → block kinds (s ∷ []) t ≡ meaning kinds s t
block_one kinds s t = then_nothing (meaning kinds s t)

-- two blocks, the second behind the first
then_joined : (kinds : List Kind) (xs ys : List Statement) (q : State × End) →
    ((t : State) → block kinds (xs ++ ys) t ≡ then_do (block kinds xs t) (block kinds ys)) →
    then_do q (block kinds (xs ++ ys)) ≡ then_do (then_do q (block kinds xs)) (block kinds ys)
then_joined kinds xs ys (t, GoesOn) h = h t
then_joined kinds xs ys (t, Returned values) h = refl
then_joined kinds xs ys (t, Faulted fault at) h = refl
then_joined kinds xs ys (t, Stuck) h = refl

pub block_joined : (kinds : List Kind) (xs ys : List Statement) (t : State) →
    block kinds (xs ++ ys) t ≡ then_do (block kinds xs t) (block kinds ys)
block_joined kinds [] ys t = refl
block_joined kinds (x ∷ xs) ys t = then_joined kinds xs ys (meaning kinds x t) (block_joined kinds xs ys)

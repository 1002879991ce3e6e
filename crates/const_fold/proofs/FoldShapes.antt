-- Where a folded body returns: in tail position and always where it did before.
use Rattle.std.proofs.Common.{◌≡◌, ◌∙◌, ap, sym, subst, refl, ℕ, true, false, ◌&&◌, List, [], ◌∷◌, ◌++◌, map}
use Rattle.std.proofs.Common.{append-nil}
use Rattle.std.proofs.Common.{Option}
use Rattle.std.specs.List.{AllByRecursion}
use Rattle.krn_base.specs.declared.operation.Join.{Join}
use Rattle.krn_base.specs.declared.place.Loc.{Loc}
use Rattle.eager_rules.specs.Sound.{Shape, block_shape, both_shapes, returns_values, shape_of_body, shape_step, simple}
use Rattle.eager_rules.specs.Types.{Ty}
use Rattle.eager_rules.specs.declared.program.Core.{Core}
use Rattle.eager_rules.specs.declared.program.Core.TheOpen as c
use Rattle.eager_rules.specs.declared.program.Core.TheFolds.{fold-Core, map-Core, fold-roll-Core}
use Rattle.eager_rules.specs.declared.program.Core.TheViews.{roll-Core}
use Rattle.eager_rules.specs.declared.program.Oper.{Oper}
use Rattle.eager_rules.specs.declared.program.Oper.TheVariants as oper
use Rattle.const_fold.specs.Folded.{Literals, folded, folded_block}
use Rattle.const_fold.proofs.FoldTests.{and_left, and_right, both_true, not_true}
use Rattle.const_fold.proofs.FoldTrees.{Good, Stands, all_bodies, by_layers, fold_one, fused, if_cores, same_layer}
use Rattle.const_fold.proofs.FoldTrees.{with_literals}

abbrev shape : Core → Shape
shape = fold-Core Shape shape_step

-- one shape, and then another
abbrev then_shape : Shape → Shape → Shape
then_shape a b = record { plain = a.plain && b.plain; tail = a.plain && b.tail; shut = a.plain && b.shut }

pub record Better (a b : Shape) : Type 0 where
  plain_too : a.plain ≡ true → b.plain ≡ true
  tail_too : a.tail ≡ true → b.tail ≡ true
  shut_too : a.shut ≡ true → b.shut ≡ true

same_better : (a : Shape) → Better a a
same_better a = record { plain_too = λ e. e; tail_too = λ e. e; shut_too = λ e. e }

is_better : (a b : Shape) → a ≡ b → Better a b
is_better a b e = subst (Better a) e (same_better a)

-- ---- what never returns returns in tail position alone
abbrev Ordered : Shape → Type 0
Ordered s = s.plain ≡ true → s.tail ≡ true

abbrev IsOrdered : Core → Type 0
IsOrdered x = Ordered (shape x)

abbrev shapes : List (Good IsOrdered) → List Shape
shapes gs = map (λ (g : Good IsOrdered). shape g.0) gs

then_ordered : (a b : Shape) → Ordered b → Ordered (then_shape a b)
then_ordered a b h e = both_true a.plain b.tail (and_left a.plain b.plain e) (h (and_right a.plain b.plain e))

block_ordered : (gs : List (Good IsOrdered)) → Ordered (block_shape (shapes gs))
block_ordered [] e = refl
block_ordered (g ∷ []) e = g.1 e
block_ordered (g ∷ h ∷ gs) e =
    then_ordered (shape g.0) (block_shape (shapes (h ∷ gs))) (block_ordered (h ∷ gs)) e

ordered_case : (y : c.Core-F (Good IsOrdered)) →
    Ordered (shape_step (map-Core (Good IsOrdered) Shape (λ g. shape g.0) y))
ordered_case (c.If cond part other) e =
    both_true (block_shape (shapes part)).tail (block_shape (shapes other)).tail
    (block_ordered part (and_left (block_shape (shapes part)).plain (block_shape (shapes other)).plain e))
    (block_ordered other (and_right (block_shape (shapes part)).plain (block_shape (shapes other)).plain e))
ordered_case (c.For var lo hi by at omp body) e = e
ordered_case (c.Return values) e = not_true e
ordered_case (c.Word to op args at) e = refl
ordered_case (c.Extent to of axis) e = refl
ordered_case (c.Get to of index at) e = refl
ordered_case (c.Put of index value at) e = refl
ordered_case (c.Pick to of subs at) e = refl
ordered_case (c.Flip to of) e = refl
ordered_case (c.Alias to of) e = refl
ordered_case (c.Fresh to dims fill at) e = refl
ordered_case (c.Map to op args at) e = refl
ordered_case (c.Reduce to op of at) e = refl
ordered_case (c.Store of value at) e = refl
ordered_case (c.Call to instance args) e = refl

ordered : (x : Core) → IsOrdered x
ordered = by_layers IsOrdered (λ y. layer y)
  where
    layer : (y : c.Core-F (Good IsOrdered)) → IsOrdered (roll-Core (map-Core (Good IsOrdered) Core (λ g. g.0) y))
    layer y =
        let x : c.Core-F Core = map-Core (Good IsOrdered) Core (λ g. g.0) y in
        let same : shape_step (map-Core (Good IsOrdered) Shape (λ g. shape g.0) y) ≡ shape (roll-Core x) =
        ap shape_step (fused IsOrdered Shape shape y) ∙ sym (fold-roll-Core Shape shape_step x) in
        subst Ordered same (ordered_case y)

-- ---- blocks
then_better : (a b x y : Shape) → Better a x → Better b y → Better (then_shape a b) (then_shape x y)
then_better a b x y f g = record {
  plain_too = λ e. both_true x.plain y.plain (f.plain_too (and_left a.plain b.plain e))
      (g.plain_too (and_right a.plain b.plain e));
  tail_too = λ e. both_true x.plain y.tail (f.plain_too (and_left a.plain b.tail e))
      (g.tail_too (and_right a.plain b.tail e));
  shut_too = λ e. both_true x.plain y.shut (f.plain_too (and_left a.plain b.shut e))
      (g.shut_too (and_right a.plain b.shut e));
}

-- where nothing stands behind
then_nothing : (a b x : Shape) → Ordered x → Better a x → Better b simple → Better (then_shape a b) x
then_nothing a b x order f g = record {
  plain_too = λ e. f.plain_too (and_left a.plain b.plain e);
  tail_too = λ e. order (f.plain_too (and_left a.plain b.tail e));
  shut_too = λ e. not_true (g.shut_too (and_right a.plain b.shut e));
}

-- and where nothing stands before
nothing_then : (a b x : Shape) → Better b x → Better (then_shape a b) x
nothing_then a b x g = record {
  plain_too = λ e. g.plain_too (and_right a.plain b.plain e);
  tail_too = λ e. g.tail_too (and_right a.plain b.tail e);
  shut_too = λ e. g.shut_too (and_right a.plain b.shut e);
}

-- the first of three
regroup : (a b x y : Shape) → Better a (then_shape x y) → (z : Shape) → Better (then_shape y b) z →
    Better (then_shape a b) (then_shape x z)
regroup a b x y f z g = record {
  plain_too = λ e. let p = f.plain_too (and_left a.plain b.plain e) in
      both_true x.plain z.plain (and_left x.plain y.plain p)
      (g.plain_too (both_true y.plain b.plain (and_right x.plain y.plain p) (and_right a.plain b.plain e)));
  tail_too = λ e. let p = f.plain_too (and_left a.plain b.tail e) in
      both_true x.plain z.tail (and_left x.plain y.plain p)
      (g.tail_too (both_true y.plain b.tail (and_right x.plain y.plain p) (and_right a.plain b.tail e)));
  shut_too = λ e. let p = f.plain_too (and_left a.plain b.shut e) in
      both_true x.plain z.shut (and_left x.plain y.plain p)
      (g.shut_too (both_true y.plain b.shut (and_right x.plain y.plain p) (and_right a.plain b.shut e)));
}

append_better : (xs ys : List Core) (a b : Shape) → Better a (block_shape (map shape xs)) →
    Better b (block_shape (map shape ys)) → Better (then_shape a b) (block_shape (map shape (xs ++ ys)))
append_better [] ys a b f g = nothing_then a b (block_shape (map shape ys)) g
append_better (x ∷ []) [] a b f g = then_nothing a b (shape x) (ordered x) f g
append_better (x ∷ []) (y ∷ ys) a b f g = then_better a b (shape x) (block_shape (map shape (y ∷ ys))) f g
append_better (x ∷ z ∷ xs) ys a b f g =
    regroup a b (shape x) (block_shape (map shape (z ∷ xs))) f (block_shape (map shape ((z ∷ xs) ++ ys)))
    (append_better (z ∷ xs) ys (block_shape (map shape (z ∷ xs))) b
    (same_better (block_shape (map shape (z ∷ xs)))) g)

-- ---- one statement
both_better : (a b x y : Shape) → Better a x → Better b y → Better (both_shapes a b) (both_shapes x y)
both_better a b x y f g = record {
  plain_too = λ e. both_true x.plain y.plain (f.plain_too (and_left a.plain b.plain e))
      (g.plain_too (and_right a.plain b.plain e));
  tail_too = λ e. both_true x.tail y.tail (f.tail_too (and_left a.tail b.tail e))
      (g.tail_too (and_right a.tail b.tail e));
  shut_too = λ e. both_true x.shut y.shut (f.shut_too (and_left a.shut b.shut e))
      (g.shut_too (and_right a.shut b.shut e));
}

first_better : (a b x : Shape) → Better a x → Better (both_shapes a b) x
first_better a b x f = record {
  plain_too = λ e. f.plain_too (and_left a.plain b.plain e);
  tail_too = λ e. f.tail_too (and_left a.tail b.tail e);
  shut_too = λ e. f.shut_too (and_left a.shut b.shut e);
}

second_better : (a b x : Shape) → Better b x → Better (both_shapes a b) x
second_better a b x f = record {
  plain_too = λ e. f.plain_too (and_right a.plain b.plain e);
  tail_too = λ e. f.tail_too (and_right a.tail b.tail e);
  shut_too = λ e. f.shut_too (and_right a.shut b.shut e);
}

loop_better : (a x : Shape) → Better a x → Better (record { plain = a.plain; tail = a.plain; shut = false })
    (record { plain = x.plain; tail = x.plain; shut = false })
loop_better a x f = record { plain_too = f.plain_too; tail_too = f.plain_too; shut_too = λ e. e }

module _ (table : Literals) where
  abbrev Keeps : Core → List Core → Type 0
  Keeps x xs = Better (shape x) (block_shape (map shape xs))

  step_same : (y : c.Core-F Shape) → shape_step (with_literals table y) ≡ shape_step y
  step_same (c.Word to op args at) = refl
  step_same (c.Extent to of axis) = refl
  step_same (c.Get to of index at) = refl
  step_same (c.Put of index value at) = refl
  step_same (c.Pick to of subs at) = refl
  step_same (c.Flip to of) = refl
  step_same (c.Alias to of) = refl
  step_same (c.Fresh to dims fill at) = refl
  step_same (c.Map to op args at) = refl
  step_same (c.Reduce to op of at) = refl
  step_same (c.Store of value at) = refl
  step_same (c.Call to instance args) = refl
  step_same (c.If cond part other) = refl
  step_same (c.For var lo hi by at omp body) = refl
  step_same (c.Return values) = refl

  leaf_better : (y : c.Core-F Core) → Keeps (roll-Core y) (roll-Core (with_literals table y) ∷ [])
  leaf_better y =
      is_better (shape (roll-Core y)) (shape (roll-Core (with_literals table y)))
      (sym (same_layer table Shape shape_step step_same y))

  block_better : (xs : List Core) → AllByRecursion (Stands table Keeps) xs →
      Better (block_shape (map shape xs)) (block_shape (map shape (folded_block table xs)))
  block_better [] h = same_better simple
  block_better (x ∷ []) h =
      subst (λ (ys : List Core). Better (shape x) (block_shape (map shape ys))) (sym (append-nil (fold_one table x)))
      h.0
  block_better (x ∷ y ∷ xs) h =
      append_better (fold_one table x) (folded_block table (y ∷ xs)) (shape x) (block_shape (map shape (y ∷ xs))) h.0
      (block_better (y ∷ xs) h.1)

  -- an `If` and its parts, with others in their place
  cores_better : (x : Oper) (a b : Shape) (part other : List Core) → Better a (block_shape (map shape part)) →
      Better b (block_shape (map shape other)) →
      Better (both_shapes a b) (block_shape (map shape (if_cores table x part other)))
  cores_better (oper.Truth true) a b part other f g = first_better a b (block_shape (map shape part)) f
  cores_better (oper.Truth false) a b part other f g = second_better a b (block_shape (map shape other)) g
  cores_better (oper.Int z) a b part other f g =
      subst (Better (both_shapes a b)) (sym (fold-roll-Core Shape shape_step (c.If (oper.Int z) part other)))
      (both_better a b (block_shape (map shape part)) (block_shape (map shape other)) f g)
  cores_better (oper.Name name) a b part other f g =
      subst (Better (both_shapes a b)) (sym (fold-roll-Core Shape shape_step (c.If (oper.Name name) part other)))
      (both_better a b (block_shape (map shape part)) (block_shape (map shape other)) f g)

  if_better : (cond : Oper) (part other : List Core) → AllByRecursion (Stands table Keeps) part →
      AllByRecursion (Stands table Keeps) other → Keeps (roll-Core (c.If cond part other))
      (if_cores table (folded table cond) (folded_block table part) (folded_block table other))
  if_better cond part other f g =
      subst
      (λ (s : Shape). Better s (block_shape (map shape
      (if_cores table (folded table cond) (folded_block table part) (folded_block table other)))))
      (sym (fold-roll-Core Shape shape_step (c.If cond part other)))
      (cores_better (folded table cond) (block_shape (map shape part)) (block_shape (map shape other))
      (folded_block table part) (folded_block table other) (block_better part f) (block_better other g))

  for_better : (var : ℕ) (lo hi by : Oper) (at : Loc) (omp : Option (List (Join × ℕ))) (body : List Core) →
      AllByRecursion (Stands table Keeps) body → Keeps (roll-Core (c.For var lo hi by at omp body))
      (roll-Core (with_literals table (c.For var lo hi by at omp (folded_block table body))) ∷ [])
  for_better var lo hi by at omp body f =
      subst
      (λ (s : Shape). Better s (shape (roll-Core (with_literals table
      (c.For var lo hi by at omp (folded_block table body))))))
      (sym (fold-roll-Core Shape shape_step (c.For var lo hi by at omp body)))
      (subst (Better (shape_step (map-Core Core Shape shape (c.For var lo hi by at omp body))))
      (sym (fold-roll-Core Shape shape_step
      (with_literals table (c.For var lo hi by at omp (folded_block table body)))))
      (loop_better (block_shape (map shape body)) (block_shape (map shape (folded_block table body)))
      (block_better body f)))

  body_better : (body : List Core) → Better (shape_of_body body) (shape_of_body (folded_block table body))
  body_better body =
      block_better body (all_bodies table Keeps (λ y is stays. leaf_better y)
      (λ to op args at l is. is_better (shape (roll-Core (c.Word to op args at))) simple
      (fold-roll-Core Shape shape_step (c.Word to op args at)))
      if_better for_better body)

  -- values are returned on every path, or on none
  pub still_returns : (rets : List Ty) (body : List Core) → returns_values rets (shape_of_body body) ≡ true →
      returns_values rets (shape_of_body (folded_block table body)) ≡ true
  still_returns [] body e = (body_better body).tail_too e
  still_returns (t ∷ rets) body e =
      both_true (shape_of_body (folded_block table body)).tail (shape_of_body (folded_block table body)).shut
      ((body_better body).tail_too (and_left (shape_of_body body).tail (shape_of_body body).shut e))
      ((body_better body).shut_too (and_right (shape_of_body body).tail (shape_of_body body).shut e))

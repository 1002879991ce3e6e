-- Where a body returns, without its idle calls: in tail position and always where it did before.
use Rattle.std.proofs.Common.{◌≡◌, ◌∙◌, ap, sym, subst, refl, ℕ, Bool, true, false, ◌&&◌, List, [], ◌∷◌, ◌++◌, map}
use Rattle.std.proofs.Common.{append-nil}
use Rattle.std.specs.List.{AllByRecursion}
use Rattle.eager_rules.specs.Sound.{Shape, block_shape, both_shapes, returns_values, shape_of_body, shape_step, simple}
use Rattle.eager_rules.specs.Types.{Ty}
use Rattle.eager_rules.specs.declared.program.Core.{Core}
use Rattle.eager_rules.specs.declared.program.Core.TheOpen as c
use Rattle.eager_rules.specs.declared.program.Core.TheFolds.{fold-Core, map-Core, fold-roll-Core}
use Rattle.eager_rules.specs.declared.program.Core.TheViews.{roll-Core}
use Rattle.inline.specs.Dropped.{without}
use Rattle.inline.proofs.DropTrees.{Stands, all_bodies, drop}
use Rattle.inline.proofs.Trees.{Good, by_layers, fused}
use Rattle.inline.proofs.TypeTests.{and_left, and_right, not_true}

abbrev pub shape : Core → Shape
shape = fold-Core Shape shape_step

both_true : (a b : Bool) → a ≡ true → b ≡ true → a && b ≡ true
both_true true b h k = k
both_true false b h k = h

-- one shape, and then another
abbrev pub then_shape : Shape → Shape → Shape
then_shape a b = record { plain = a.plain && b.plain; tail = a.plain && b.tail; shut = a.plain && b.shut }

pub record Better (a b : Shape) : Type 0 where
  pub plain_too : a.plain ≡ true → b.plain ≡ true
  pub tail_too : a.tail ≡ true → b.tail ≡ true
  pub shut_too : a.shut ≡ true → b.shut ≡ true

pub same_better : (a : Shape) → Better a a
same_better a = record { plain_too = λ e. e; tail_too = λ e. e; shut_too = λ e. e }

pub is_better : (a b : Shape) → a ≡ b → Better a b
is_better a b e = subst (Better a) e (same_better a)

-- ---- what never returns returns in tail position alone
abbrev pub Ordered : Shape → Type 0
Ordered s = s.plain ≡ true → s.tail ≡ true

abbrev IsOrdered : Core → Type 0
IsOrdered x = Ordered (shape x)

abbrev shapes : List (Good IsOrdered) → List Shape
shapes gs = map (λ (g : Good IsOrdered). shape g.0) gs

pub then_ordered : (a b : Shape) → Ordered b → Ordered (then_shape a b)
then_ordered a b h e = both_true a.plain b.tail (and_left a.plain b.plain e) (h (and_right a.plain b.plain e))

block_ordered : (gs : List (Good IsOrdered)) → Ordered (block_shape (shapes gs))
block_ordered [] e = refl
block_ordered (g ∷ []) e = g.1 e
block_ordered (g ∷ h ∷ gs) e =
    then_ordered (shape g.0) (block_shape (shapes (h ∷ gs))) (block_ordered (h ∷ gs)) e

ordered_case : (y : c.Core-F (Good IsOrdered)) →
    Ordered (shape_step (map-Core (Good IsOrdered) Shape (λ g. shape g.0) y))
ordered_case (c.If cond part other) e =
    both_true (block_shape (shapes part)).tail (block_shape (shapes other)).tail
    (block_ordered part (and_left (block_shape (shapes part)).plain (block_shape (shapes other)).plain e))
    (block_ordered other (and_right (block_shape (shapes part)).plain (block_shape (shapes other)).plain e))
ordered_case (c.For var lo hi by at omp body) e = e
ordered_case (c.Return values) e = not_true e
ordered_case (c.Word to op args at) e = refl
ordered_case (c.Extent to of axis) e = refl
ordered_case (c.Get to of index at) e = refl
ordered_case (c.Put of index value at) e = refl
ordered_case (c.Pick to of subs at) e = refl
ordered_case (c.Flip to of) e = refl
ordered_case (c.Alias to of) e = refl
ordered_case (c.Fresh to dims fill at) e = refl
ordered_case (c.Map to op args at) e = refl
ordered_case (c.Reduce to op of at) e = refl
ordered_case (c.Store of value at) e = refl
ordered_case (c.Call to instance args) e = refl

pub ordered : (x : Core) → IsOrdered x
ordered = by_layers IsOrdered (λ y. layer y)
  where
    layer : (y : c.Core-F (Good IsOrdered)) → IsOrdered (roll-Core (map-Core (Good IsOrdered) Core (λ g. g.0) y))
    layer y =
        let x : c.Core-F Core = map-Core (Good IsOrdered) Core (λ g. g.0) y in
        let same : shape_step (map-Core (Good IsOrdered) Shape (λ g. shape g.0) y) ≡ shape (roll-Core x) =
        ap shape_step (fused IsOrdered Shape shape y) ∙ sym (fold-roll-Core Shape shape_step x) in
        subst Ordered same (ordered_case y)

pub in_order : (xs : List Core) → Ordered (block_shape (map shape xs))
in_order [] e = refl
in_order (x ∷ []) e = ordered x e
in_order (x ∷ y ∷ xs) e = then_ordered (shape x) (block_shape (map shape (y ∷ xs))) (in_order (y ∷ xs)) e

-- ---- blocks
pub then_better : (a b x y : Shape) → Better a x → Better b y → Better (then_shape a b) (then_shape x y)
then_better a b x y f g = record {
  plain_too = λ e. both_true x.plain y.plain (f.plain_too (and_left a.plain b.plain e))
      (g.plain_too (and_right a.plain b.plain e));
  tail_too = λ e. both_true x.plain y.tail (f.plain_too (and_left a.plain b.tail e))
      (g.tail_too (and_right a.plain b.tail e));
  shut_too = λ e. both_true x.plain y.shut (f.plain_too (and_left a.plain b.shut e))
      (g.shut_too (and_right a.plain b.shut e));
}

-- where nothing stands behind
then_nothing : (a b x : Shape) → Ordered x → Better a x → Better b simple → Better (then_shape a b) x
then_nothing a b x order f g = record {
  plain_too = λ e. f.plain_too (and_left a.plain b.plain e);
  tail_too = λ e. order (f.plain_too (and_left a.plain b.tail e));
  shut_too = λ e. not_true (g.shut_too (and_right a.plain b.shut e));
}

-- and where nothing stands before
nothing_then : (a b x : Shape) → Better b x → Better (then_shape a b) x
nothing_then a b x g = record {
  plain_too = λ e. g.plain_too (and_right a.plain b.plain e);
  tail_too = λ e. g.tail_too (and_right a.plain b.tail e);
  shut_too = λ e. g.shut_too (and_right a.plain b.shut e);
}

-- the first of three
regroup : (a b x y : Shape) → Better a (then_shape x y) → (z : Shape) → Better (then_shape y b) z →
    Better (then_shape a b) (then_shape x z)
regroup a b x y f z g = record {
  plain_too = λ e. let p = f.plain_too (and_left a.plain b.plain e) in
      both_true x.plain z.plain (and_left x.plain y.plain p)
      (g.plain_too (both_true y.plain b.plain (and_right x.plain y.plain p) (and_right a.plain b.plain e)));
  tail_too = λ e. let p = f.plain_too (and_left a.plain b.tail e) in
      both_true x.plain z.tail (and_left x.plain y.plain p)
      (g.tail_too (both_true y.plain b.tail (and_right x.plain y.plain p) (and_right a.plain b.tail e)));
  shut_too = λ e. let p = f.plain_too (and_left a.plain b.shut e) in
      both_true x.plain z.shut (and_left x.plain y.plain p)
      (g.shut_too (both_true y.plain b.shut (and_right x.plain y.plain p) (and_right a.plain b.shut e)));
}

pub append_better : (xs ys : List Core) (a b : Shape) → Better a (block_shape (map shape xs)) →
    Better b (block_shape (map shape ys)) → Better (then_shape a b) (block_shape (map shape (xs ++ ys)))
append_better [] ys a b f g = nothing_then a b (block_shape (map shape ys)) g
append_better (x ∷ []) [] a b f g = then_nothing a b (shape x) (ordered x) f g
append_better (x ∷ []) (y ∷ ys) a b f g = then_better a b (shape x) (block_shape (map shape (y ∷ ys))) f g
append_better (x ∷ z ∷ xs) ys a b f g =
    regroup a b (shape x) (block_shape (map shape (z ∷ xs))) f (block_shape (map shape ((z ∷ xs) ++ ys)))
    (append_better (z ∷ xs) ys (block_shape (map shape (z ∷ xs))) b
    (same_better (block_shape (map shape (z ∷ xs)))) g)

pub both_better : (a b x y : Shape) → Better a x → Better b y → Better (both_shapes a b) (both_shapes x y)
both_better a b x y f g = record {
  plain_too = λ e. both_true x.plain y.plain (f.plain_too (and_left a.plain b.plain e))
      (g.plain_too (and_right a.plain b.plain e));
  tail_too = λ e. both_true x.tail y.tail (f.tail_too (and_left a.tail b.tail e))
      (g.tail_too (and_right a.tail b.tail e));
  shut_too = λ e. both_true x.shut y.shut (f.shut_too (and_left a.shut b.shut e))
      (g.shut_too (and_right a.shut b.shut e));
}

pub loop_better : (a x : Shape) → Better a x → Better (record { plain = a.plain; tail = a.plain; shut = false })
    (record { plain = x.plain; tail = x.plain; shut = false })
loop_better a x f = record { plain_too = f.plain_too; tail_too = f.plain_too; shut_too = λ e. e }

module _ (calm : ℕ → Bool) where
  abbrev Keeps : Core → List Core → Type 0
  Keeps x xs = Better (shape x) (block_shape (map shape xs))

  block_better : (xs : List Core) → AllByRecursion (Stands calm Keeps) xs →
      Better (block_shape (map shape xs)) (block_shape (map shape (without calm xs)))
  block_better [] h = same_better simple
  block_better (x ∷ []) h =
      subst (λ (ys : List Core). Better (shape x) (block_shape (map shape ys))) (sym (append-nil (drop calm x))) h.0
  block_better (x ∷ y ∷ xs) h =
      append_better (drop calm x) (without calm (y ∷ xs)) (shape x) (block_shape (map shape (y ∷ xs))) h.0
      (block_better (y ∷ xs) h.1)

  -- a statement by its own layer
  by_layer : (x y : c.Core-F Core) → Better (shape_step (map-Core Core Shape shape x))
      (shape_step (map-Core Core Shape shape y)) → Keeps (roll-Core x) (roll-Core y ∷ [])
  by_layer x y f =
      subst (λ (s : Shape). Better s (shape (roll-Core y))) (sym (fold-roll-Core Shape shape_step x))
      (subst (Better (shape_step (map-Core Core Shape shape x))) (sym (fold-roll-Core Shape shape_step y)) f)

  body_better : (body : List Core) → Better (shape_of_body body) (shape_of_body (without calm body))
  body_better body =
      block_better body (all_bodies calm Keeps (λ y is. same_better (shape (roll-Core y)))
      (λ to k xs e. same_better (shape (roll-Core (c.Call to k xs))))
      (λ k xs e. is_better (shape (roll-Core (c.Call [] k xs))) simple
      (fold-roll-Core Shape shape_step (c.Call [] k xs)))
      (λ cond part other f g. by_layer (c.If cond part other) (c.If cond (without calm part) (without calm other))
      (both_better (block_shape (map shape part)) (block_shape (map shape other))
      (block_shape (map shape (without calm part))) (block_shape (map shape (without calm other)))
      (block_better part f) (block_better other g)))
      (λ var lo hi by at omp inside f. by_layer (c.For var lo hi by at omp inside)
      (c.For var lo hi by at omp (without calm inside))
      (loop_better (block_shape (map shape inside)) (block_shape (map shape (without calm inside)))
      (block_better inside f)))
      body)

  -- values are returned on every path, or on none
  pub still_returns : (rets : List Ty) (body : List Core) → returns_values rets (shape_of_body body) ≡ true →
      returns_values rets (shape_of_body (without calm body)) ≡ true
  still_returns [] body e = (body_better body).tail_too e
  still_returns (t ∷ rets) body e =
      both_true (shape_of_body (without calm body)).tail (shape_of_body (without calm body)).shut
      ((body_better body).tail_too (and_left (shape_of_body body).tail (shape_of_body body).shut e))
      ((body_better body).shut_too (and_right (shape_of_body body).tail (shape_of_body body).shut e))

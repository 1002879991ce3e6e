-- A returned own name has the type of the only value.
use Rattle.std.proofs.Common.{◌≡◌, ◌∙◌, ap, sym, subst, ℕ, Bool, true, ◌&&◌, List, [], ◌∷◌, ◌++◌, map, slice_get}
use Rattle.std.proofs.Common.{Option, Some}
use Rattle.std.specs.List.{AllByRecursion, list_all}
use Rattle.eager_rules.specs.Sound.{Head, all_fit, fits, fits_step, given_types}
use Rattle.eager_rules.specs.Types.{Ty, same_types, types_of}
use Rattle.eager_rules.specs.declared.program.Core.{Core}
use Rattle.eager_rules.specs.declared.program.Core.TheOpen as c
use Rattle.eager_rules.specs.declared.program.Core.TheFolds.{fold-Core, fold-roll-Core, map-Core}
use Rattle.eager_rules.specs.declared.program.Core.TheViews.{roll-Core}
use Rattle.eager_rules.specs.declared.program.Oper.{Oper}
use Rattle.eager_rules.specs.declared.program.Oper.TheVariants as oper
use Rattle.inline.specs.Own.{joined, only_name, returned, returned_step}
use Rattle.inline.proofs.Entry.{only_one}
use Rattle.inline.proofs.Trees.{Good, by_layers}
use Rattle.inline.proofs.TypeTests.{add_given, and_left, and_right, same_all, some_given, some_same}

module _ (heads : List Head) (rets names : List Ty) where
  -- a returned name has the type of the only value
  abbrev pub HasItsType : Option ℕ → Type 0
  HasItsType o = (name : ℕ) → o ≡ Some name → (t : Ty) × (slice_get names name ≡ Some t) × (rets ≡ t ∷ [])

  abbrev fits_of : Core → Bool
  fits_of = fits heads rets names

  abbrev gives_of : Core → List (Option ℕ)
  gives_of = fold-Core (List (Option ℕ)) returned_step

  abbrev DoneBy : Bool → List (Option ℕ) → Type 0
  DoneBy test gives = test ≡ true → AllByRecursion HasItsType gives

  abbrev Done1 : Core → Type 0
  Done1 x = DoneBy (fits_of x) (gives_of x)

  both_typed : (os qs : List (Option ℕ)) → AllByRecursion HasItsType os → AllByRecursion HasItsType qs →
      AllByRecursion HasItsType (os ++ qs)
  both_typed [] qs f g = g
  both_typed (o ∷ os) qs f g = (f.0, both_typed os qs f.1 g)

  abbrev test_of : List Core → Bool
  test_of xs = list_all (λ fit. fit) (map fits_of xs)

  turn_typed : (xs : List Core) → AllByRecursion Done1 xs → DoneBy (test_of xs) (joined (map gives_of xs))
  turn_typed [] done fit = tt
  turn_typed (x ∷ xs) done fit =
      both_typed (gives_of x) (joined (map gives_of xs)) (done.0 (and_left (fits_of x) (test_of xs) fit))
      (turn_typed xs done.1 (and_right (fits_of x) (test_of xs) fit))

  one_typed : (values : List Oper) → given_types (types_of names values) (λ types. same_types types rets) ≡ true →
      HasItsType (only_name values)
  one_typed values fit name e =
      let one : given_types (types_of names (oper.Name name ∷ [])) (λ types. same_types types rets) ≡ true =
      ap (λ (xs : List Oper). given_types (types_of names xs) (λ types. same_types types rets))
      (sym (only_one values name e)) ∙ fit in
      let found = some_given (types_of names (oper.Name name ∷ [])) (λ types. same_types types rets) one in
      let parts = add_given (slice_get names name) (Some []) found.0 found.1 in
      let nothing : [] ≡ parts.1 = some_same [] parts.1 parts.3 in (
        parts.0,
        parts.2,
        sym (same_all found.0 rets found.2) ∙ (sym parts.4 ∙ ap (λ (ts : List Ty). parts.0 ∷ ts) (sym nothing)),
      )

  abbrev DoneStep : c.Core-F Core → Type 0
  DoneStep z =
      DoneBy (fits_step heads rets names (map-Core Core Bool fits_of z))
      (returned_step (map-Core Core (List (Option ℕ)) gives_of z))

  all_good : (gs : List (Good Done1)) → AllByRecursion Done1 (map (λ (g : Good Done1). g.0) gs)
  all_good [] = tt
  all_good (g ∷ gs) = (g.1, all_good gs)

  abbrev cores : List (Good Done1) → List Core
  cores gs = map (λ (g : Good Done1). g.0) gs

  by_case : (y : c.Core-F (Good Done1)) → DoneStep (map-Core (Good Done1) Core (λ g. g.0) y)
  by_case (c.Word to op args at) fit = tt
  by_case (c.Extent to of axis) fit = tt
  by_case (c.Get to of index at) fit = tt
  by_case (c.Put of index value at) fit = tt
  by_case (c.Pick to of subs at) fit = tt
  by_case (c.Flip to of) fit = tt
  by_case (c.Alias to of) fit = tt
  by_case (c.Fresh to dims fill at) fit = tt
  by_case (c.Map to op args at) fit = tt
  by_case (c.Reduce to op of at) fit = tt
  by_case (c.Store of value at) fit = tt
  by_case (c.Call to i args) fit = tt
  by_case (c.If cond part other) fit =
      let tests : (test_of (cores part) && test_of (cores other)) ≡ true = and_right _ _ fit in
      both_typed (joined (map gives_of (cores part))) (joined (map gives_of (cores other)))
      (turn_typed (cores part) (all_good part) (and_left (test_of (cores part)) (test_of (cores other)) tests))
      (turn_typed (cores other) (all_good other) (and_right (test_of (cores part)) (test_of (cores other)) tests))
  by_case (c.For var lo hi by at omp body) fit = turn_typed (cores body) (all_good body) (and_right _ _ fit)
  by_case (c.Return values) fit = (one_typed values fit, tt)

  layer : (y : c.Core-F (Good Done1)) → Done1 (roll-Core (map-Core (Good Done1) Core (λ g. g.0) y))
  layer y =
      let z : c.Core-F Core = map-Core (Good Done1) Core (λ g. g.0) y in
      let x : Core = roll-Core z in
      subst (λ (a : Bool). DoneBy a (gives_of x)) (sym (fold-roll-Core Bool (fits_step heads rets names) z))
      (subst (λ (a : List (Option ℕ)). DoneBy (fits_step heads rets names (map-Core Core Bool fits_of z)) a)
      (sym (fold-roll-Core (List (Option ℕ)) returned_step z)) (by_case y))

  each_done : (xs : List Core) → AllByRecursion Done1 xs
  each_done [] = tt
  each_done (x ∷ xs) = (by_layers Done1 layer x, each_done xs)

  pub all_typed : (body : List Core) → all_fit heads rets names body ≡ true → AllByRecursion HasItsType (returned body)
  all_typed body fit = turn_typed body (each_done body) fit

-- The new names of a flat form have ranks of four at most.
use Rattle.std.proofs.Common.{◌≡◌, ◌∙◌, ap, sym, subst, refl, ℕ, zero, suc, ◌+◌, Bool, true, false, ◌&&◌, List, [], ◌∷◌}
use Rattle.std.proofs.Common.{◌++◌, map, length, Option, Some, None, slice_get}
use Rattle.std.specs.Prelude.{nat_le}
use Rattle.std.specs.List.{AllByRecursion, list_all}
use Rattle.eager_rules.specs.Types.{Ty}
use Rattle.eager_rules.specs.declared.program.Core.{Core}
use Rattle.eager_rules.specs.declared.program.Core.TheOpen as c
use Rattle.eager_rules.specs.declared.program.Core.TheFolds.{fold-Core, map-Core, fold-roll-Core}
use Rattle.eager_rules.specs.declared.program.Core.TheViews.{roll-Core}
use Rattle.eager_rules.specs.declared.program.Instance.{Instance}
use Rattle.eager_rules.specs.declared.program.Oper.{Oper}
use Rattle.inline.specs.Flat.{Inline, Lowering, flat_at, flat_block, flat_step, in_place_of, in_turn}
use Rattle.inline.specs.Flat.{unless_left}
use Rattle.inline.specs.Idle.{is_none}
use Rattle.inline.specs.Own.{own_of}
use Rattle.inline.specs.Places.{place_for, placed, renamed, targets}
use Rattle.inline.specs.declared.moves.Out.{Out}
use Rattle.inline.specs.declared.moves.Out.TheVariants.{Moves}
use Rattle.inline.specs.declared.places.Place.{Place}
use Rattle.inline.proofs.Frames.{and_both}
use Rattle.inline.proofs.Trees.{Good, by_layers, fused}
use Rattle.inline.proofs.TypeTests.{and_left, and_right}

abbrev pub AllLow : List Ty → Type 0
AllLow types = list_all (λ (t : Ty). nat_le t.1 4) types ≡ true

pub low_both : (xs ys : List Ty) → AllLow xs → AllLow ys → AllLow (xs ++ ys)
low_both [] ys f g = g
low_both (x ∷ xs) ys f g =
    and_both (nat_le x.1 4) (list_all (λ (t : Ty). nat_le t.1 4) (xs ++ ys))
    (and_left (nat_le x.1 4) (list_all (λ (t : Ty). nat_le t.1 4) xs) f)
    (low_both xs ys (and_right (nat_le x.1 4) (list_all (λ (t : Ty). nat_le t.1 4) xs) f) g)

pub low_left : (xs ys : List Ty) → AllLow (xs ++ ys) → AllLow xs
low_left [] ys h = refl
low_left (x ∷ xs) ys h =
    and_both (nat_le x.1 4) (list_all (λ (t : Ty). nat_le t.1 4) xs)
    (and_left (nat_le x.1 4) (list_all (λ (t : Ty). nat_le t.1 4) (xs ++ ys)) h)
    (low_left xs ys (and_right (nat_le x.1 4) (list_all (λ (t : Ty). nat_le t.1 4) (xs ++ ys)) h))

pub low_right : (xs ys : List Ty) → AllLow (xs ++ ys) → AllLow ys
low_right [] ys h = h
low_right (x ∷ xs) ys h =
    low_right xs ys (and_right (nat_le x.1 4) (list_all (λ (t : Ty). nat_le t.1 4) (xs ++ ys)) h)

-- forms whose new names have low ranks
abbrev pub Low : Lowering → Type 0
Low form = (k : ℕ) → AllLow (form k).fresh

turn_low : (forms : List Lowering) → AllByRecursion Low forms → Low (in_turn forms)
turn_low [] low k = refl
turn_low (form ∷ forms) low k =
    low_both (form k).fresh (in_turn forms (k + length (form k).fresh)).fresh (low.0 k)
    (turn_low forms low.1 (k + length (form k).fresh))

call_low : (left : Bool) (form : Lowering) → Low form → Low (unless_left left form)
call_low true form low k = refl
call_low false form low k = low k

module _ (calm : ℕ → Bool) (flat : Inline) (low : (i : ℕ) (to : List ℕ) (args : List Oper) → Low (flat i to args))
    (out : Out) (p : Place) where
  abbrev form_of : Core → Lowering
  form_of = fold-Core Lowering (flat_step calm flat out p)

  abbrev IsLow : Core → Type 0
  IsLow x = Low (form_of x)

  abbrev forms : List (Good IsLow) → List Lowering
  forms gs = map (λ (g : Good IsLow). form_of g.0) gs

  all_low : (gs : List (Good IsLow)) → AllByRecursion Low (forms gs)
  all_low [] = tt
  all_low (g ∷ gs) = (g.1, all_low gs)

  by_case : (y : c.Core-F (Good IsLow)) →
      Low (flat_step calm flat out p (map-Core (Good IsLow) Lowering (λ g. form_of g.0) y))
  by_case (c.Word to op args at) k = refl
  by_case (c.Extent to of axis) k = refl
  by_case (c.Get to of index at) k = refl
  by_case (c.Put of index value at) k = refl
  by_case (c.Pick to of subs at) k = refl
  by_case (c.Flip to of) k = refl
  by_case (c.Alias to of) k = refl
  by_case (c.Fresh to dims fill at) k = refl
  by_case (c.Map to op args at) k = refl
  by_case (c.Reduce to op of at) k = refl
  by_case (c.Store of value at) k = refl
  by_case (c.Call to instance args) k =
      call_low (is_none to && calm instance) (flat instance (map (placed p) to) (map (renamed p) args))
      (low instance (map (placed p) to) (map (renamed p) args)) k
  by_case (c.If cond part other) k =
      let next : ℕ = k + length (in_turn (forms part) k).fresh in
      low_both (in_turn (forms part) k).fresh (in_turn (forms other) next).fresh
      (turn_low (forms part) (all_low part) k) (turn_low (forms other) (all_low other) next)
  by_case (c.For var lo hi by at omp body) k = turn_low (forms body) (all_low body) k
  by_case (c.Return values) k = refl

  layer : (y : c.Core-F (Good IsLow)) → IsLow (roll-Core (map-Core (Good IsLow) Core (λ g. g.0) y))
  layer y =
      let x : c.Core-F Core = map-Core (Good IsLow) Core (λ g. g.0) y in
      let same : flat_step calm flat out p (map-Core (Good IsLow) Lowering (λ g. form_of g.0) y) ≡
      form_of (roll-Core x) =
      ap (flat_step calm flat out p) (fused IsLow Lowering form_of y)
      ∙ sym (fold-roll-Core Lowering (flat_step calm flat out p) x) in
      subst Low same (by_case y)

  each_low : (body : List Core) → AllByRecursion Low (map form_of body)
  each_low [] = tt
  each_low (x ∷ body) = (by_layers IsLow layer x, each_low body)

  pub block_low : (body : List Core) → Low (flat_block calm flat out p body)
  block_low body = turn_low (map form_of body) (each_low body)

module _ (instances : List Instance) (calm : ℕ → Bool)
    (names_low : (i : ℕ) (f : Instance) → slice_get instances i ≡ Some f → AllLow f.names) where
  place_low : (flat : Inline) → ((i : ℕ) (to : List ℕ) (args : List Oper) → Low (flat i to args)) →
      (o : Option Instance) (i : ℕ) → slice_get instances i ≡ o → (to : List ℕ) (args : List Oper) →
      Low (in_place_of calm flat o to args)
  place_low flat low None i is to args k = refl
  place_low flat low (Some f) i is to args k =
      low_both f.names
      (flat_block calm flat (Moves (targets f.rets to)) (place_for (own_of f) to k) f.body (k + length f.names)).fresh
      (names_low i f is)
      (block_low calm flat low (Moves (targets f.rets to)) (place_for (own_of f) to k) f.body (k + length f.names))

  pub calls_low : (depth i : ℕ) (to : List ℕ) (args : List Oper) → Low (flat_at instances calm depth i to args)
  calls_low zero i to args k = refl
  calls_low (suc depth) i to args k =
      place_low (flat_at instances calm depth) (calls_low depth) (slice_get instances i) i refl to args k

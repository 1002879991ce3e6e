-- One subscript, and the length of a view's list of extents.
use Rattle.std.proofs.Common.{◌≡◌, ℕ, ◌+◌, ◌<◌, ◌≤◌, List, [], ◌∷◌, take, length, length-take-le, refl, ap, sym, ◌∙◌}
use Rattle.std.proofs.Common.{arith, Option, Some, None, option_map, ℤ, remove, slice_set, suc, zero}
use Rattle.std.proofs.lemmas.Option.{slice_get-get_or}
use Rattle.std.specs.List.{slice_get, slice_index}
use Rattle.std.specs.Option.{option_and_then}
use Rattle.view_places.specs.Arrays.{position_of, at_index, sliced}
use Rattle.view_places.specs.Slice.{slice_indices}
use Rattle.view_places.specs.View.{extents}
use Rattle.view_places.specs.declared.slice.Slice.{Slice}
use Rattle.view_places.specs.declared.view.View.{View}
use Rattle.call_binding.specs.Views.{Cut, cut_of, next_cut, subscripted, at_place, with_picks, cut_by}
use Rattle.call_binding.specs.declared.items.Subscript.{Subscript}
use Rattle.call_binding.specs.declared.items.Subscript.TheVariants.{At, Range}

past : (ns : List ℕ) (axis : ℕ) → length ns ≤ axis → slice_get ns axis ≡ None
past [] axis h = refl
past (n ∷ ns) zero h = absurd (omega arith)
past (n ∷ ns) (suc axis) h = past ns axis (omega arith)

pub no_dimension : (sub : Subscript) (c : Cut) → length c.extents ≤ c.axis → None ≡ next_cut sub c
no_dimension sub c h = sym (ap (option_and_then (subscripted c sub)) (past c.extents c.axis h))

module _ (c : Cut) (lt : c.axis < length c.extents) where
  here : slice_get c.extents c.axis ≡ Some (slice_index c.extents c.axis)
  here = slice_get-get_or c.extents c.axis 0 lt

  pub at_cut : (i : ℤ) (k : ℕ) (ns ps : List ℕ) → position_of (slice_index c.extents c.axis) i ≡ Some k
      → ns ≡ remove c.extents c.axis
      → ps ≡ at_index 0 c.axis k c.extents c.places → Some (cut_of c.axis ns ps) ≡ next_cut (At i) c
  at_cut i k ns ps e n p =
      let same : cut_of c.axis ns ps
      ≡ cut_of c.axis (remove c.extents c.axis) (at_index 0 c.axis k c.extents c.places) =
      λ j. cut_of c.axis (n j) (p j) in
      ap Some same ∙ (ap (at_place c) (sym e) ∙ ap (option_and_then (subscripted c (At i))) (sym here))

  pub at_fault : (i : ℤ) → position_of (slice_index c.extents c.axis) i ≡ None → None ≡ next_cut (At i) c
  at_fault i e = ap (at_place c) (sym e) ∙ ap (option_and_then (subscripted c (At i))) (sym here)

  pub range_cut : (slice : Slice) (picked ns ps : List ℕ)
      → slice_indices (slice_index c.extents c.axis) slice ≡ Some picked
      → ns ≡ slice_set c.extents c.axis (length picked) → ps ≡ sliced 0 c.axis picked c.extents c.places
      → Some (cut_of (c.axis + 1) ns ps) ≡ next_cut (Range slice) c
  range_cut slice picked ns ps e n p =
      let same : cut_of (c.axis + 1) ns ps
      ≡ cut_of (c.axis + 1) (slice_set c.extents c.axis (length picked)) (sliced 0 c.axis picked c.extents c.places) =
      λ j. cut_of (c.axis + 1) (n j) (p j) in
      ap Some same ∙ (ap (with_picks c) (sym e) ∙ ap (option_and_then (subscripted c (Range slice))) (sym here))

  pub range_fault : (slice : Slice) → slice_indices (slice_index c.extents c.axis) slice ≡ None
      → None ≡ next_cut (Range slice) c
  range_fault slice e = ap (with_picks c) (sym e) ∙ ap (option_and_then (subscripted c (Range slice))) (sym here)

-- one turn of the loop over subscripts
module _ (subs : List Subscript) (sub : Subscript) (c : Cut) (whole : Option Cut) (left : cut_by (sub ∷ subs) c
    ≡ whole) where
  pub cut_more : (d : Cut) → Some d ≡ next_cut sub c → cut_by subs d ≡ whole
  cut_more d e = ap (option_and_then (cut_by subs)) e ∙ left

  pub cut_stops : None ≡ next_cut sub c → None ≡ whole
  cut_stops e = ap (option_and_then (cut_by subs)) e ∙ left

-- a view has as many extents as its rank says
pub rank_is : (v : View) → length v.extent ≡ 4 → length (extents v) ≡ v.rank
rank_is v four = length-take-le v.rank v.extent (omega (arith, four, v.shape.rank_fits))

-- ---- what a slice picks

same_some : {A : Type 0} (x y : A) → Some x ≡ Some y → x ≡ y
same_some x y h = cc

none_some : {A : Type 0} (x : A) → None ≡ Some x → ⊥
none_some x h = cc

pub picked_so : {A B : Type 0} (picks : Option (List ℕ)) (f : List ℕ → A) (g : List ℕ → B) (x : A) (y : B)
    → option_map f picks ≡ Some x → option_map g picks ≡ Some y
    → (picked : List ℕ) × (picks ≡ Some picked) × (x ≡ f picked) × (y ≡ g picked)
picked_so None f g x y is also = absurd (none_some x is)
picked_so (Some picked) f g x y is also =
    (picked, refl, sym (same_some (f picked) x is), sym (same_some (g picked) y also))

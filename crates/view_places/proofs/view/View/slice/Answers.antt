use Rattle.std.proofs.Common.{◌≡◌, ℕ, ◌^◌, ◌≤◌, get_or, take, arith, rules, sym, ap, subst, ◌∙◌, Some, None, List}
use Rattle.std.proofs.Common.{length, option_map, slice_set}
use Rattle.std.proofs.lemmas.List.{get_or-take}
use Rattle.view_places.specs.Slice.{slice_indices}
use Rattle.view_places.specs.Arrays.{sliced}
use Rattle.view_places.specs.View.{extents, places}
use Rattle.view_places.specs.Walk.{picks, StaysWithin}
use Rattle.view_places.proofs.PartLemmas.{small-at}
use Rattle.view_places.proofs.view.View.slice.Goals as goal

pub slice_walk-requires : goal.slice_walk-requires
slice_walk-requires c =
    let here : get_or (take c.args.self.now.rank c.args.self.now.extent) c.args.axis 0 ≡
    get_or c.args.self.now.extent c.args.axis 0 =
    get_or-take c.args.self.now.rank c.args.self.now.extent c.args.axis 0 c.requires in
    let is_axis : c.from.result ≡ c.args.axis = omega arith in
    let few : get_or c.args.self.now.extent c.args.axis 0 ≤ 2 ^ 22 =
    omega (
      arith,
      here,
      small-at (take c.args.self.now.rank c.args.self.now.extent) c.args.axis
          c.args.self.now.shape.small,
    ) in
    subst (λ (i : ℕ). get_or c.args.self.now.extent i 0 ≤ 2 ^ 22) (sym is_axis) few

pub picked-requires-clause-within : goal.picked-requires-clause-within
picked-requires-clause-within c =
    let here : get_or (take c.args.self.now.rank c.args.self.now.extent) c.args.axis 0 ≡
    get_or c.args.self.now.extent c.args.axis 0 =
    get_or-take c.args.self.now.rank c.args.self.now.extent c.args.axis 0 c.requires in
    let stays : StaysWithin (get_or c.args.self.now.extent c.args.axis 0) c.in-Some.walk = search rules in
    subst (λ (n : ℕ). StaysWithin n c.in-Some.walk) (sym here) stays

pub returns-in-Some-clause-extents : goal.returns-in-Some-clause-extents
returns-in-Some-clause-extents c =
    let here : get_or (take c.args.self.now.rank c.args.self.now.extent) c.args.axis 0 ≡
    get_or c.args.self.now.extent c.args.axis 0 =
    get_or-take c.args.self.now.rank c.args.self.now.extent c.args.axis 0 c.requires in
    let found : slice_indices (get_or c.args.self.now.extent c.args.axis 0) c.args.s ≡ Some (picks c.in-Some.walk) =
    search rules in
    ap (option_map (λ (ks : List ℕ). slice_set (extents c.args.self.now) c.args.axis (length ks)))
    (ap (λ (n : ℕ). slice_indices n c.args.s) here ∙ found) ∙
    ap Some (sym c.picked.ensures.extents)

pub returns-in-Some-clause-places : goal.returns-in-Some-clause-places
returns-in-Some-clause-places c =
    let here : get_or (take c.args.self.now.rank c.args.self.now.extent) c.args.axis 0 ≡
    get_or c.args.self.now.extent c.args.axis 0 =
    get_or-take c.args.self.now.rank c.args.self.now.extent c.args.axis 0 c.requires in
    let found : slice_indices (get_or c.args.self.now.extent c.args.axis 0) c.args.s ≡ Some (picks c.in-Some.walk) =
    search rules in
    ap (option_map (λ (ks : List ℕ). sliced 0 c.args.axis ks (extents c.args.self.now) (places c.args.self.now)))
    (ap (λ (n : ℕ). slice_indices n c.args.s) here ∙ found) ∙
    ap Some (sym c.picked.ensures.places)

pub returns-in-None-clause-zero_step : goal.returns-in-None-clause-zero_step
returns-in-None-clause-zero_step c =
    let here : get_or (take c.args.self.now.rank c.args.self.now.extent) c.args.axis 0 ≡
    get_or c.args.self.now.extent c.args.axis 0 =
    get_or-take c.args.self.now.rank c.args.self.now.extent c.args.axis 0 c.requires in
    let none : slice_indices (get_or c.args.self.now.extent c.args.axis 0) c.args.s ≡ None = search rules in
    ap (λ (n : ℕ). slice_indices n c.args.s) here ∙ none

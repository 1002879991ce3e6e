use Rattle.std.proofs.Common.{◌≡◌, ℕ, ◌<◌, get_or, take, arith, rules, sym, ap, ◌∙◌, Some, None, option_map}
use Rattle.std.proofs.lemmas.List.{get_or-take}
use Rattle.view_places.specs.Arrays.{position_of, at_index}
use Rattle.view_places.specs.View.{extents, places}
use Rattle.view_places.proofs.PartLemmas.{position-below}
use Rattle.view_places.proofs.view.View.index.Goals as goal

pub at-requires-clause-inside : goal.at-requires-clause-inside
at-requires-clause-inside c =
    let here : get_or (take c.args.self.now.rank c.args.self.now.extent) c.args.axis 0 ≡
    get_or c.args.self.now.extent c.args.axis 0 =
    get_or-take c.args.self.now.rank c.args.self.now.extent c.args.axis 0 c.requires in
    let below : c.in-Some.k < get_or c.args.self.now.extent c.args.axis 0 =
    position-below (get_or c.args.self.now.extent c.args.axis 0) c.in-Some.k c.args.i (search rules) in
    omega (arith, here, below)

pub returns-in-Some-clause-places : goal.returns-in-Some-clause-places
returns-in-Some-clause-places c =
    let here : get_or (take c.args.self.now.rank c.args.self.now.extent) c.args.axis 0 ≡
    get_or c.args.self.now.extent c.args.axis 0 =
    get_or-take c.args.self.now.rank c.args.self.now.extent c.args.axis 0 c.requires in
    let found : position_of (get_or c.args.self.now.extent c.args.axis 0) c.args.i ≡ Some c.in-Some.k = search rules in
    ap (option_map (λ (k : ℕ). at_index 0 c.args.axis k (extents c.args.self.now) (places c.args.self.now)))
    (ap (λ (n : ℕ). position_of n c.args.i) here ∙ found) ∙
    ap Some (sym c.at.ensures.places)

pub returns-in-None-clause-outside : goal.returns-in-None-clause-outside
returns-in-None-clause-outside c =
    let here : get_or (take c.args.self.now.rank c.args.self.now.extent) c.args.axis 0 ≡
    get_or c.args.self.now.extent c.args.axis 0 =
    get_or-take c.args.self.now.rank c.args.self.now.extent c.args.axis 0 c.requires in
    let none : position_of (get_or c.args.self.now.extent c.args.axis 0) c.args.i ≡ None = search rules in
    ap (λ (n : ℕ). position_of n c.args.i) here ∙ none

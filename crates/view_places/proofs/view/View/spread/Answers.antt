use Rattle.std.proofs.Common.{◌≢◌, ◌≡◌, ℕ, List, ◌∷◌, [], take, rules, sym, ap, ◌∙◌, Ok}
use Rattle.view_places.specs.declared.shape.Shape.{Shape}
use Rattle.view_places.specs.Arrays.{broadcast_of}
use Rattle.view_places.proofs.Broadcasts.{fits-joined, ok-joined}
use Rattle.view_places.proofs.OneShape.{shape-one, ok-same}
use Rattle.view_places.proofs.view.View.spread.Goals as goal

pub spread_to-requires-clause-fits : goal.spread_to-requires-clause-fits
spread_to-requires-clause-fits c =
    let same : c.in-Ok.joined ≡ c.args.shape.now = search rules in
    fits-joined (take c.args.self.now.rank c.args.self.now.extent) (take c.args.shape.now.rank c.args.shape.now.extent)
    (ok-joined ((take c.args.self.now.rank c.args.self.now.extent) ∷
    (take c.args.shape.now.rank c.args.shape.now.extent) ∷ []) (take c.args.shape.now.rank c.args.shape.now.extent)
    (ap (λ (xs : List ℕ). broadcast_of (xs ∷ (take c.args.shape.now.rank c.args.shape.now.extent) ∷ []))
    (sym c.shape.ensures.extents) ∙ c.in-Ok.ensures.value ∙ ap (λ (x : Shape). Ok (take x.rank x.extent)) same)).0

pub returns-else-eq-clause-fits : goal.returns-else-eq-clause-fits
returns-else-eq-clause-fits c =
    let other : c.in-Ok.joined ≢ c.args.shape.now = search rules in (
      λ h. cc,
      λ e. absurd
          (other
          (shape-one c.in-Ok.joined c.args.shape.now c.in-Ok.ensures.shape c.requires (search rules) (search rules)
          (ok-same (take c.in-Ok.joined.rank c.in-Ok.joined.extent) (take c.args.shape.now.rank c.args.shape.now.extent)
          (sym (ap (λ (xs : List ℕ). broadcast_of (xs ∷ (take c.args.shape.now.rank c.args.shape.now.extent) ∷ []))
          (sym c.shape.ensures.extents) ∙ c.in-Ok.ensures.value) ∙ e)))),
    )

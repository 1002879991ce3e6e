use Rattle.std.proofs.Common.{◌≡◌, ℕ, List, rules, ap, ◌∙◌}
use Rattle.std.specs.List.{range_with_len}
use Rattle.view_places.specs.Arrays.{element_count}
use Rattle.view_places.specs.View.{extents, places}
use Rattle.view_places.proofs.Contiguous.{same-consecutive, consecutive-same}
use Rattle.view_places.proofs.view.View.is_contiguous.Goals as goal

pub returns : goal.returns
returns c =
    let e : extents c.whole-whole.result ≡ extents c.args.self.now = c.whole-whole.ensures.extents ∙
    c.shape.ensures.extents in
    let p : places c.whole-whole.result ≡ range_with_len 0 (element_count (extents c.args.self.now)) =
    c.whole-whole.ensures.places ∙ ap (λ (xs : List ℕ). range_with_len 0 (element_count xs))
    c.shape.ensures.extents in (
      λ h. same-consecutive c.args.self.now c.whole-whole.result (search rules) (search rules) (search rules)
          (search rules) e p (c.are_same.ensures.0 h),
      λ h. c.are_same.ensures.1 (consecutive-same c.args.self.now c.whole-whole.result (search rules) (search rules)
          (search rules) (search rules) e p h),
    )

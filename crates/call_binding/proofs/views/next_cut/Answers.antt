use Rattle.std.proofs.Common.{◌≡◌, ◌<◌, ◌∙◌, ap, sym, length, rules, arith}
use Rattle.std.specs.Prelude.{slice_index, slice_set}
use Rattle.view_places.specs.Arrays.{sliced}
use Rattle.view_places.specs.Slice.{slice_indices}
use Rattle.view_places.specs.View.{extents, places}
use Rattle.call_binding.specs.Views.{cut_of, next_cut}
use Rattle.call_binding.proofs.ViewLaws.{range_cut, rank_is, picked_so}
use Rattle.call_binding.proofs.views.next_cut.Goals as goal

pub returns-in-Ok-slice-clause-cut : goal.returns-in-Ok-slice-clause-cut
returns-in-Ok-slice-clause-cut c =
    let v = c.in-Ok-slice.view in
    let ns = extents c.args.view.now in
    let ps = places c.args.view.now in
    let h = picked_so (slice_indices (slice_index ns c.args.axis) c.in-Range.slice)
    (λ picks. slice_set ns c.args.axis (length picks)) (λ picks. sliced 0 c.args.axis picks ns ps) (extents v)
    (places v) c.in-Ok-slice.ensures.extents c.in-Ok-slice.ensures.places in
    let before = cut_of c.args.axis ns ps in
    let four : length c.args.view.now.extent ≡ 4 = search rules in
    let rank : length (extents c.args.view.now) ≡ c.args.view.now.rank = rank_is c.args.view.now four in
    let lt : c.args.axis < length (extents c.args.view.now) = omega (arith, rank, c.if-axis-view.false) in
    range_cut before lt c.in-Range.slice h.0 (extents v) (places v) h.1 h.2 h.3
    ∙ ap (λ s. next_cut s before) (sym c.in-Range.is)

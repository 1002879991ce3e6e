use Rattle.std.proofs.Common.{arith, ◌≡◌, ◌∙◌, ap, sym, subst, ℕ, List, pos, ◌+◌, ◌<◌, ◌+ℤ◌, length, slice_index_or}
use Rattle.std.specs.Prelude.{slice_index}
use Rattle.view_places.specs.Arrays.{element_count}
use Rattle.view_places.specs.Spread.{places}
use Rattle.view_places.specs.Stepping.{axis_from}
use Rattle.loop_exec.specs.Leaves.{HasExtent, place_at}
use Rattle.loop_exec.specs.declared.leaf.Leaf.{Leaf}
use Rattle.loop_exec.proofs.leaf_calls.next_place.Goals as goal

pub advanced-requires-clause-next : goal.advanced-requires-clause-next
advanced-requires-clause-next c =
    let leaf : Leaf = c.in-Some.leaf in
    let number : ℕ = c.args.number in
    let extent : leaf.spread.extent ≡ c.args.extent.now =
    subst (HasExtent c.args.extent.now) c.in-Some.is c.requires.extent in
    let place : c.args.place ≡ slice_index (places leaf.spread) number =
    c.requires.place ∙ ap (place_at number) c.in-Some.is in
    let count : length (places leaf.spread) ≡ element_count c.args.extent.now =
    c.by_rows.ensures.count ∙ ap element_count extent in
    let inside : number + 1 < length (places leaf.spread) = omega (arith, count, c.requires.more) in
    let within : slice_index (places leaf.spread) (number + 1) < leaf.spread.length =
    c.by_rows.ensures.within (number + 1) inside in
    let fits : leaf.spread.length < 4294967296 = c.by_rows.ensures.fits in (
      slice_index (places leaf.spread) (number + 1),
      omega (arith, within, fits),
      leaf.lead number inside ∙
          ap (λ (p : ℕ). pos p +ℤ slice_index_or leaf.leaps (axis_from leaf.spread.extent number) (pos 0))
          (sym place) ∙
          ap (λ (ns : List ℕ). pos c.args.place +ℤ slice_index_or leaf.leaps (axis_from ns number) (pos 0))
          extent ∙
          ap (λ (a : ℕ). pos c.args.place +ℤ slice_index_or leaf.leaps a (pos 0)) (sym c.requires.axis),
    )

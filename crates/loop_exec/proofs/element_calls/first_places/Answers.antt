use Rattle.loop_exec.specs.Leaves.{place_at}
use Rattle.std.proofs.Common.{◌≡◌, ◌<◌, ◌∙◌, ap, None, slice_index_or, length, arith}
use Rattle.std.proofs.lemmas.List.{get_or_default, length-set}
use Rattle.loop_exec.proofs.ListLemmas.{set_more}
use Rattle.loop_exec.proofs.element_calls.first_places.Goals as goal

pub loop-i-preserved : goal.loop-i-preserved
loop-i-preserved c =
    let inside : c.loop-i.i < length c.loop-i.places =
    (let few = c.requires.ready.few in let size = c.loop-i.invariant.0 in let below = c.loop-i-test.true in
    omega (arith, few, size, below)) in
    let there : c.loop-i.i < length c.args.e.now.leaves.now = (let few = c.requires.ready.few in let room =
    c.requires.ready.room in let below = c.loop-i-test.true in omega (arith, few, room, below)) in
    let leaf : slice_index_or c.args.e.now.leaves.now c.loop-i.i c.index-e-i.result ≡
    slice_index_or c.args.e.now.leaves.now c.loop-i.i None =
    get_or_default c.args.e.now.leaves.now c.loop-i.i c.index-e-i.result None there in (
      length-set c.loop-i.places c.loop-i.i c.first_place.result ∙ c.loop-i.invariant.0,
      set_more c.loop-i.places c.loop-i.i c.first_place.result
          (λ j. place_at 0 (slice_index_or c.args.e.now.leaves.now j None)) inside c.loop-i.invariant.1
          (c.first_place.ensures ∙ ap (place_at 0) leaf),
    )

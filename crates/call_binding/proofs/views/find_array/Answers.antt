use Rattle.std.proofs.Common.{◌≡◌, ◌<◌, List, ℕ, length, map, subst, arith, slice_index_or}
use Rattle.std.proofs.lemmas.List.{get_or-map, length-map}
use Rattle.view_places.specs.declared.shape.Array.{Array}
use Rattle.call_binding.specs.Seen.{named}
use Rattle.call_binding.specs.Sound.{IsArray}
use Rattle.call_binding.proofs.views.find_array.Goals as goal

pub returns-in-Some-clause-array : goal.returns-in-Some-clause-array
returns-in-Some-clause-array c =
    let held = c.args.buffers.now in
    let k = c.in-Some.number in
    let d = c.index-buffers-number.result in
    let lt : k < length held = c.in-Some.ensures.within in
    subst (λ (buffer : List ℕ × Array). IsArray buffer.1) (get_or-map named held k d (named d) lt)
    (c.requires.arrays k (named d) (omega (arith, lt, length-map held named)))

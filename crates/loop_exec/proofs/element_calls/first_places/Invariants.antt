use Rattle.std.proofs.Common.{◌≡◌, ℕ, ◌<◌, None, length, slice_index_or}
use Rattle.std.specs.Prelude.{slice_index}
use Rattle.loop_exec.specs.Leaves.{place_at}
use Rattle.loop_exec.proofs.element_calls.first_places.Given as goal

-- the places of the steps so far
abbrev pub invariant-loop-i : goal.invariant-loop-i
invariant-loop-i l =
    (length l.places ≡ 64)
    × ((j : ℕ) → j < l.i → slice_index l.places j ≡ place_at 0 (slice_index_or l.e.leaves.now j None))

use Rattle.std.proofs.Common.{◌≡◌, ℕ, ◌+◌, ◌<◌, ◌≤◌, None, length, slice_index_or}
use Rattle.std.specs.Prelude.{slice_index}
use Rattle.loop_exec.specs.Leaves.{place_at}
use Rattle.loop_exec.proofs.element_calls.next_places.Given as goal

-- the steps so far have their next place, the others still theirs
abbrev pub invariant-loop-i : goal.invariant-loop-i
invariant-loop-i l =
    ((j : ℕ) → j < l.i → slice_index l.places j ≡ place_at (l.number + 1) (slice_index_or l.e.leaves.now j None))
    × ((j : ℕ) → l.i ≤ j → j < length l.e.steps.now →
    slice_index l.places j ≡ place_at l.number (slice_index_or l.e.leaves.now j None))

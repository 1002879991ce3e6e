-- A walk: a number of steps from a start.
-- Clauses of private functions and proofs alone cite it.
use Rattle.std.specs.Prelude.{ℕ, ◌<◌, ◌≤◌, ◌≢◌, List, map, pos, ◌≤ℤ◌, ◌<ℤ◌, unsigned_abs}
use Rattle.std.specs.List.{range_with_len}
use Rattle.view_places.specs.Slice.{after_steps}
use Rattle.view_places.specs.declared.walk.Walk.{Walk}

-- the numbers of a walk
abbrev pub picks : Walk → List ℕ
picks w = map unsigned_abs (map (after_steps w.start w.step) (range_with_len 0 w.count))

-- a walk among n entries, that meets none twice
pub record StaysWithin (n : ℕ) (w : Walk) : Type 0 where
  pub few : w.count ≤ n
  pub moves : w.step ≢ pos 0
  pub inside : (k : ℕ) → k < w.count → (pos 0 ≤ℤ after_steps w.start w.step k) × (after_steps w.start w.step k <ℤ pos n)

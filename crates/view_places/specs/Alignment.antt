-- Shapes that fit to others by broadcasting.
-- Clauses of private functions and proofs alone cite it.
use Rattle.std.specs.Prelude.{◌≡◌, ℕ, ◌-◌, ◌≤◌, List, [], ◌∷◌, length, drop, ◌⊎◌, Bool, not, ◌==◌, filter}
use Rattle.std.specs.Prelude.{if◌then◌else◌, Option, Some, None, slice_index_or}
use Rattle.std.specs.List.{list_all}
use Rattle.view_places.specs.Arrays.{all_same, proper_extents}

-- each extent is 1 or the other shape's, one by one from the first
abbrev pub Fits : List ℕ → List ℕ → Type 0
Fits [] ms = Unit {0}
Fits (n ∷ ns) [] = ⊥
Fits (n ∷ ns) (m ∷ ms) = ((n ≡ 1) ⊎ (n ≡ m)) × Fits ns ms

-- a shape has no more dimensions than another and fits to its last ones
pub record FitsTo (from to : List ℕ) : Type 0 where
  pub rank : length from ≤ length to
  pub extents : Fits from (drop (length to - length from) to)

-- the one extent other than 1 of a list of extents, or 1; None where two of them are other than 1 and differ
abbrev pub one_extent : List ℕ → Option ℕ
one_extent es =
    if all_same (filter (λ n. not (n == 1)) es) then Some (slice_index_or (filter (λ n. not (n == 1)) es) 0 1) else None

-- the same of an extent that others have given, or 1, and a further one
abbrev pub joined_step : ℕ → ℕ → Option ℕ
joined_step one e = if e == 1 then Some one else (if one == 1 then Some e else (if e == one then Some one else None))

-- no aligned dimension has two different extents other than 1
abbrev pub all_fit : List (List ℕ) → List ℕ → Bool
all_fit shapes backs = list_all (λ k. all_same (proper_extents k shapes)) backs

-- The places of a shape as rows of rows, one stride from row to row. There is no index and no product here.
use Rattle.std.specs.Prelude.{ℕ, zero, suc, List, [], ◌∷◌, ◌++◌, ℤ, ◌+ℤ◌}

-- the numbers of n rows, each one stride further than the row before it
abbrev pub turns : ℕ → ℤ → (ℤ → List ℤ) → ℤ → List ℤ
turns zero stride row start = []
turns (suc n) stride row start = row start ++ turns n stride row (start +ℤ stride)

-- the numbers of the dimensions, which are pairs of an extent and a stride: in the first one each row is what the
-- others make
abbrev pub rows : List (ℕ × ℤ) → ℤ → List ℤ
rows [] start = start ∷ []
rows (d ∷ ds) start = turns d.0 d.1 (rows ds) start

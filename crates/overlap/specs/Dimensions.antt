-- What one dimension adds to the least, the greatest and the last place, n steps of a stride from its first entry.
use Rattle.std.specs.Prelude.{ℕ, zero, suc, pred, Bool, true, false, ◌&&◌, ◌||◌, List, [], ◌∷◌, ℤ, pos, negsuc, ◌+ℤ◌}
use Rattle.std.specs.Prelude.{◌*ℤ◌, int_lt}

abbrev pub is_zero : ℕ → Bool
is_zero zero = true
is_zero (suc n) = false

-- how far the least entry stands from the first
abbrev pub fall : ℕ → ℤ → ℤ
fall n (pos s) = pos 0
fall n (negsuc s) = negsuc s *ℤ pos n

-- how far the greatest entry stands from the first
abbrev pub climb : ℕ → ℤ → ℤ
climb n (pos s) = pos s *ℤ pos n
climb n (negsuc s) = pos 0

-- the same of all dimensions
abbrev pub low : List (ℕ × ℤ) → ℤ
low [] = pos 0
low (d ∷ ds) = fall (pred d.0) d.1 +ℤ low ds

abbrev pub high : List (ℕ × ℤ) → ℤ
high [] = pos 0
high (d ∷ ds) = climb (pred d.0) d.1 +ℤ high ds

-- how far the last entry stands from the first
abbrev pub span : List (ℕ × ℤ) → ℤ
span [] = pos 0
span (d ∷ ds) = (d.1 *ℤ pos (pred d.0)) +ℤ span ds

-- each row begins above the end of the row before, where there is more than one
abbrev pub rises_here : ℕ → ℤ → ℤ → Bool
rises_here n s behind = is_zero (pred n) || int_lt behind s

abbrev pub rises_by : List (ℕ × ℤ) → Bool
rises_by [] = true
rises_by (d ∷ ds) = rises_here d.0 d.1 (span ds) && rises_by ds

-- a dimension has no entry
abbrev pub lacks : List (ℕ × ℤ) → Bool
lacks [] = false
lacks (d ∷ ds) = is_zero d.0 || lacks ds

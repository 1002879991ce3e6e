-- Counts of faults and numbers of calls, which stay at the greatest number of 64 bits (this project).
use Rattle.std.specs.Prelude.{ℕ, ◌+◌, ◌-◌, ◌^◌, ◌≤◌, ◌==◌, Bool, List, min}
use Rattle.std.specs.List.{list_any}

-- the next number, where the greatest one is followed by itself
abbrev pub raised : ℕ → ℕ
raised n = min (n + 1) (2 ^ 64 - 1)

-- A count of faults went up. One that stands at its greatest number afterwards counts as risen.
abbrev pub Rose : ℕ → ℕ → Type 0
Rose old new = min (old + 1) (2 ^ 64 - 1) ≤ new

-- whether the call with this number is among those that are to fail
abbrev pub is_to_fail : List ℕ → ℕ → Bool
is_to_fail fails call = list_any (λ number. number == call) fails

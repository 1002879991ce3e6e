-- Two's complement, which Python's and NumPy's bit operations work on.
use Rattle.std.specs.Prelude.{ℕ, ◌-◌, ℤ, pos, negsuc}
use Rattle.std.specs.Int.{bit_at}

-- Bit k of a number, where bit 0 is worth 1: the bits of -(n + 1) are those of n turned over.
abbrev pub bit_of : ℤ → ℕ → ℕ
bit_of (pos n) k = bit_at n k
bit_of (negsuc n) k = 1 - bit_at n k

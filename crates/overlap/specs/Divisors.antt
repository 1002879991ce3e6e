-- Greatest common divisors, with 0 as that of no number.
use Rattle.std.specs.Prelude.{ℕ, zero, suc, ◌%◌, ◌==◌, Bool, if◌then◌else◌, ℤ, unsigned_abs}

-- Euclid's algorithm in at most so many steps
abbrev pub gcd_within : ℕ → ℕ → ℕ → ℕ
gcd_within zero a b = a
gcd_within (suc steps) a b = if b == 0 then a else gcd_within steps b (a % b)

-- the greatest common divisor of two numbers
unfoldable pub gcd : ℕ → ℕ → ℕ
gcd a b = gcd_within b a b

-- whether a number is a multiple of g; of 0 only 0 is one
abbrev pub is_multiple : ℕ → ℤ → Bool
is_multiple g z = unsigned_abs z % g == 0

-- A turn of a loop that counts up to its end.
use Rattle.std.proofs.Common.{◌≡◌, ℕ, suc, ◌+◌, ◌-◌, ◌<◌, arith}

pub turn : (n at : ℕ) → at < n → n - at ≡ suc (n - (at + 1))
turn n at below = omega arith

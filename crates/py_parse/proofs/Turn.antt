-- A turn of a loop that counts up to its end.
use Rattle.std.proofs.Common.{◌≡◌, ℕ, suc, ◌+◌, ◌-◌, ◌<◌, arith}

pub up : (n at : ℕ) → at < n → n - at ≡ suc (n - (at + 1))
up n at below = omega arith

-- The laws of a reduction's join, over words alone: what lets an array be joined in pieces.
use Rattle.std.specs.Prelude.{◌≡◌, ℤ}
use Rattle.krn_base.specs.Numbers.{IsWord}

abbrev pub InRange : (ℤ → ℤ → ℤ) → Type 0
InRange joined = (a b : ℤ) → IsWord a → IsWord b → IsWord (joined a b)

abbrev pub Associates : (ℤ → ℤ → ℤ) → Type 0
Associates joined = (a b c : ℤ) → IsWord a → IsWord b → IsWord c → joined (joined a b) c ≡ joined a (joined b c)

abbrev pub Exchanges : (ℤ → ℤ → ℤ) → Type 0
Exchanges joined = (a b : ℤ) → IsWord a → IsWord b → joined a b ≡ joined b a

abbrev pub HasUnit : (ℤ → ℤ → ℤ) → ℤ → Type 0
HasUnit joined unit = (a : ℤ) → IsWord a → joined unit a ≡ a

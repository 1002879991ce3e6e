-- Bit operations on words, bit by bit.
use Rattle.std.proofs.Common.{◌≡◌, ℕ, ℤ, suc, pos, negsuc, ◌+◌, ◌-◌, ◌%◌, ◌^◌, ◌<◌, min, max, refl, sym, ap, ◌∙◌, arith}
use Rattle.std.proofs.Common.{bit_and, bit_or, bit_xor}
use Rattle.std.specs.Int.{w64, cast_signed, cast_unsigned, bit_at, bit_not, int_bit_and, int_bit_or, int_bit_xor}
use Rattle.std.proofs.lemmas.Int.{of_z-to_z}
use Rattle.std.proofs.lemmas.Nat.{or_lt, xor_lt, and_le_l}
use Rattle.std.proofs.lemmas.Nat.Bits.{bit_at_and, bit_at_or, bit_at_xor, bit_at_not, bit_at-lt, same_from_bits}
use borrow.Author.Differences.{fits_in, read_fits}
use Rattle.std.proofs.Math.Facts.{Fits-of_z}
use Rattle.krn_base.specs.Numbers.{IsWord, inverse}
use Rattle.krn_base.specs.Bits.{bit_of}

pub bits_fit : (a : ℤ) → IsWord a → cast_unsigned w64 a < 2 ^ 64
bits_fit a f = (Fits-of_z f).fits

-- the bits of a word are those of its unsigned form
pub bit_of-word : (a : ℤ) (k : ℕ) → IsWord a → k < 64 → bit_of a k ≡ bit_at (cast_unsigned w64 a) k
bit_of-word (pos n) k f h = refl
bit_of-word (negsuc n) k f h =
    let same : 2 ^ 64 - suc n ≡ bit_not w64 n = omega arith in
    let small : n < 2 ^ 64 = omega (arith, f.sfits) in
    sym (ap (λ m. bit_at m k) same ∙ bit_at_not w64 n k small h)

-- every 64 bits are a word
pub word_of_bits : (n : ℕ) → n < 2 ^ 64 → IsWord (cast_signed w64 n)
word_of_bits n l = omega (arith, fits_in, read_fits w64 n)

bit_of-bits : (n k : ℕ) → n < 2 ^ 64 → k < 64 → bit_of (cast_signed w64 n) k ≡ bit_at n k
bit_of-bits n k l h = bit_of-word (cast_signed w64 n) k (word_of_bits n l) h ∙ ap (λ m. bit_at m k) (of_z-to_z w64 n l)

module _ (a b : ℤ) (k : ℕ) (f : IsWord a) (g : IsWord b) (h : k < 64) where
  by_bits : (op : ℕ → ℕ → ℕ) (on_bit : ℕ → ℕ → ℕ) → op (cast_unsigned w64 a) (cast_unsigned w64 b) < 2 ^ 64
      → bit_at (op (cast_unsigned w64 a) (cast_unsigned w64 b)) k ≡
      on_bit (bit_at (cast_unsigned w64 a) k) (bit_at (cast_unsigned w64 b) k)
      → bit_of (cast_signed w64 (op (cast_unsigned w64 a) (cast_unsigned w64 b))) k ≡ on_bit (bit_of a k) (bit_of b k)
  by_bits op on_bit small e =
      bit_of-bits (op (cast_unsigned w64 a) (cast_unsigned w64 b)) k small h ∙ e
      ∙ sym (λ i. on_bit (bit_of-word a k f h i) (bit_of-word b k g h i))

  pub and_by_bits : bit_of (int_bit_and w64 a b) k ≡ min (bit_of a k) (bit_of b k)
  and_by_bits = by_bits bit_and min (omega (arith, and_le_l (cast_unsigned w64 a) (cast_unsigned w64 b), bits_fit a f))
      (bit_at_and _ _ k)

  pub or_by_bits : bit_of (int_bit_or w64 a b) k ≡ max (bit_of a k) (bit_of b k)
  or_by_bits = by_bits bit_or max (or_lt 64 _ _ (bits_fit a f) (bits_fit b g)) (bit_at_or _ _ k)

  pub xor_by_bits : bit_of (int_bit_xor w64 a b) k ≡ (bit_of a k + bit_of b k) % 2
  xor_by_bits = by_bits bit_xor (λ x y. (x + y) % 2) (xor_lt 64 _ _ (bits_fit a f) (bits_fit b g)) (bit_at_xor _ _ k)

-- every bit is turned over
pub inverse_by_bits : (a : ℤ) (k : ℕ) → bit_of (inverse a) k ≡ 1 - bit_of a k
inverse_by_bits (pos n) k = refl
inverse_by_bits (negsuc n) k = omega (arith, bit_at-lt n k)

pub or_assoc : (a b c : ℕ) → bit_or (bit_or a b) c ≡ bit_or a (bit_or b c)
or_assoc a b c = same_from_bits _ _
    (λ i. omega (arith, bit_at_or (bit_or a b) c i, bit_at_or a b i, bit_at_or a (bit_or b c) i, bit_at_or b c i))

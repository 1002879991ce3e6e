-- Words and the numbers that they are left of.
use Rattle.std.proofs.Common.{◌≡◌, ℕ, ℤ, zero, suc, pos, negsuc, ◌+◌, ◌*◌, ◌/◌, ◌%◌, ◌^◌, ◌<◌, ◌≤◌, ◌*ℤ◌, neg_ℤ, refl}
use Rattle.std.proofs.Common.{sym, ap, ◌∙◌, arith, min, ◌⊎◌, inl, inr, int_lt, unsigned_abs, false, true≢false}
use Rattle.std.specs.Int.{w64, int_wrap, cast_signed, cast_unsigned, int_shl, int_shr, div_ceil}
use Rattle.std.proofs.lemmas.Int.{ints, int_wrap_fits, to_z-of_z, wrapping_mul-bits, int_wrap-mul_left}
use Rattle.std.proofs.lemmas.Int.{int_wrap-mul_right, int_wrap-sub_right}
use Rattle.std.proofs.lemmas.Nat.{mul-mod_first, mul-mod_second, pow_pos, mod_below, div-mul-add, mod-mul-add}
use Rattle.std.proofs.lemmas.Nat.{div-add-mod', shr_le}
use Rattle.std.proofs.lemmas.Bool.{cases_lt}
use Rattle.std.proofs.Math.Nat.{mod-eq_of_lt, pow-suc, pow-zero}
use Rattle.std.proofs.Math.Facts.{Fits-of_z}
use lib.IntN.{+ℤ_idl}
use mathlib.Core.Bool.{beq}
use Rattle.krn_base.specs.Numbers.{wrap, IsWord, power, floor_div}

-- the word of the bits n
pub wrap-pos : (n : ℕ) → n < 2 ^ 64 → cast_signed w64 n ≡ wrap (pos n)
unfolding int_wrap
wrap-pos n h = ap (cast_signed w64) (sym (mod-eq_of_lt h))

-- the same for a number that may not fit
wrap-mod : (n : ℕ) → cast_signed w64 (n % 2 ^ 64) ≡ wrap (pos n)
unfolding int_wrap
wrap-mod n = refl

-- to wrap before a change of sign changes nothing
pub wrap-neg : (z : ℤ) → wrap (neg_ℤ (wrap z)) ≡ wrap (neg_ℤ z)
wrap-neg z =
    ap wrap (sym (+ℤ_idl (neg_ℤ (wrap z)))) ∙ int_wrap-sub_right w64 (pos 0) z ∙ ap wrap (+ℤ_idl (neg_ℤ z))

-- a power is wrapped at each step, or at the end
pub wrap-power : (a : ℤ) (k : ℕ) → IsWord a → cast_signed w64 ((cast_unsigned w64 a ^ k) % 2 ^ 64) ≡ wrap (power a k)
unfolding power
wrap-power a zero f = ap (λ n. cast_signed w64 (n % 2 ^ 64)) (pow-zero (cast_unsigned w64 a)) ∙
    sym (int_wrap_fits w64 (pos 1) (record { sfits = omega arith }))
wrap-power a (suc k) f =
    let u = cast_unsigned w64 a in
    let small : u < 2 ^ 64 = (Fits-of_z f).fits in
    let e : u ^ suc k % 2 ^ 64 ≡ (u ^ k % 2 ^ 64 * u) % 2 ^ 64 = ap (λ n. n % 2 ^ 64) (pow-suc u k) ∙
    sym (mul-mod_first (u ^ k) u (2 ^ 64)) in
    ap (cast_signed w64) e ∙ wrapping_mul-bits w64 (u ^ k % 2 ^ 64) u (mod_below (u ^ k) (2 ^ 64) (omega arith)) small
    ∙ (λ i. wrap (wrap-power a k f i *ℤ to_z-of_z w64 a f i)) ∙ int_wrap-mul_left w64 (power a k) a

-- a left shift of the bits is a wrapped product
pub wrap-shl : (a : ℤ) (k : ℕ) → IsWord a → int_shl w64 a k ≡ wrap (a *ℤ pos (2 ^ k))
wrap-shl a k f =
    let u = cast_unsigned w64 a in
    let m : ℕ = 2 ^ k % 2 ^ 64 in
    let small : u < 2 ^ 64 = (Fits-of_z f).fits in
    let low : m < 2 ^ 64 = mod_below (2 ^ k) (2 ^ 64) (omega arith) in
    ap (cast_signed w64) (sym (mul-mod_second u (2 ^ k) (2 ^ 64))) ∙ wrapping_mul-bits w64 u m small low
    ∙ (λ i. wrap (to_z-of_z w64 a f i *ℤ wrap-mod (2 ^ k) i)) ∙ int_wrap-mul_right w64 a (pos (2 ^ k))

-- a quotient of one more is one more, rounded up where that of the lesser is rounded down
pub div_ceil-suc : (a b : ℕ) → 0 < b → div_ceil (suc a) b ≡ suc (a / b)
div_ceil-suc a b h = by (cases_lt (suc (a % b)) b)
  where
    at : (q r : ℕ) → r < b → suc a ≡ q * b + r → div_ceil (suc a) b ≡ q + min 1 r
    at q r l e = ap (λ n. div_ceil n b) e ∙ (λ i. div-mul-add q b r l i + min 1 (mod-mul-add q b r l i))

    by : (suc (a % b) < b) ⊎ (b ≤ suc (a % b)) → div_ceil (suc a) b ≡ suc (a / b)
    by (inl l) = at (a / b) (suc (a % b)) l (omega (arith, div-add-mod' a b)) ∙ omega arith
    by (inr g) = at (suc (a / b)) 0 h (omega (arith, div-add-mod' a b, mod_below a b h)) ∙ omega arith

pub not_negative : (n : ℕ) → int_lt (pos n) (pos 0) ≡ false
not_negative n = grind (arith, ints)

-- the sizes' quotient, rounded up and with the other sign, is the floor where the signs differ
pub floor_div-apart : (a b : ℤ) → beq (int_lt a (pos 0)) (int_lt b (pos 0)) ≡ false →
    neg_ℤ (pos (div_ceil (unsigned_abs a) (unsigned_abs b))) ≡ floor_div a b
floor_div-apart (pos a) (pos b) h = absurd (true≢false (sym (λ i. beq (not_negative a i) (not_negative b i)) ∙ h))
floor_div-apart (pos a) (negsuc b) h = refl
floor_div-apart (negsuc a) (pos b) h = refl
floor_div-apart (negsuc a) (negsuc b) h = absurd (true≢false h)

-- a right shift that copies the sign bit is the floor of the quotient by a power of two
pub shr-floor_div : (a : ℤ) (k : ℕ) → int_shr a k ≡ floor_div a (pos (2 ^ k))
shr-floor_div (pos a) k = refl
shr-floor_div (negsuc a) k = ap (λ n. neg_ℤ (pos n)) (sym (div_ceil-suc a (2 ^ k) (pow_pos k)))

pub fits-shr : (a : ℤ) (k : ℕ) → IsWord a → IsWord (int_shr a k)
fits-shr (pos a) k f = record { sfits = omega (arith, shr_le a k, f.sfits) }
fits-shr (negsuc a) k f = record { sfits = omega (arith, shr_le a k, f.sfits) }

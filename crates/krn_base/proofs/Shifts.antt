-- A count of 64 or more leaves what the exact product and quotient leave.
use Rattle.std.proofs.Common.{◌≡◌, ℕ, ℤ, pos, negsuc, ◌+◌, ◌-◌, ◌/◌, ◌^◌, ◌<◌, ◌≤◌, ◌*ℤ◌, Bool, true, false, nat_lt}
use Rattle.std.proofs.Common.{refl, sym, ap, ◌∙◌, arith, if◌then◌else◌}
use Rattle.std.specs.Int.{w64, int_wrap}
use Rattle.std.proofs.lemmas.Int.{int_wrap-mul_right}
use Rattle.std.proofs.lemmas.Nat.{pow-add}
use Rattle.std.proofs.Math.IntN.{*ℤ-zero}
use Rattle.std.proofs.Math.Nat.{div-eq_of_lt, pow-le-pow_right}
use Rattle.krn_base.proofs.Wrapping.{shr-floor_div, not_negative}
use Rattle.krn_base.specs.ReduceLaws.{mul_assoc_ℤ}
use Rattle.krn_base.specs.Numbers.{wrap, IsWord, floor_div, sign_fill, shift_left, shift_right}

wrap-whole : wrap (pos (2 ^ 64)) ≡ pos 0
unfolding int_wrap
wrap-whole = refl

wrap-none : (z : ℤ) → wrap (z *ℤ pos 0) ≡ pos 0
unfolding int_wrap
wrap-none z = ap wrap (*ℤ-zero z)

-- a product by a power from 2^64 on leaves nothing
far_left : (a : ℤ) (k : ℕ) → 64 ≤ k → wrap (a *ℤ pos (2 ^ k)) ≡ pos 0
far_left a k h =
    let j : ℕ = k - 64 in
    let split : k ≡ j + 64 = omega arith in
    let z = a *ℤ pos (2 ^ j) in
    ap (λ n. wrap (a *ℤ pos n)) (ap (λ n. 2 ^ n) split ∙ pow-add 2 j 64)
    ∙ ap wrap (sym (mul_assoc_ℤ a (pos (2 ^ j)) (pos (2 ^ 64))))
    ∙ sym (int_wrap-mul_right w64 z (pos (2 ^ 64))) ∙ ap (λ y. wrap (z *ℤ y)) wrap-whole ∙ wrap-none z

far_below : (n k : ℕ) → n < 2 ^ 63 → 64 ≤ k → n / 2 ^ k ≡ 0
far_below n k l h = div-eq_of_lt (omega (arith, pow-le-pow_right {n = 2} (omega arith) h))

-- a quotient by a power from 2^64 on is the sign
far_right : (a : ℤ) (k : ℕ) → IsWord a → 64 ≤ k → floor_div a (pos (2 ^ k)) ≡ sign_fill a
far_right (pos n) k f h =
    ap pos (far_below n k f.sfits h) ∙ sym (ap (λ t. if t then negsuc 0 else pos 0) (not_negative n))
far_right (negsuc n) k f h = sym (shr-floor_div (negsuc n) k) ∙ ap negsuc (far_below n k f.sfits h)

at_least : (k : ℕ) → nat_lt k 64 ≡ false → 64 ≤ k
at_least k e = grind arith

pub left_shift : (a : ℤ) (k : ℕ) → shift_left a (pos k) ≡ wrap (a *ℤ pos (2 ^ k))
left_shift a k = by (nat_lt k 64) refl
  where
    by : (t : Bool) → nat_lt k 64 ≡ t → (if t then wrap (a *ℤ pos (2 ^ k)) else pos 0) ≡ wrap (a *ℤ pos (2 ^ k))
    by true e = refl
    by false e = sym (far_left a k (at_least k e))

pub right_shift : (a : ℤ) (k : ℕ) → IsWord a → shift_right a (pos k) ≡ floor_div a (pos (2 ^ k))
right_shift a k f = by (nat_lt k 64) refl
  where
    by : (t : Bool) → nat_lt k 64 ≡ t →
        (if t then floor_div a (pos (2 ^ k)) else sign_fill a) ≡ floor_div a (pos (2 ^ k))
    by true e = refl
    by false e = sym (far_right a k f (at_least k e))

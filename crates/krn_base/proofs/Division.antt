-- What is left of a quotient and its rest.
use Rattle.std.proofs.Common.{◌≡◌, ◌≢◌, ℤ, zero, suc, pos, negsuc, ◌+ℤ◌, ◌*ℤ◌, false, refl, ap, ◌∙◌, arith}
use Rattle.std.proofs.Common.{if◌then◌else◌}
use Rattle.std.specs.Int.{w64}
use Rattle.std.proofs.lemmas.Int.{ints, int_wrap_fits, int_wrap-add_left, int_wrap-add_right, int_wrap-mul_left}
use Rattle.krn_base.specs.Numbers.{wrap, IsWord, floor_div, floor_mod, is_zero, or_zero}

pub is_zero-apart : (b : ℤ) → b ≢ pos 0 → is_zero b ≡ false
is_zero-apart (pos zero) h = absurd (h refl)
is_zero-apart (pos (suc n)) h = grind (arith, ints)
is_zero-apart (negsuc n) h = refl

whole : (a b : ℤ) → (floor_div a b *ℤ b) +ℤ floor_mod a b ≡ a
whole a b = omega (arith, ints)

pub put_together : (a b : ℤ) → IsWord a → IsWord b → b ≢ pos 0
    → wrap (wrap (or_zero b (wrap (floor_div a b)) *ℤ b) +ℤ or_zero b (wrap (floor_mod a b))) ≡ a
put_together a b f g apart =
    let q = floor_div a b in
    let r = floor_mod a b in
    ap (λ t. wrap (wrap ((if t then pos 0 else wrap q) *ℤ b) +ℤ (if t then pos 0 else wrap r))) (is_zero-apart b apart)
    ∙ ap (λ z. wrap (z +ℤ wrap r)) (int_wrap-mul_left w64 q b)
    ∙ int_wrap-add_left w64 (q *ℤ b) (wrap r) ∙ int_wrap-add_right w64 (q *ℤ b) r
    ∙ ap wrap (whole a b) ∙ int_wrap_fits w64 a f

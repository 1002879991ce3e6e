-- Operations on words give words, and what is left of a number lies a multiple of 2^64 away.
use Rattle.std.proofs.Common.{◌≡◌, ℕ, ℤ, suc, pos, negsuc, ◌+◌, ◌-◌, ◌*◌, ◌/◌, ◌%◌, ◌^◌, ◌<◌, ◌≤◌, ◌+ℤ◌, ◌-ℤ◌, ◌*ℤ◌}
use Rattle.std.proofs.Common.{neg_ℤ, Bool, true, false, int_lt, int_le, nat_lt, not, ap, subst, ◌∙◌, arith, ◌⊎◌, inl}
use Rattle.std.proofs.Common.{inr, if◌then◌else◌, unsigned_abs}
use Rattle.std.specs.Int.{w64, int_wrap, cast_signed}
use Rattle.std.specs.Ordering.{int_eq}
use Rattle.std.proofs.lemmas.Int.{ints, SFits-int_wrap, to_z_pos}
use Rattle.std.proofs.lemmas.Bool.{cases_lt}
use Rattle.std.proofs.lemmas.Nat.{div-add-mod', mod_below}
use Rattle.std.proofs.Math.Facts.{to_z-neg}
use Rattle.krn_base.proofs.Wrapping.{shr-floor_div, fits-shr}
use Rattle.krn_base.specs.ReduceLaws.{and_in_range, or_in_range, xor_in_range, max_in_range, min_in_range, sum_in_range}
use Rattle.krn_base.specs.ReduceLaws.{prod_in_range}
use Rattle.krn_base.specs.Numbers.{wrap, IsWord, floor_div, floor_mod, is_zero, power, truth, sign_fill, element_result}
use Rattle.krn_base.specs.Numbers.{unary_result, join_result}
use Rattle.krn_base.specs.declared.operation.BinOp.{BinOp}
use Rattle.krn_base.specs.declared.operation.BinOp.TheVariants.{Add, Sub, Mul, FloorDiv, Mod, Shl, Shr, And, Or, Xor}
use Rattle.krn_base.specs.declared.operation.BinOp.TheVariants.{Min, Max, Eq, Ne, Lt, Le, Gt, Ge}
use Rattle.krn_base.specs.declared.operation.UnOp.{UnOp}
use Rattle.krn_base.specs.declared.operation.UnOp.TheVariants.{Neg, Inv, Flip, Abs, Test, Copy, Pow}
use Rattle.krn_base.specs.declared.operation.Join.{Join}
use Rattle.krn_base.specs.declared.operation.Join.TheVariants as joins

either : (t : Bool) (x y : ℤ) → IsWord x → IsWord y → IsWord (if t then x else y)
either true x y f g = f
either false x y f g = g

small : (n : ℕ) → n ≤ 1 → IsWord (pos n)
small n h = record { sfits = omega arith }

least_one : IsWord (negsuc 0)
least_one = record { sfits = omega arith }

truth_word : (t : Bool) → IsWord (truth t)
truth_word t = either t (pos 1) (pos 0) (small 1 (omega arith)) (small 0 (omega arith))

fill_word : (a : ℤ) → IsWord (sign_fill a)
fill_word a = either (int_lt a (pos 0)) (negsuc 0) (pos 0) least_one (small 0 (omega arith))

pub element_word : (op : BinOp) (a b : ℤ) → IsWord a → IsWord b → IsWord (element_result op a b)
element_word Add a b f g = SFits-int_wrap w64 (a +ℤ b)
element_word Sub a b f g = SFits-int_wrap w64 (a -ℤ b)
element_word Mul a b f g = SFits-int_wrap w64 (a *ℤ b)
element_word FloorDiv a b f g = either (is_zero b) (pos 0) (wrap (floor_div a b)) (small 0 (omega arith))
    (SFits-int_wrap w64 (floor_div a b))
element_word Mod a b f g = either (is_zero b) (pos 0) (wrap (floor_mod a b)) (small 0 (omega arith))
    (SFits-int_wrap w64 (floor_mod a b))
element_word Shl a (pos k) f g =
    either (nat_lt k 64) (wrap (a *ℤ pos (2 ^ k))) (pos 0) (SFits-int_wrap w64 (a *ℤ pos (2 ^ k)))
    (small 0 (omega arith))
element_word Shl a (negsuc k) f g = small 0 (omega arith)
element_word Shr a (pos k) f g =
    either (nat_lt k 64) (floor_div a (pos (2 ^ k))) (sign_fill a) (subst IsWord (shr-floor_div a k) (fits-shr a k f))
    (fill_word a)
element_word Shr a (negsuc k) f g = fill_word a
element_word And a b f g = and_in_range a b f g
element_word Or a b f g = or_in_range a b f g
element_word Xor a b f g = xor_in_range a b f g
element_word Min a b f g = min_in_range a b f g
element_word Max a b f g = max_in_range a b f g
element_word Eq a b f g = truth_word (int_eq a b)
element_word Ne a b f g = truth_word (not (int_eq a b))
element_word Lt a b f g = truth_word (int_lt a b)
element_word Le a b f g = truth_word (int_le a b)
element_word Gt a b f g = truth_word (int_lt b a)
element_word Ge a b f g = truth_word (int_le b a)

pub unary_word : (op : UnOp) (a : ℤ) → IsWord a → IsWord (unary_result op a)
unary_word Neg a f = SFits-int_wrap w64 (neg_ℤ a)
unary_word Inv (pos n) f = record { sfits = f.sfits }
unary_word Inv (negsuc n) f = record { sfits = f.sfits }
unary_word Flip a f = truth_word (is_zero a)
unary_word Abs a f = SFits-int_wrap w64 (pos (unsigned_abs a))
unary_word Test a f = truth_word (not (is_zero a))
unary_word Copy a f = f
unary_word (Pow k) a f = SFits-int_wrap w64 (power a k)

pub join_word : (op : Join) (a b : ℤ) → IsWord a → IsWord b → IsWord (join_result op a b)
join_word joins.Sum = sum_in_range
join_word joins.Prod = prod_in_range
join_word joins.And = and_in_range
join_word joins.Or = or_in_range
join_word joins.Xor = xor_in_range
join_word joins.Max = max_in_range
join_word joins.Min = min_in_range

-- the word of 64 bits, and how many times 2^64 it lies below them
word_below : (n : ℕ) → n < 2 ^ 64 → (j : ℕ) × (cast_signed w64 n +ℤ pos (j * 2 ^ 64) ≡ pos n)
word_below n h = by (cases_lt n (2 ^ 63))
  where
    by : (n < 2 ^ 63) ⊎ (2 ^ 63 ≤ n) → (j : ℕ) × (cast_signed w64 n +ℤ pos (j * 2 ^ 64) ≡ pos n)
    by (inl l) = (0, ap (λ z. z +ℤ pos 0) (to_z_pos w64 n l) ∙ omega (arith, ints))
    by (inr g) =
        let k : ℕ = 2 ^ 64 - suc n in
        let same : n ≡ 2 ^ 64 - suc k = omega arith in (
          1,
          ap (λ z. z +ℤ pos (2 ^ 64)) (ap (cast_signed w64) same ∙ to_z-neg w64 k (omega arith)) ∙
              omega (arith, ints),
        )

pub wrap-multiple : (n : ℤ) → (k : ℤ) × (n ≡ wrap n +ℤ (k *ℤ pos (2 ^ 64)))
unfolding int_wrap
wrap-multiple (pos a) =
    let below = word_below (a % 2 ^ 64) (mod_below a (2 ^ 64) (omega arith)) in
    let e = below.1 in
    let split = div-add-mod' a (2 ^ 64) in
    (pos (a / 2 ^ 64 + below.0), omega (arith, ints))
wrap-multiple (negsuc a) =
    let less = mod_below a (2 ^ 64) (omega arith) in
    let below = word_below (2 ^ 64 - 1 - a % 2 ^ 64) (omega arith) in
    let e = below.1 in
    let split = div-add-mod' a (2 ^ 64) in
    (pos below.0 -ℤ pos (a / 2 ^ 64 + 1), omega (arith, ints))

-- The operations on words, on exact numbers. Division, rest, sign of a rest and `>>` are Python's; two's complement is
-- what Python and NumPy give `&`, `|`, `^` and `~`. That sums wrap at 64 bits is NumPy's rule for int64; that scalars
-- wrap
-- too, and what an operation gives at a count outside 0 to 63, are this project's own.
use Rattle.std.specs.Prelude.{◌≡◌, ◌⊎◌, ◌≤ℤ◌, ◌<ℤ◌, ℕ, zero, suc, ◌-◌, ◌/◌, ◌≤◌, ◌^◌, Bool, not, nat_lt, if◌then◌else◌}
use Rattle.std.specs.Prelude.{Option, Some, None, Result, Ok, Err, ℤ, pos, negsuc, ◌+ℤ◌, ◌-ℤ◌, ◌*ℤ◌, neg_ℤ}
use Rattle.std.specs.Prelude.{unsigned_abs, int_lt, int_le, FitsSigned}
use Rattle.std.specs.Int.{w64, int_wrap, int_min, int_max, int_bit_and, int_bit_or, int_bit_xor, div_ceil}
use Rattle.std.specs.Ordering.{int_eq}
use Rattle.krn_base.specs.declared.fault.Fault.{Fault}
use Rattle.krn_base.specs.declared.fault.Fault.TheVariants.{ValueError, ZeroDivisionError}
use Rattle.krn_base.specs.declared.operation.BinOp.{BinOp}
use Rattle.krn_base.specs.declared.operation.BinOp.TheVariants.{Add, Sub, Mul, FloorDiv, Mod, Shl, Shr, And, Or, Xor}
use Rattle.krn_base.specs.declared.operation.BinOp.TheVariants.{Min, Max, Eq, Ne, Lt, Le, Gt, Ge}
use Rattle.krn_base.specs.declared.operation.UnOp.{UnOp}
use Rattle.krn_base.specs.declared.operation.UnOp.TheVariants.{Neg, Inv, Flip, Abs, Test, Copy, Pow}
use Rattle.krn_base.specs.declared.operation.Join.{Join}
use Rattle.krn_base.specs.declared.operation.Join.TheVariants as joins

-- A word: a number from -2^63 to 2^63 - 1.
abbrev pub IsWord : ℤ → Type 0
IsWord n = FitsSigned w64 n

-- The word that differs from n by a multiple of 2^64.
abbrev pub wrap : ℤ → ℤ
wrap n = int_wrap w64 n

-- The floor of the exact quotient: where the signs differ it lies away from 0.
abbrev pub floor_div : ℤ → ℤ → ℤ
floor_div (pos a) (pos b) = pos (a / b)
floor_div (pos a) (negsuc b) = neg_ℤ (pos (div_ceil a (suc b)))
floor_div (negsuc a) (pos b) = neg_ℤ (pos (div_ceil (suc a) b))
floor_div (negsuc a) (negsuc b) = pos (suc a / suc b)

-- What that quotient leaves of a.
abbrev pub floor_mod : ℤ → ℤ → ℤ
floor_mod a b = a -ℤ (b *ℤ floor_div a b)

-- What a division by b may leave: 0, or a number on b's side of 0 that is nearer to it.
abbrev pub IsRest : ℤ → ℤ → Type 0
IsRest b r = ((pos 0 ≤ℤ r) × (r <ℤ b)) ⊎ ((b <ℤ r) × (r ≤ℤ pos 0))

-- A product of k numbers a, from 1.
unfoldable pub power : ℤ → ℕ → ℤ
power a zero = pos 1
power a (suc k) = power a k *ℤ a

-- A comparison's result.
abbrev pub truth : Bool → ℤ
truth b = if b then pos 1 else pos 0

abbrev pub is_zero : ℤ → Bool
is_zero n = int_eq n (pos 0)

abbrev pub or_zero : ℤ → ℤ → ℤ
or_zero b quotient = if is_zero b then pos 0 else quotient

-- Left shift: by a count outside 0 to 63 no bit is left.
abbrev pub shift_left : ℤ → ℤ → ℤ
shift_left a (pos k) = if nat_lt k 64 then wrap (a *ℤ pos (2 ^ k)) else pos 0
shift_left a (negsuc k) = pos 0

-- All bits are the sign.
abbrev pub sign_fill : ℤ → ℤ
sign_fill a = if int_lt a (pos 0) then negsuc 0 else pos 0

-- Right shift: the floor of a / 2^k, and by a count outside 0 to 63 the sign.
abbrev pub shift_right : ℤ → ℤ → ℤ
shift_right a (pos k) = if nat_lt k 64 then floor_div a (pos (2 ^ k)) else sign_fill a
shift_right a (negsuc k) = sign_fill a

-- Two's complement with every bit turned over: -n - 1.
abbrev pub inverse : ℤ → ℤ
inverse (pos n) = negsuc n
inverse (negsuc n) = pos n

-- What an operation gives for one element of an array. It never fails: a zero divisor gives 0.
abbrev pub element_result : BinOp → ℤ → ℤ → ℤ
element_result Add a b = wrap (a +ℤ b)
element_result Sub a b = wrap (a -ℤ b)
element_result Mul a b = wrap (a *ℤ b)
element_result FloorDiv a b = or_zero b (wrap (floor_div a b))
element_result Mod a b = or_zero b (wrap (floor_mod a b))
element_result Shl a b = shift_left a b
element_result Shr a b = shift_right a b
element_result And a b = int_bit_and w64 a b
element_result Or a b = int_bit_or w64 a b
element_result Xor a b = int_bit_xor w64 a b
element_result Min a b = int_min a b
element_result Max a b = int_max a b
element_result Eq a b = truth (int_eq a b)
element_result Ne a b = truth (not (int_eq a b))
element_result Lt a b = truth (int_lt a b)
element_result Le a b = truth (int_le a b)
element_result Gt a b = truth (int_lt b a)
element_result Ge a b = truth (int_le b a)

-- `//` and `%`.
abbrev pub IsDivision : BinOp → Type 0
IsDivision op = (op ≡ FloorDiv) ⊎ (op ≡ Mod)

-- `<<` and `>>`.
abbrev pub IsShift : BinOp → Type 0
IsShift op = (op ≡ Shl) ⊎ (op ≡ Shr)

-- The fault of a scalar operation, which its right operand alone decides.
abbrev pub fault_of : BinOp → ℤ → Option Fault
fault_of FloorDiv b = if is_zero b then Some ZeroDivisionError else None
fault_of Mod b = if is_zero b then Some ZeroDivisionError else None
fault_of Shl b = if int_lt b (pos 0) then Some ValueError else None
fault_of Shr b = if int_lt b (pos 0) then Some ValueError else None
fault_of _ b = None

-- What an operation gives for two scalars: the element's number where there is no fault.
abbrev pub unless_fault : Option Fault → ℤ → Result ℤ Fault
unless_fault None n = Ok n
unless_fault (Some fault) n = Err fault

abbrev pub scalar_result : BinOp → ℤ → ℤ → Result ℤ Fault
scalar_result op a b = unless_fault (fault_of op b) (element_result op a b)

-- What a power is asked for: an exponent from 0 to 62.
abbrev pub HasSmallExponent : UnOp → Type 0
HasSmallExponent (Pow k) = k ≤ 62
HasSmallExponent _ = Unit {0}

-- What an operation gives for one word.
abbrev pub unary_result : UnOp → ℤ → ℤ
unary_result Neg a = wrap (neg_ℤ a)
unary_result Inv a = inverse a
unary_result Flip a = truth (is_zero a)
unary_result Abs a = wrap (pos (unsigned_abs a))
unary_result Test a = truth (not (is_zero a))
unary_result Copy a = a
unary_result (Pow k) a = wrap (power a k)

-- One step of a reduction.
abbrev pub join_result : Join → ℤ → ℤ → ℤ
join_result joins.Sum a b = wrap (a +ℤ b)
join_result joins.Prod a b = wrap (a *ℤ b)
join_result joins.And a b = int_bit_and w64 a b
join_result joins.Or a b = int_bit_or w64 a b
join_result joins.Xor a b = int_bit_xor w64 a b
join_result joins.Max a b = int_max a b
join_result joins.Min a b = int_min a b

-- The word that a reduction begins with.
abbrev pub unit_of : Join → ℤ
unit_of joins.Sum = pos 0
unit_of joins.Prod = pos 1
unit_of joins.And = negsuc 0
unit_of joins.Or = pos 0
unit_of joins.Xor = pos 0
unit_of joins.Max = negsuc (2 ^ 63 - 1)
unit_of joins.Min = pos (2 ^ 63 - 1)

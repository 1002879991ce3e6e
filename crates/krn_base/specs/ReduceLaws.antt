-- The laws of the seven reductions.
use Rattle.std.proofs.Common.{◌≡◌, ℕ, ℤ, pos, negsuc, ◌-◌, ◌*◌, ◌^◌, ◌<◌, ◌+ℤ◌, ◌*ℤ◌, refl, sym, ap, ◌∙◌, arith}
use Rattle.std.proofs.Common.{bit_and, bit_or, bit_xor}
use Rattle.std.specs.Int.{w64, cast_signed, cast_unsigned}
use Rattle.std.proofs.lemmas.Int.{ints, clamps, of_z-to_z, to_z-of_z, int_wrap_fits, SFits-int_wrap, int_wrap-add_left}
use Rattle.std.proofs.lemmas.Int.{int_wrap-add_right, int_wrap-mul_left, int_wrap-mul_right}
use Rattle.std.proofs.lemmas.Nat.{or_lt, xor_lt, and_le_l, and_comm, or_comm, xor_comm, and_assoc, and_mask}
use Rattle.std.specs.Int.Bits.{xor_assoc}
use Rattle.std.proofs.Math.IntN.{+ℤ_assoc, +ℤ_comm, +ℤ_idl, *ℤ_comm, *ℤ-one}
use Rattle.std.proofs.Math.Nat.{mod-eq_of_lt}
use borrow.Author.Differences.{same_in, product_is, up, down}
use Rattle.krn_base.specs.BitLaws.{bits_fit, word_of_bits, or_assoc}
use Rattle.krn_base.specs.Numbers.{wrap, join_result, unit_of}
use Rattle.krn_base.specs.Reduce.{InRange, Associates, Exchanges, HasUnit}
use Rattle.krn_base.specs.declared.operation.Join.TheVariants.{Sum, Prod, And, Or, Xor, Max, Min}

pub sum_in_range : InRange (join_result Sum)
sum_in_range a b f g = SFits-int_wrap w64 (a +ℤ b)

pub sum_associates : Associates (join_result Sum)
sum_associates a b c f g h =
    int_wrap-add_left w64 (a +ℤ b) c ∙ ap wrap (+ℤ_assoc a b c) ∙ sym (int_wrap-add_right w64 a (b +ℤ c))

pub sum_exchanges : Exchanges (join_result Sum)
sum_exchanges a b f g = ap wrap (+ℤ_comm a b)

pub sum_unit : HasUnit (join_result Sum) (unit_of Sum)
sum_unit a f = ap wrap (+ℤ_idl a) ∙ int_wrap_fits w64 a f

pub mul_assoc_ℤ : (a b c : ℤ) → (a *ℤ b) *ℤ c ≡ a *ℤ (b *ℤ c)
mul_assoc_ℤ a b c =
    let p = product_is a b in
    let q = product_is b c in
    same_in _ _ (omega (
      arith,
      product_is (a *ℤ b) c,
      product_is a (b *ℤ c),
      ap (λ n. n * up c) p.0,
      ap (λ n. n * down c) p.0,
      ap (λ n. n * up c) p.1,
      ap (λ n. n * down c) p.1,
      ap (λ n. up a * n) q.0,
      ap (λ n. down a * n) q.0,
      ap (λ n. up a * n) q.1,
      ap (λ n. down a * n) q.1,
    ))

pub prod_in_range : InRange (join_result Prod)
prod_in_range a b f g = SFits-int_wrap w64 (a *ℤ b)

pub prod_associates : Associates (join_result Prod)
prod_associates a b c f g h =
    int_wrap-mul_left w64 (a *ℤ b) c ∙ ap wrap (mul_assoc_ℤ a b c) ∙ sym (int_wrap-mul_right w64 a (b *ℤ c))

pub prod_exchanges : Exchanges (join_result Prod)
prod_exchanges a b f g = ap wrap (*ℤ_comm a b)

one_times : (a : ℤ) → pos 1 *ℤ a ≡ a
unfolding lib.IntN.one
one_times a = *ℤ_comm (pos 1) a ∙ *ℤ-one a

pub prod_unit : HasUnit (join_result Prod) (unit_of Prod)
prod_unit a f = ap wrap (one_times a) ∙ int_wrap_fits w64 a f

-- an operation on the bits of words, from its laws on bits
abbrev by_bits : (ℕ → ℕ → ℕ) → ℤ → ℤ → ℤ
by_bits op a b = cast_signed w64 (op (cast_unsigned w64 a) (cast_unsigned w64 b))

module _ (op : ℕ → ℕ → ℕ) (below : (m n : ℕ) → m < 2 ^ 64 → n < 2 ^ 64 → op m n < 2 ^ 64) where
  bits_in_range : InRange (by_bits op)
  bits_in_range a b f g = word_of_bits (op (cast_unsigned w64 a) (cast_unsigned w64 b))
      (below _ _ (bits_fit a f) (bits_fit b g))

  bits_associate : ((l m n : ℕ) → op (op l m) n ≡ op l (op m n)) → Associates (by_bits op)
  bits_associate assoc a b c f g h =
      let x = cast_unsigned w64 a in
      let y = cast_unsigned w64 b in
      let z = cast_unsigned w64 c in
      ap (λ n. cast_signed w64 (op n z)) (of_z-to_z w64 (op x y) (below x y (bits_fit a f) (bits_fit b g)))
      ∙ ap (cast_signed w64) (assoc x y z)
      ∙ sym (ap (λ n. cast_signed w64 (op x n)) (of_z-to_z w64 (op y z) (below y z (bits_fit b g) (bits_fit c h))))

bits_exchange : (op : ℕ → ℕ → ℕ) → ((m n : ℕ) → op m n ≡ op n m) → Exchanges (by_bits op)
bits_exchange op comm a b f g = ap (cast_signed w64) (comm (cast_unsigned w64 a) (cast_unsigned w64 b))

bits_unit : (op : ℕ → ℕ → ℕ) (unit : ℤ) → ((n : ℕ) → n < 2 ^ 64 → op (cast_unsigned w64 unit) n ≡ n) →
    HasUnit (by_bits op) unit
bits_unit op unit same a f = ap (cast_signed w64) (same (cast_unsigned w64 a) (bits_fit a f)) ∙ to_z-of_z w64 a f

and_below : (m n : ℕ) → m < 2 ^ 64 → n < 2 ^ 64 → bit_and m n < 2 ^ 64
and_below m n h k = omega (arith, and_le_l m n)

pub and_in_range : InRange (join_result And)
and_in_range = bits_in_range bit_and and_below

pub and_associates : Associates (join_result And)
and_associates = bits_associate bit_and and_below (λ l m n. and_assoc n l m)

pub and_exchanges : Exchanges (join_result And)
and_exchanges = bits_exchange bit_and and_comm

pub and_unit : HasUnit (join_result And) (unit_of And)
and_unit = bits_unit bit_and (negsuc 0) (λ n h. and_comm (2 ^ 64 - 1) n ∙ and_mask n 64 ∙ mod-eq_of_lt h)

pub or_in_range : InRange (join_result Or)
or_in_range = bits_in_range bit_or (or_lt 64)

pub or_associates : Associates (join_result Or)
or_associates = bits_associate bit_or (or_lt 64) or_assoc

pub or_exchanges : Exchanges (join_result Or)
or_exchanges = bits_exchange bit_or or_comm

pub or_unit : HasUnit (join_result Or) (unit_of Or)
or_unit = bits_unit bit_or (pos 0) (λ n h. refl)

pub xor_in_range : InRange (join_result Xor)
xor_in_range = bits_in_range bit_xor (xor_lt 64)

pub xor_associates : Associates (join_result Xor)
xor_associates = bits_associate bit_xor (xor_lt 64) xor_assoc

pub xor_exchanges : Exchanges (join_result Xor)
xor_exchanges = bits_exchange bit_xor xor_comm

pub xor_unit : HasUnit (join_result Xor) (unit_of Xor)
xor_unit = bits_unit bit_xor (pos 0) (λ n h. refl)

pub max_in_range : InRange (join_result Max)
max_in_range a b f g = grind (arith, ints, clamps)

pub max_associates : Associates (join_result Max)
max_associates a b c f g h = omega (arith, ints, clamps)

pub max_exchanges : Exchanges (join_result Max)
max_exchanges a b f g = omega (arith, ints, clamps)

pub max_unit : HasUnit (join_result Max) (unit_of Max)
max_unit a f = omega (arith, ints, clamps)

pub min_in_range : InRange (join_result Min)
min_in_range a b f g = grind (arith, ints, clamps)

pub min_associates : Associates (join_result Min)
min_associates a b c f g h = omega (arith, ints, clamps)

pub min_exchanges : Exchanges (join_result Min)
min_exchanges a b f g = omega (arith, ints, clamps)

pub min_unit : HasUnit (join_result Min) (unit_of Min)
min_unit a f = omega (arith, ints, clamps)

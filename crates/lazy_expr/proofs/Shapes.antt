-- Arrays that stay proper: what shapes and places of new arrays and of views are.
use Rattle.std.proofs.Common.{◌≡◌, ◌∙◌, ap, sym, refl, ℕ, List, Bool, true, false, Result, Ok, Err, length}
use Rattle.std.specs.List.{list_all, list_any}
use Rattle.std.specs.Prelude.{ℤ, int_lt, pos, nat_le, if◌then◌else◌, map}
use Rattle.std.proofs.lemmas.List.FromFn.{length-range_with_len}
use Rattle.krn_base.specs.declared.fault.Fault.{Fault}
use Rattle.krn_base.specs.declared.fault.Fault.TheVariants.{ValueError, SizeLimit}
use Rattle.view_places.specs.Arrays.{all_same, broadcast_of, dimensions, element_count, is_small, joined_shape}
use Rattle.view_places.specs.Arrays.{proper_extents}
use Rattle.array_ops.specs.Arrays.{ArrayRef, whole_of}
use Rattle.array_ops.specs.Elements.{Bound, Unbound, WordOf, ArrayOf, checked_shape, fresh_shape, from_zero, spreads_to}
use Rattle.array_ops.specs.Subscripts.{flipped, picked}
use Rattle.array_ops.specs.declared.operation.Fill.{Fill}
use Rattle.array_ops.specs.declared.subscript.Subscript.{Subscript}
use Rattle.array_ops.specs.declared.operation.Fill.TheVariants.{Zero, One, Count}
use Rattle.eager_rules.specs.Works.{array_in}
use Rattle.lazy_expr.proofs.Relation.{IsArrayOrNothing, IsProper}

-- each shape of a broadcast spreads to the result
abbrev pub EachSpreads : Type 0
EachSpreads =
    (shapes : List (List ℕ)) (ms : List ℕ) → broadcast_of shapes ≡ Ok ms →
    list_all (λ from. spreads_to from ms) shapes ≡ true

-- a view by subscripts, and one with its dimensions reversed
abbrev pub PicksProper : Type 0
PicksProper = (subs : List Subscript) (a b : ArrayRef) → IsProper a → picked subs a ≡ Ok b → IsProper b

abbrev pub FlipsProper : Type 0
FlipsProper = (a : ArrayRef) → IsProper a → IsProper (flipped a)

err_ok : {A : Type 0} (fault : Fault) (ns : List ℕ) → ◌≡◌ {A = Result (List ℕ) Fault} (Err fault) (Ok ns) → A
err_ok fault ns e = absurd (let h = e in cc)

ok_same : (ns ms : List ℕ) → ◌≡◌ {A = Result (List ℕ) Fault} (Ok ns) (Ok ms) → ns ≡ ms
ok_same ns ms e = let h = e in cc

limited : (ns : List ℕ) (small : Bool) (fault : Fault) (r : Result (List ℕ) Fault) (ms : List ℕ) →
    is_small ns ≡ small → ((m : List ℕ) → r ≡ Ok m → m ≡ ns) → (if small then r else Err fault) ≡ Ok ms →
    is_small ms ≡ true
limited ns true fault r ms e k h = ap is_small (k ms h) ∙ e
limited ns false fault r ms e k h = err_ok fault ms h

kept_if : (test : Bool) (fault : Fault) (ns ms : List ℕ) → (if test then Ok ns else Err fault) ≡ Ok ms → ms ≡ ns
kept_if true fault ns ms h = sym (ok_same ns ms h)
kept_if false fault ns ms h = err_ok fault ms h

pub broadcast_small : (shapes : List (List ℕ)) (ms : List ℕ) → broadcast_of shapes ≡ Ok ms → is_small ms ≡ true
broadcast_small shapes ms h =
    by_test (list_all (λ k. all_same (proper_extents k shapes)) (dimensions shapes)) h
  where
    by_test : (test : Bool) → (if test then (if is_small (joined_shape shapes) then Ok (joined_shape shapes)
        else Err SizeLimit) else Err ValueError) ≡ Ok ms → is_small ms ≡ true
    by_test true h = limited (joined_shape shapes) (is_small (joined_shape shapes)) SizeLimit (Ok (joined_shape shapes))
        ms refl (λ m e. sym (ok_same (joined_shape shapes) m e)) h
    by_test false h = err_ok ValueError ms h

checked_small : (ns ms : List ℕ) → checked_shape ns ≡ Ok ms → is_small ms ≡ true
checked_small ns ms h = limited ns (is_small ns) SizeLimit (if nat_le (length ns) 4 then Ok ns else Err SizeLimit) ms
    refl (λ m e. kept_if (nat_le (length ns) 4) SizeLimit ns m e) h

signed_small : (test : Bool) (ns ms : List ℕ) → (if test then Err ValueError else checked_shape ns) ≡ Ok ms →
    is_small ms ≡ true
signed_small true ns ms h = err_ok ValueError ms h
signed_small false ns ms h = checked_small ns ms h

pub fresh_small : (fill : Fill) (dims : List ℤ) (ms : List ℕ) → fresh_shape fill dims ≡ Ok ms → is_small ms ≡ true
fresh_small Zero dims ms h = signed_small (list_any (λ z. int_lt z (pos 0)) dims) (map from_zero dims) ms h
fresh_small One dims ms h = signed_small (list_any (λ z. int_lt z (pos 0)) dims) (map from_zero dims) ms h
fresh_small Count dims ms h = checked_small (map from_zero dims) ms h

pub whole_proper : (buffer : ℕ) (ns : List ℕ) → is_small ns ≡ true → IsProper (whole_of buffer ns)
whole_proper buffer ns h = record { count = length-range_with_len 0 (element_count ns); small = h }

pub array_in_proper : (v : Bound) → IsArrayOrNothing v → IsProper (array_in v)
array_in_proper Unbound h = record { count = refl; small = refl }
array_in_proper (WordOf z) h = absurd h
array_in_proper (ArrayOf a) h = h

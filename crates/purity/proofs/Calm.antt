-- Work of statements that may not fault doesn't, and what it makes has its size.
use Rattle.std.proofs.Common.{arith, ◌≡◌, ◌∙◌, ap, sym, subst, refl, inl, inr, ◌⊎◌, ◌+◌, ◌<◌, ◌≤◌, ℕ, zero, suc, ℤ}
use Rattle.std.proofs.Common.{pos}
use Rattle.std.proofs.Common.{negsuc, Bool, true, false, not, cond, List, [], ◌∷◌, ◌++◌, map, length, Option, Some}
use Rattle.std.proofs.Common.{None, ◌==◌}
use Rattle.std.proofs.Common.{Result, Ok, Err, reverse, length-set, append_assoc, max, ◌||◌, ◌&&◌}
use Rattle.std.proofs.lemmas.Bool.Decides.{nat_tests}
use Rattle.std.proofs.lemmas.List.{length-reverse, map-append}
use Rattle.std.proofs.lemmas.List.Sums.{sum_by-cons}
use Rattle.std.specs.Prelude.{if◌then◌else◌, int_lt, nat_le, nat_lt, slice_index_or, slice_set, option_map, unwrap_or}
use Rattle.std.specs.List.{count_by, flat_map, list_all, list_any}
use Rattle.krn_base.specs.Numbers.{element_result, fault_of, is_zero, unless_fault}
use Rattle.krn_base.specs.declared.fault.Fault.{Fault}
use Rattle.krn_base.specs.declared.fault.Fault.TheVariants.{ValueError, IndexError}
use Rattle.krn_base.specs.declared.kind.Kind.{Kind}
use Rattle.krn_base.specs.declared.operation.BinOp.{BinOp}
use Rattle.krn_base.specs.declared.operation.BinOp.TheVariants as bin
use Rattle.view_places.specs.Arrays.{broadcast_of, is_small, sliced}
use Rattle.view_places.specs.Slice.{picks_by, slice_indices}
use Rattle.view_places.specs.declared.slice.Slice.{Slice}
use Rattle.array_ops.specs.Arrays.{ArrayRef}
use Rattle.array_ops.specs.Elements.{Bound, Unbound, WordOf, ArrayOf, extents_of, shape_of}
use Rattle.array_ops.specs.Subscripts.{and_then, axis_behind, cut_to, extent_at, flipped, picked_from, subscripted}
use Rattle.array_ops.specs.declared.operation.MapOp.{MapOp}
use Rattle.array_ops.specs.declared.operation.MapOp.TheVariants as map_op
use Rattle.array_ops.specs.declared.subscript.Subscript.{Subscript}
use Rattle.array_ops.specs.declared.subscript.Subscript.TheVariants as subscript
use Rattle.eager_rules.specs.State.{State, operand, truth_word}
use Rattle.eager_rules.specs.Types.{Ty, bin_kind, is_array, map_type, select_kind, un_kind, with_array_rank}
use Rattle.eager_rules.specs.Works.{cut_of, given_part, next_subscript, part_from, range_values, sub_operands}
use Rattle.eager_rules.specs.Works.{subscripts_of}
use Rattle.eager_rules.specs.Works.{word_of}
use Rattle.eager_rules.specs.declared.program.CoreSub.{CoreSub}
use Rattle.eager_rules.specs.declared.program.CoreSub.TheVariants as sub
use Rattle.eager_rules.specs.declared.program.Oper.{Oper}
use Rattle.eager_rules.specs.declared.program.Oper.TheVariants as oper
use Rattle.purity.specs.Faulting.{bin_may_fault, is_divisor, is_shift_count, step_may_fault, sub_may_fault}
use Rattle.purity.proofs.Holding.{HasSize, Kinds, Sizes}
use Rattle.purity.proofs.Sizes.{broadcast_alone, picks_most, small_reverse, small_set}
use Rattle.purity.proofs.TypeTests.{none_some, not_true, some_same}

-- Literals.
not_zero : (z : ℤ) → not (is_zero z) ≡ true → is_zero z ≡ false
not_zero z h = by_test (is_zero z) h
  where
    by_test : (b : Bool) → not b ≡ true → b ≡ false
    by_test true h = not_true h
    by_test false h = refl

pub divisor : (s : State) (x : Oper) → is_divisor x ≡ true → is_zero (word_of (operand s x)) ≡ false
divisor s (oper.Int z) h = not_zero z h
divisor s (oper.Truth true) h = refl
divisor s (oper.Truth false) h = not_true h
divisor s (oper.Name n) h = not_true h

shift_count : (s : State) (x : Oper) → is_shift_count x ≡ true → int_lt (word_of (operand s x)) (pos 0) ≡ false
shift_count s (oper.Int z) h = by_test (int_lt z (pos 0)) h
  where
    by_test : (b : Bool) → not b ≡ true → b ≡ false
    by_test true h = not_true h
    by_test false h = refl
shift_count s (oper.Truth true) h = refl
shift_count s (oper.Truth false) h = refl
shift_count s (oper.Name n) h = not_true h

pub false_not : (b : Bool) → not b ≡ false → b ≡ true
false_not true h = refl
false_not false h = not_true (sym h)

no_fault : (b : Bool) (fault : Fault) → b ≡ false → (if b then Some fault else None) ≡ None
no_fault true fault h = not_true (sym h)
no_fault false fault h = refl

-- a scalar operation that may not fault doesn't
pub calm_bin : (s : State) (op : BinOp) (x : Oper) → bin_may_fault op x ≡ false →
    fault_of op (word_of (operand s x)) ≡ None
calm_bin s bin.FloorDiv x h = no_fault (is_zero (word_of (operand s x))) _ (divisor s x (false_not (is_divisor x) h))
calm_bin s bin.Mod x h = no_fault (is_zero (word_of (operand s x))) _ (divisor s x (false_not (is_divisor x) h))
calm_bin s bin.Shl x h =
    no_fault (int_lt (word_of (operand s x)) (pos 0)) _ (shift_count s x (false_not (is_shift_count x) h))
calm_bin s bin.Shr x h =
    no_fault (int_lt (word_of (operand s x)) (pos 0)) _ (shift_count s x (false_not (is_shift_count x) h))
calm_bin s bin.Add x h = refl
calm_bin s bin.Sub x h = refl
calm_bin s bin.Mul x h = refl
calm_bin s bin.And x h = refl
calm_bin s bin.Or x h = refl
calm_bin s bin.Xor x h = refl
calm_bin s bin.Min x h = refl
calm_bin s bin.Max x h = refl
calm_bin s bin.Eq x h = refl
calm_bin s bin.Ne x h = refl
calm_bin s bin.Lt x h = refl
calm_bin s bin.Le x h = refl
calm_bin s bin.Gt x h = refl
calm_bin s bin.Ge x h = refl

pub unless_none : (o : Option Fault) (z : ℤ) (fault : Fault) → o ≡ None → unless_fault o z ≡ Err fault → ⊥
unless_none None z fault e h = cc
unless_none (Some other) z fault e h = cc

-- a loop by a literal step other than 0 has its values
pub calm_range : (s : State) (lo hi : ℤ) (x : Oper) → is_divisor x ≡ true →
    (values : List ℤ) × (range_values lo hi (word_of (operand s x)) ≡ Some values)
calm_range s lo hi x h = by_test (is_zero (word_of (operand s x))) (divisor s x h) _
  where
    by_test : (b : Bool) → b ≡ false → (numbers : List ℤ) →
        (values : List ℤ) × ((if b then None else Some numbers) ≡ Some values)
    by_test true e numbers = not_true (sym e)
    by_test false e numbers = (numbers, refl)

-- Slices. The values of a slice's operands are its parts.
abbrev value_at : State → Oper → ℤ
value_at s x = word_of (operand s x)

abbrev part_at : State → Option Oper → Option ℤ
part_at s o = option_map (value_at s) o

next_cut : (s : State) (start stop step : Option Oper) (rest : List Bound) →
    next_subscript (sub.Cut start stop step) (map (operand s) (sub_operands (sub.Cut start stop step)) ++ rest) ≡
    (subscript.Cut (record { start = part_at s start; stop = part_at s stop; step = part_at s step }), rest)
next_cut s None None None rest = refl
next_cut s None None (Some c) rest = refl
next_cut s None (Some b) None rest = refl
next_cut s None (Some b) (Some c) rest = refl
next_cut s (Some a) None None rest = refl
next_cut s (Some a) None (Some c) rest = refl
next_cut s (Some a) (Some b) None rest = refl
next_cut s (Some a) (Some b) (Some c) rest = refl

step_other : (s : State) (step : Option Oper) → step_may_fault step ≡ false →
    unwrap_or (part_at s step) (pos 1) ≡ pos 0 → ⊥
step_other s None h e = cc
step_other s (Some x) h e =
    not_true (sym (divisor s x (false_not (is_divisor x) h)) ∙ ap is_zero e)

or_first : (a b : Bool) → (a || b) ≡ false → a ≡ false
or_first true b h = h
or_first false b h = refl

or_rest : (a b : Bool) → (a || b) ≡ false → b ≡ false
or_rest true b h = not_true (sym h)
or_rest false b h = h

-- What slices by steps other than 0 pick of an array has its size, where it has as many dimensions.
abbrev pub IsCut : ℕ → Result ArrayRef Fault → Type 0
IsCut rank (Ok a) = HasSize rank a
IsCut rank (Err fault) = ⊥

one_cut : (axis rank : ℕ) (a : ArrayRef) (slice : Slice) → HasSize rank a →
    (unwrap_or slice.step (pos 1) ≡ pos 0 → ⊥) →
    (b : ArrayRef) × (subscripted axis (subscript.Cut slice) a ≡ Ok b) × HasSize rank b
one_cut axis rank a slice size other =
    let (picks, found, most) = picks_most (extent_at a axis) slice (unwrap_or slice.step (pos 1)) other in (
      record {
        buffer = a.buffer;
        extents = slice_set a.extents axis (length picks);
        places = sliced 0 axis picks a.extents a.places;
      },
      ap (cut_to axis a) found,
      (length-set a.extents axis (length picks) ∙ size.0, small_set a.extents axis (length picks) most size.1),
    )

inside_test : (rank axis more : ℕ) (a : ArrayRef) → HasSize rank a → axis + suc more ≤ rank →
    nat_lt axis (length a.extents) ≡ true
inside_test rank axis more a size room =
    let is : length a.extents ≡ rank = size.0 in
    let below : axis < length a.extents = omega (arith, is, room) in
    below_test axis (length a.extents) below
  where
    below_test : (m n : ℕ) → m < n → nat_lt m n ≡ true
    below_test m n h = grind (arith, nat_tests)

-- one slice, and what follows
first_cut : (axis rank : ℕ) (a : ArrayRef) (slice : Slice) (next : ArrayRef → Result ArrayRef Fault) → HasSize rank a →
    nat_lt axis (length a.extents) ≡ true → (unwrap_or slice.step (pos 1) ≡ pos 0 → ⊥) →
    ((b : ArrayRef) → HasSize rank b → IsCut rank (next b)) →
    IsCut rank (if nat_lt axis (length a.extents) then and_then (subscripted axis (subscript.Cut slice) a) next
    else Err IndexError)
first_cut axis rank a slice next size inside other k =
    let (b, found, cut) = one_cut axis rank a slice size other in
    subst (λ (t : Bool). IsCut rank (if t then and_then (subscripted axis (subscript.Cut slice) a) next
    else Err IndexError)) (sym inside)
    (subst (λ (r : Result ArrayRef Fault). IsCut rank (and_then r next)) (sym found) (k b cut))

pub all_cut : (s : State) (subs : List CoreSub) (axis rank : ℕ) (a : ArrayRef) → list_any sub_may_fault subs ≡ false →
    HasSize rank a → axis + length subs ≤ rank →
    IsCut rank (picked_from axis (subscripts_of subs (map (operand s) (flat_map sub_operands subs))) a)
all_cut s [] axis rank a calm size room = size
all_cut s (sub.At x ∷ subs) axis rank a calm size room = not_true (sym calm)
all_cut s (sub.Cut start stop step ∷ subs) axis rank a calm size room =
    subst (λ (values : List Bound). IsCut rank
    (picked_from axis (subscripts_of (sub.Cut start stop step ∷ subs) values) a))
    (sym (map-append (operand s) (sub_operands (sub.Cut start stop step)) (flat_map sub_operands subs)))
    (subst (λ (p : Subscript × List Bound). IsCut rank (picked_from axis (p.0 ∷ subscripts_of subs p.1) a))
    (sym (next_cut s start stop step (map (operand s) (flat_map sub_operands subs))))
    (first_cut axis rank a (record { start = part_at s start; stop = part_at s stop; step = part_at s step })
    (picked_from (axis + 1) (subscripts_of subs (map (operand s) (flat_map sub_operands subs)))) size
    (inside_test rank axis (length subs) a size room)
    (step_other s step (or_first (step_may_fault step) (list_any sub_may_fault subs) calm))
    (λ b cut. all_cut s subs (axis + 1) rank b (or_rest (step_may_fault step) (list_any sub_may_fault subs) calm) cut
    (omega (arith, room)))))

pub flip_size : (rank : ℕ) (a : ArrayRef) → HasSize rank a → HasSize rank (flipped a)
flip_size rank a size = (length-reverse a.extents ∙ size.0, small_reverse a.extents size.1)

-- The shape of an element operation on one array, the other operands being words, is that array's.
pub count_cons : {A : Type 0} (p : A → Bool) (x : A) (xs : List A) →
    count_by p (x ∷ xs) ≡ cond (p x) 1 0 + count_by p xs
count_cons p x xs = sum_by-cons (λ y. cond (p y) 1 0) x xs

pub not_none : (r : ℕ) → not (suc r == 0) ≡ true
not_none r = grind (arith, nat_tests)

count_scalar : (kind : Kind) (types : List Ty) → count_by is_array ((kind, 0) ∷ types) ≡ count_by is_array types
count_scalar kind types =
    let e : count_by is_array ((kind, 0) ∷ types) ≡ 0 + count_by is_array types =
    count_cons is_array (kind, 0) types in
    omega (arith, e)

count_array : (kind : Kind) (r : ℕ) (types : List Ty) →
    count_by is_array ((kind, suc r) ∷ types) ≡ 1 + count_by is_array types
count_array kind r types =
    count_cons is_array (kind, suc r) types ∙
    ap (λ (b : Bool). cond b 1 0 + count_by is_array types) (not_none r)

abbrev greatest : List Ty → ℕ
greatest [] = 0
greatest (t ∷ types) = max t.1 (greatest types)

no_arrays : (types : List Ty) (values : List Bound) → Kinds types values → count_by is_array types < 1 →
    (flat_map extents_of values ≡ []) × (greatest types ≡ 0)
no_arrays [] [] k less = (refl, refl)
no_arrays [] (v ∷ values) k less = absurd k
no_arrays (t ∷ types) [] k less = absurd k
no_arrays ((kind, zero) ∷ types) (Unbound ∷ values) k less = absurd k.0
no_arrays ((kind, zero) ∷ types) (WordOf z ∷ values) k less =
    let one : count_by is_array ((kind, 0) ∷ types) ≡ count_by is_array types = count_scalar kind types in
    let (e, g) = no_arrays types values k.1 (omega (arith, less, one)) in
    (e, ap (max 0) g)
no_arrays ((kind, zero) ∷ types) (ArrayOf a ∷ values) k less = absurd k.0
no_arrays ((kind, suc r) ∷ types) (v ∷ values) k less =
    let one : count_by is_array ((kind, suc r) ∷ types) ≡ 1 + count_by is_array types = count_array kind r types in
    absurd (omega (arith, less, one))

one_array : (types : List Ty) (values : List Bound) → Kinds types values → Sizes types values →
    count_by is_array types < 2 →
    ((flat_map extents_of values ≡ []) × (greatest types ≡ 0)) ⊎
    ((ns : List ℕ) × (flat_map extents_of values ≡ ns ∷ []) × (length ns ≡ greatest types) × (is_small ns ≡ true))
one_array [] [] k z less = inl (refl, refl)
one_array [] (v ∷ values) k z less = absurd k
one_array (t ∷ types) [] k z less = absurd k
one_array ((kind, zero) ∷ types) (Unbound ∷ values) k z less = absurd k.0
one_array ((kind, zero) ∷ types) (WordOf w ∷ values) k z less =
    let one : count_by is_array ((kind, 0) ∷ types) ≡ count_by is_array types = count_scalar kind types in
    elim (one_array types values k.1 z.1 (omega (arith, less, one))) [
      | inl e ↦ inl (e.0, ap (max 0) e.1)
      | inr e ↦ inr (e.0, e.1, by_rank (greatest types) e.2, e.3)
    ]
  where
    by_rank : (g : ℕ) {n : ℕ} → n ≡ g → n ≡ max 0 g
    by_rank g e = omega (arith, e)
one_array ((kind, zero) ∷ types) (ArrayOf a ∷ values) k z less = absurd k.0
one_array ((kind, suc r) ∷ types) (Unbound ∷ values) k z less = absurd k.0
one_array ((kind, suc r) ∷ types) (WordOf w ∷ values) k z less = absurd k.0
one_array ((kind, suc r) ∷ types) (ArrayOf a ∷ values) k z less =
    let one : count_by is_array ((kind, suc r) ∷ types) ≡ 1 + count_by is_array types = count_array kind r types in
    let (e, g) = no_arrays types values k.1 (omega (arith, less, one)) in
    let size : length a.extents ≡ suc r = z.0.0 in
    inr (a.extents, ap (λ (xs : List (List ℕ)). a.extents ∷ xs) e, by_rank (greatest types) g size, z.0.1)
  where
    by_rank : (g : ℕ) {n : ℕ} → g ≡ 0 → n ≡ suc r → n ≡ max (suc r) g
    by_rank g e h = omega (arith, e, h)

array_ranked : (rank : ℕ) (o : Option Kind) (t : Ty) → with_array_rank rank o ≡ Some t → (rank ≡ t.1) × (0 < t.1)
array_ranked zero o t h = none_some t h
array_ranked (suc r) None t h = none_some t h
array_ranked (suc r) (Some kind) t h =
    let same : (kind, suc r) ≡ t = some_same _ t h in
    let rank : suc r ≡ t.1 = ap (λ (u : Ty). u.1) same in
    (rank, omega (arith, rank))

map_rank : (op : MapOp) (types : List Ty) (t : Ty) → map_type op types ≡ Some t →
    (greatest types ≡ t.1) × (0 < t.1)
map_rank (map_op.Bin op) ((a, m) ∷ (b, n) ∷ []) t h =
    let (e, more) = array_ranked (max m n) (bin_kind op a b) t h in (omega (arith, e), more)
map_rank (map_op.Un op) ((a, m) ∷ []) t h =
    let (e, more) = array_ranked m (un_kind op a) t h in (omega (arith, e), more)
map_rank map_op.Select ((c, k) ∷ (a, m) ∷ (b, n) ∷ []) t h =
    let (e, more) = array_ranked (max k (max m n)) (select_kind c a b) t h in (omega (arith, e), more)
map_rank _ _ t h = none_some t h

pub map_array : (op : MapOp) (types : List Ty) (t : Ty) → map_type op types ≡ Some t → (r : ℕ) × (t.1 ≡ suc r)
map_array op types t h = by_rank t.1 (map_rank op types t h).1
  where
    by_rank : (n : ℕ) → 0 < n → (r : ℕ) × (n ≡ suc r)
    by_rank zero less = absurd (omega (arith, less))
    by_rank (suc r) less = (r, refl)

pub calm_map : (op : MapOp) (types : List Ty) (t : Ty) (values : List Bound) → map_type op types ≡ Some t →
    Kinds types values → Sizes types values → count_by is_array types < 2 →
    (ns : List ℕ) × (shape_of values ≡ Ok ns) × (length ns ≡ t.1) × (is_small ns ≡ true)
calm_map op types t values h kinds sizes less =
    elim (one_array types values kinds sizes less) [
      | inl e ↦ absurd (none (map_rank op types t h) e.1)
      | inr e ↦ (e.0, ap broadcast_of e.1 ∙ broadcast_alone e.0 e.3, e.2 ∙ (map_rank op types t h).0, e.3)
    ]
  where
    none : (greatest types ≡ t.1) × (0 < t.1) → greatest types ≡ 0 → ⊥
    none (e, more) g = omega (arith, e, more, g)

-- Shapes of accepted size: of new arrays, and of parts of an array.
use Rattle.std.proofs.Common.{◌≡◌, ◌∙◌, ap, ap₂, sym, subst, refl, arith, ℕ, zero, suc, ◌+◌, ◌*◌, ◌-◌, ◌<◌, ◌≤◌}
use Rattle.std.proofs.Common.{Bool, true, false, ◌&&◌, List, [], ◌∷◌, ◌++◌, map, length, get_or, set, reverse}
use Rattle.std.proofs.Common.{filter, cond, ltb-true, ℤ, pos, negsuc, Option, Some, None, Result, Ok, Err, length-set}
use Rattle.std.specs.Prelude.{remove, slice_set, nat_lt, nat_le, unsigned_abs, if◌then◌else◌, unwrap_or, int_lt}
use Rattle.std.specs.List.{list_all, list_any, range_with_len, count_by}
use Rattle.std.proofs.Math.Nat.{mul-le-mul_left, mul-le-mul_right}
use Rattle.std.proofs.lemmas.Bool.{leb-true, le-leb}
use Rattle.std.proofs.lemmas.Grind.{reverse_onto}
use Rattle.std.proofs.lemmas.List.{length-map, length-reverse}
use Rattle.std.proofs.lemmas.List.FromFn.{length-range_with_len}
use Rattle.std.proofs.lemmas.List.Sums.{sum_by-cons}
use Rattle.krn_base.specs.declared.fault.Fault.{Fault}
use Rattle.krn_base.specs.declared.fault.Fault.TheVariants.{IndexError, ValueError, SizeLimit}
use Rattle.view_places.specs.Arrays.{all_same, broadcast_of, dimensions, element_count, greatest_rank}
use Rattle.view_places.specs.Arrays.{is_small, joined_shape, max_elements, position_of, proper_extents}
use Rattle.view_places.specs.Slice.{after_steps, is_before, picks_by, slice_indices, walk}
use Rattle.view_places.specs.declared.slice.Slice.{Slice}
use Rattle.array_ops.specs.Arrays.{ArrayRef}
use Rattle.array_ops.specs.Elements.{Bound, checked_shape, fresh_shape, from_zero}
use Rattle.array_ops.specs.Subscripts.{and_then, axis_behind, cut_to, extent_at, flipped, indexed, picked_from}
use Rattle.array_ops.specs.Subscripts.{subscripted}
use Rattle.array_ops.specs.declared.operation.Fill.{Fill}
use Rattle.array_ops.specs.declared.operation.Fill.TheVariants.{Zero, One, Count}
use Rattle.array_ops.specs.declared.subscript.Subscript.{Subscript}
use Rattle.array_ops.specs.declared.subscript.Subscript.TheVariants.{At, Cut}
use Rattle.eager_rules.specs.Types.{is_index, removed}
use Rattle.eager_rules.specs.Works.{next_subscript, subscripts_of}
use Rattle.eager_rules.specs.declared.program.CoreSub.{CoreSub}
use Rattle.eager_rules.specs.declared.program.CoreSub.TheVariants as sub
use Rattle.eager_rules.specs.declared.program.Oper.{Oper}
use Rattle.inline.proofs.TypeTests.{and_left, and_right}

-- an array of a rank, of accepted size
abbrev pub HasSize : ℕ → ArrayRef → Type 0
HasSize rank a = (length a.extents ≡ rank) × (is_small a.extents ≡ true)

-- ---- limits
abbrev limited : List ℕ → Bool
limited ns = list_all (λ n. nat_le n max_elements) ns

small_by : (ns ms : List ℕ) → (limited ns ≡ true → limited ms ≡ true) → element_count ms ≤ element_count ns →
    is_small ns ≡ true → is_small ms ≡ true
small_by ns ms f few e =
    let least : element_count ns ≤ max_elements = leb-true (element_count ns) max_elements
    (and_right (limited ns) (nat_le (element_count ns) max_elements) e) in
    ap₂ (λ (a b : Bool). a && b) (f (and_left (limited ns) (nat_le (element_count ns) max_elements) e))
    (le-leb (element_count ms) max_elements (omega (arith, few, least)))

limited_at : (ns : List ℕ) (axis : ℕ) → limited ns ≡ true → get_or ns axis 0 ≤ max_elements
limited_at [] axis h = omega arith
limited_at (n ∷ ns) zero h = leb-true n max_elements (and_left (nat_le n max_elements) (limited ns) h)
limited_at (n ∷ ns) (suc axis) h = limited_at ns axis (and_right (nat_le n max_elements) (limited ns) h)

limited_set : (ns : List ℕ) (axis m : ℕ) → m ≤ get_or ns axis 0 → limited ns ≡ true → limited (set ns axis m) ≡ true
limited_set [] axis m h e = refl
limited_set (n ∷ ns) zero m h e =
    let most : n ≤ max_elements = limited_at (n ∷ ns) zero e in
    ap₂ (λ (a b : Bool). a && b) (le-leb m max_elements (omega (arith, h, most)))
    (and_right (nat_le n max_elements) (limited ns) e)
limited_set (n ∷ ns) (suc axis) m h e =
    ap₂ (λ (a b : Bool). a && b) (and_left (nat_le n max_elements) (limited ns) e)
    (limited_set ns axis m h (and_right (nat_le n max_elements) (limited ns) e))

count_set : (ns : List ℕ) (axis m : ℕ) → m ≤ get_or ns axis 0 → element_count (set ns axis m) ≤ element_count ns
count_set [] axis m h = omega arith
count_set (n ∷ ns) zero m h = mul-le-mul_right {m = m} {n = n} (element_count ns) h
count_set (n ∷ ns) (suc axis) m h = mul-le-mul_left n (count_set ns axis m h)

limited_remove : (ns : List ℕ) (axis : ℕ) → limited ns ≡ true → limited (remove ns axis) ≡ true
limited_remove [] zero e = refl
limited_remove [] (suc axis) e = refl
limited_remove (n ∷ ns) zero e = and_right (nat_le n max_elements) (limited ns) e
limited_remove (n ∷ ns) (suc axis) e =
    ap₂ (λ (a b : Bool). a && b) (and_left (nat_le n max_elements) (limited ns) e)
    (limited_remove ns axis (and_right (nat_le n max_elements) (limited ns) e))

count_remove : (ns : List ℕ) (axis : ℕ) → 0 < get_or ns axis 0 → element_count (remove ns axis) ≤ element_count ns
count_remove [] axis h = absurd (omega (arith, h))
count_remove (n ∷ ns) zero h =
    let more : 1 * element_count ns ≤ n * element_count ns =
    mul-le-mul_right {m = 1} {n = n} (element_count ns) h in omega (arith, more)
count_remove (n ∷ ns) (suc axis) h = mul-le-mul_left n (count_remove ns axis h)

length_remove : (ns : List ℕ) (axis : ℕ) → 0 < get_or ns axis 0 → length (remove ns axis) + 1 ≡ length ns
length_remove [] axis h = absurd (omega (arith, h))
length_remove (n ∷ ns) zero h = omega arith
length_remove (n ∷ ns) (suc axis) h = let one = length_remove ns axis h in omega (arith, one)

reversed : (n : ℕ) (ns : List ℕ) → reverse (n ∷ ns) ≡ reverse ns ++ n ∷ []
reversed n ns = reverse_onto ns n []

limited_joined : (ns ms : List ℕ) → limited ns ≡ true → limited ms ≡ true → limited (ns ++ ms) ≡ true
limited_joined [] ms h k = k
limited_joined (n ∷ ns) ms h k =
    ap₂ (λ (a b : Bool). a && b) (and_left (nat_le n max_elements) (limited ns) h)
    (limited_joined ns ms (and_right (nat_le n max_elements) (limited ns) h) k)

limited_reverse : (ns : List ℕ) → limited ns ≡ true → limited (reverse ns) ≡ true
limited_reverse [] h = refl
limited_reverse (n ∷ ns) h =
    ap limited (reversed n ns) ∙
    limited_joined (reverse ns) (n ∷ []) (limited_reverse ns (and_right (nat_le n max_elements) (limited ns) h))
    (ap (λ (a : Bool). a && true) (and_left (nat_le n max_elements) (limited ns) h))

count_joined : (ns : List ℕ) (n : ℕ) → element_count (ns ++ n ∷ []) ≡ n * element_count ns
count_joined [] n = refl
count_joined (m ∷ ns) n =
    ap (λ (c : ℕ). m * c) (count_joined ns n) ∙ swapped m n (element_count ns)
  where
    swapped : (m n c : ℕ) → m * (n * c) ≡ n * (m * c)
    swapped m n c = omega arith

count_reverse : (ns : List ℕ) → element_count (reverse ns) ≡ element_count ns
count_reverse [] = refl
count_reverse (n ∷ ns) =
    ap element_count (reversed n ns) ∙ count_joined (reverse ns) n ∙ ap (λ (c : ℕ). n * c) (count_reverse ns)

pub flip_size : (rank : ℕ) (a : ArrayRef) → HasSize rank a → HasSize rank (flipped a)
flip_size rank a size = (
  length-reverse a.extents ∙ size.0,
  small_by a.extents (reverse a.extents) (limited_reverse a.extents) (omega (arith, count_reverse a.extents)) size.1,
)

-- ---- subscripts
not_ok : {A : Type 0} (fault : Fault) (b : ArrayRef) → ◌≡◌ {A = Result ArrayRef Fault} (Err fault) (Ok b) → A
not_ok fault b e = absurd (let h = e in cc)

ok_array : (d a b : ArrayRef) → ◌≡◌ {A = Result ArrayRef Fault} (Ok a) (Ok b) → a ≡ b
ok_array d a b e = ap (or_else d) e
  where
    or_else : ArrayRef → Result ArrayRef Fault → ArrayRef
    or_else d (Ok a) = a
    or_else d (Err fault) = d

filter_count : {A : Type 0} (p : A → Bool) (xs : List A) → length (filter p xs) ≤ length xs
filter_count p [] = omega arith
filter_count p (x ∷ xs) = by_test (p x) (filter_count p xs)
  where
    by_test : (t : Bool) → length (filter p xs) ≤ length xs →
        length (if t then x ∷ filter p xs else filter p xs) ≤ suc (length xs)
    by_test true h = omega (arith, h)
    by_test false h = omega (arith, h)

walk_count : (n : ℕ) (start stop step : ℤ) → length (map unsigned_abs (walk n start stop step)) ≤ n
walk_count n start stop step =
    let numbers : List ℤ = map (after_steps start step) (range_with_len 0 n) in
    omega (
      arith,
      length-map (walk n start stop step) unsigned_abs,
      filter_count (is_before step stop) numbers,
      length-map (range_with_len 0 n) (after_steps start step),
      length-range_with_len 0 n,
    )

some_list : (xs ys : List ℕ) → Some xs ≡ Some ys → xs ≡ ys
some_list xs ys e = ap (λ (o : Option (List ℕ)). unwrap_or o xs) e

picks_count : (n : ℕ) (s : Slice) (step : ℤ) (picks : List ℕ) → picks_by n s step ≡ Some picks → length picks ≤ n
picks_count n s (pos zero) picks e = absurd (let h = e in cc)
picks_count n s (pos (suc k)) picks e =
    subst (λ (xs : List ℕ). length xs ≤ n) (some_list _ picks e) (walk_count n _ _ (pos (suc k)))
picks_count n s (negsuc k) picks e =
    subst (λ (xs : List ℕ). length xs ≤ n) (some_list _ picks e) (walk_count n _ _ (negsuc k))

position_some : (n : ℕ) (i : ℤ) (k : ℕ) → position_of n i ≡ Some k → 0 < n
position_some n (pos i) k e = by_test (nat_lt i n) refl e
  where
    by_test : (t : Bool) → nat_lt i n ≡ t → (if t then Some i else None) ≡ Some k → 0 < n
    by_test true p h = let below : i < n = ltb-true i n p in omega (arith, below)
    by_test false p h = absurd (let q = h in cc)
position_some n (negsuc i) k e = by_test (nat_lt i n) refl e
  where
    by_test : (t : Bool) → nat_lt i n ≡ t → (if t then Some (n - 1 - i) else None) ≡ Some k → 0 < n
    by_test true p h = let below : i < n = ltb-true i n p in omega (arith, below)
    by_test false p h = absurd (let q = h in cc)

-- how many dimensions subscripts remove
abbrev one_removed : Subscript → ℕ
one_removed (At i) = 1
one_removed (Cut s) = 0

abbrev pub all_removed : List Subscript → ℕ
all_removed [] = 0
all_removed (s ∷ subs) = one_removed s + all_removed subs

-- a part of an array, with so many dimensions less
abbrev IsPart : ℕ → ArrayRef → ArrayRef → Type 0
IsPart less a b = (length b.extents + less ≡ length a.extents) × (is_small b.extents ≡ true)

index_part : (axis : ℕ) (i : ℤ) (a c : ArrayRef) → is_small a.extents ≡ true → (o : Option ℕ) →
    position_of (extent_at a axis) i ≡ o → indexed axis a o ≡ Ok c → IsPart 1 a c
index_part axis i a c small None q e = not_ok IndexError c e
index_part axis i a c small (Some k) q e =
    let some : 0 < get_or a.extents axis 0 = position_some (extent_at a axis) i k q in
    subst (IsPart 1 a) (ok_array a _ c e) (
      length_remove a.extents axis some,
      small_by a.extents (remove a.extents axis) (limited_remove a.extents axis) (count_remove a.extents axis some)
          small,
    )

cut_part : (axis : ℕ) (s : Slice) (a c : ArrayRef) → is_small a.extents ≡ true → (o : Option (List ℕ)) →
    slice_indices (extent_at a axis) s ≡ o → cut_to axis a o ≡ Ok c → IsPart 0 a c
cut_part axis s a c small None q e = not_ok ValueError c e
cut_part axis s a c small (Some picks) q e =
    let few : length picks ≤ extent_at a axis =
    picks_count (extent_at a axis) s (unwrap_or s.step (pos 1)) picks q in
    let same : length (slice_set a.extents axis (length picks)) ≡ length a.extents =
    length-set a.extents axis (length picks) in
    subst (IsPart 0 a) (ok_array a _ c e) (
      omega (arith, same),
      small_by a.extents (slice_set a.extents axis (length picks))
          (limited_set a.extents axis (length picks) few) (count_set a.extents axis (length picks) few) small,
    )

one_part : (axis : ℕ) (s : Subscript) (a c : ArrayRef) → is_small a.extents ≡ true → subscripted axis s a ≡ Ok c →
    IsPart (one_removed s) a c
one_part axis (At i) a c small e = index_part axis i a c small (position_of (extent_at a axis) i) refl e
one_part axis (Cut s) a c small e = cut_part axis s a c small (slice_indices (extent_at a axis) s) refl e

picked_part : (subs : List Subscript) (axis : ℕ) (a b : ArrayRef) → is_small a.extents ≡ true →
    picked_from axis subs a ≡ Ok b → IsPart (all_removed subs) a b
picked_part [] axis a b small e = subst (IsPart 0 a) (ok_array a a b e) (omega arith, small)
picked_part (s ∷ subs) axis a b small e =
    by_test (nat_lt axis (length a.extents)) e (λ c q h. both c (one_part axis s a c small q)
    (picked_part subs (axis_behind axis s) c b (one_part axis s a c small q).1 h))
  where
    both : (c : ArrayRef) → IsPart (one_removed s) a c → IsPart (all_removed subs) c b →
        IsPart (one_removed s + all_removed subs) a b
    both c (p, k) (q, l) = (omega (arith, p, q), l)

    by_part : (r : Result ArrayRef Fault) → subscripted axis s a ≡ r →
        and_then r (picked_from (axis_behind axis s) subs) ≡ Ok b →
        ((c : ArrayRef) → subscripted axis s a ≡ Ok c → picked_from (axis_behind axis s) subs c ≡ Ok b →
        IsPart (one_removed s + all_removed subs) a b) → IsPart (one_removed s + all_removed subs) a b
    by_part (Ok c) q h rest = rest c q h
    by_part (Err fault) q h rest = not_ok fault b h

    by_test : (t : Bool) →
        (if t then and_then (subscripted axis s a) (picked_from (axis_behind axis s) subs) else Err IndexError) ≡ Ok b →
        ((c : ArrayRef) → subscripted axis s a ≡ Ok c → picked_from (axis_behind axis s) subs c ≡ Ok b →
        IsPart (one_removed s + all_removed subs) a b) → IsPart (one_removed s + all_removed subs) a b
    by_test true h rest = by_part (subscripted axis s a) refl h rest
    by_test false h rest = not_ok IndexError b h

count_cons : {A : Type 0} (p : A → Bool) (x : A) (xs : List A) →
    count_by p (x ∷ xs) ≡ cond (p x) 1 0 + count_by p xs
count_cons p x xs = sum_by-cons (λ y. cond (p y) 1 0) x xs

one_more : (x : Oper) (subs : List CoreSub) {n : ℕ} → n ≡ removed subs → 1 + n ≡ removed (sub.At x ∷ subs)
one_more x subs e =
    let one : removed (sub.At x ∷ subs) ≡ 1 + removed subs = count_cons is_index (sub.At x) subs in
    omega (arith, e, one)

removed_are : (subs : List CoreSub) (values : List Bound) → all_removed (subscripts_of subs values) ≡ removed subs
removed_are [] values = refl
removed_are (sub.At x ∷ subs) [] =
    one_more x subs (removed_are subs (next_subscript (sub.At x) []).1)
removed_are (sub.At x ∷ subs) (v ∷ values) =
    one_more x subs (removed_are subs (next_subscript (sub.At x) (v ∷ values)).1)
removed_are (sub.Cut start stop step ∷ subs) values =
    let rest = removed_are subs (next_subscript (sub.Cut start stop step) values).1 in
    let none : removed (sub.Cut start stop step ∷ subs) ≡ 0 + removed subs =
    count_cons is_index (sub.Cut start stop step) subs in
    omega (arith, rest, none)

-- what subscripts pick of an array of accepted size
pub pick_size : (subs : List CoreSub) (values : List Bound) (rank : ℕ) (a b : ArrayRef) → HasSize rank a →
    picked_from 0 (subscripts_of subs values) a ≡ Ok b → removed subs < rank → HasSize (rank - removed subs) b
pick_size subs values rank a b size e less =
    let part = picked_part (subscripts_of subs values) 0 a b size.1 e in
    let sum : length b.extents + all_removed (subscripts_of subs values) ≡ length a.extents = part.0 in
    let same : all_removed (subscripts_of subs values) ≡ removed subs = removed_are subs values in
    let long : length a.extents ≡ rank = size.0 in
    (omega (arith, sum, same, long, less), part.1)

-- ---- new arrays
err_ok : {A : Type 0} (fault : Fault) (ns : List ℕ) → ◌≡◌ {A = Result (List ℕ) Fault} (Err fault) (Ok ns) → A
err_ok fault ns e = absurd (let h = e in cc)

ok_same : (ns ms : List ℕ) → ◌≡◌ {A = Result (List ℕ) Fault} (Ok ns) (Ok ms) → ns ≡ ms
ok_same ns ms e = let h = e in cc

abbrev IsShape : List ℕ → List ℕ → Type 0
IsShape ns ms = (ns ≡ ms) × (is_small ms ≡ true)

small_same : (ns ms : List ℕ) → is_small ns ≡ true → ns ≡ ms → IsShape ns ms
small_same ns ms small e = (e, subst (λ (xs : List ℕ). is_small xs ≡ true) e small)

broadcast_is : (shapes : List (List ℕ)) (ms : List ℕ) → broadcast_of shapes ≡ Ok ms → IsShape (joined_shape shapes) ms
broadcast_is shapes ms h =
    by_tests (list_all (λ k. all_same (proper_extents k shapes)) (dimensions shapes)) (is_small (joined_shape shapes))
    refl h
  where
    by_tests : (test small : Bool) → is_small (joined_shape shapes) ≡ small →
        (if test then (if small then Ok (joined_shape shapes) else Err SizeLimit) else Err ValueError) ≡ Ok ms →
        IsShape (joined_shape shapes) ms
    by_tests true true s h = small_same (joined_shape shapes) ms s (ok_same (joined_shape shapes) ms h)
    by_tests true false s h = err_ok SizeLimit ms h
    by_tests false small s h = err_ok ValueError ms h

pub broadcast_size : (shapes : List (List ℕ)) (ms : List ℕ) → broadcast_of shapes ≡ Ok ms →
    (length ms ≡ greatest_rank shapes) × (is_small ms ≡ true)
broadcast_size shapes ms h =
    let is = broadcast_is shapes ms h in (
      ap (λ (xs : List ℕ). length xs) (sym is.0) ∙
          length-map (dimensions shapes) _ ∙ length-reverse (range_with_len 0 (greatest_rank shapes)) ∙
          length-range_with_len 0 (greatest_rank shapes),
      is.1,
    )

checked_is : (ns ms : List ℕ) → checked_shape ns ≡ Ok ms → IsShape ns ms
checked_is ns ms h = by_tests (is_small ns) (nat_le (length ns) 4) refl h
  where
    by_tests : (small few : Bool) → is_small ns ≡ small →
        (if small then (if few then Ok ns else Err SizeLimit) else Err SizeLimit) ≡ Ok ms → IsShape ns ms
    by_tests true true s h = small_same ns ms s (ok_same ns ms h)
    by_tests true false s h = err_ok SizeLimit ms h
    by_tests false few s h = err_ok SizeLimit ms h

signed_is : (test : Bool) (ns ms : List ℕ) → (if test then Err ValueError else checked_shape ns) ≡ Ok ms →
    IsShape ns ms
signed_is true ns ms h = err_ok ValueError ms h
signed_is false ns ms h = checked_is ns ms h

fresh_is : (fill : Fill) (dims : List ℤ) (ms : List ℕ) → fresh_shape fill dims ≡ Ok ms →
    IsShape (map from_zero dims) ms
fresh_is Zero dims ms h = signed_is (list_any (λ z. int_lt z (pos 0)) dims) (map from_zero dims) ms h
fresh_is One dims ms h = signed_is (list_any (λ z. int_lt z (pos 0)) dims) (map from_zero dims) ms h
fresh_is Count dims ms h = checked_is (map from_zero dims) ms h

pub fresh_size : (fill : Fill) (dims : List ℤ) (ms : List ℕ) → fresh_shape fill dims ≡ Ok ms →
    (length ms ≡ length dims) × (is_small ms ≡ true)
fresh_size fill dims ms h =
    let is = fresh_is fill dims ms h in
    (ap (λ (xs : List ℕ). length xs) (sym is.0) ∙ length-map dims from_zero, is.1)

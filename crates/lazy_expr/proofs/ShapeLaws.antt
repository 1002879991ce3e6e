-- Shapes within the limits: what a broadcast spreads to, and what parts of an array keep.
use Rattle.std.proofs.Common.{◌≡◌, ◌∙◌, ap, ap₂, subst, refl, arith, ℕ, zero, suc, ◌*◌, ◌-◌, ◌<◌, ◌≤◌}
use Rattle.std.proofs.Common.{Bool, true, false, ◌&&◌, List, [], ◌∷◌, ◌++◌, map, length, get_or, set, reverse}
use Rattle.std.proofs.Common.{filter, eq-eqb, ltb-true, ℤ, pos, negsuc, Option, Some, None, Result, Ok, Err}
use Rattle.std.specs.Prelude.{remove, slice_set, nat_lt, nat_le, unsigned_abs, if◌then◌else◌, unwrap_or}
use Rattle.std.specs.List.{list_all, range_with_len}
use Rattle.std.specs.Str.{bytes_eq}
use Rattle.std.proofs.Math.Nat.{mul-le-mul_left, mul-le-mul_right}
use Rattle.std.proofs.lemmas.Bool.{leb-true, le-leb}
use Rattle.std.proofs.lemmas.Grind.{reverse_onto}
use Rattle.std.proofs.lemmas.List.{length-map}
use Rattle.std.proofs.lemmas.List.Elements.{All-from_get_or}
use Rattle.std.proofs.lemmas.List.FromFn.{length-range_with_len}
use Rattle.std.proofs.lemmas.List.Sums.{list_all-from_AllPass}
use Rattle.krn_base.specs.declared.fault.Fault.{Fault}
use Rattle.krn_base.specs.declared.fault.Fault.TheVariants.{IndexError, ValueError}
use Rattle.view_places.specs.Arrays.{element_count}
use Rattle.view_places.specs.Arrays.{indices, is_small, max_elements}
use Rattle.view_places.specs.Arrays.{position_of}
use Rattle.view_places.specs.Laws.{EachSpreads as Spreading}
use Rattle.view_places.specs.Slice.{after_steps, is_before, picks_by, slice_indices, walk}
use Rattle.view_places.specs.declared.slice.Slice.{Slice}
use Rattle.array_ops.specs.Arrays.{ArrayRef}
use Rattle.array_ops.specs.Elements.{is_shape, spreads_to}
use Rattle.array_ops.specs.Subscripts.{and_then, axis_behind, cut_to, extent_at, indexed, picked_from}
use Rattle.array_ops.specs.Subscripts.{subscripted}
use Rattle.array_ops.specs.declared.subscript.Subscript.{Subscript}
use Rattle.array_ops.specs.declared.subscript.Subscript.TheVariants.{At, Cut}
use Rattle.lazy_expr.proofs.Binds.{and_left, and_right}
use Rattle.lazy_expr.proofs.Relation.{IsProper}
use Rattle.lazy_expr.proofs.Shapes.{EachSpreads, FlipsProper, PicksProper}
use Rattle.lazy_expr.proofs.Templates.{indices_count}

-- ---- broadcasts
same_bytes : (xs : List ℕ) → bytes_eq xs xs ≡ true
same_bytes [] = refl
same_bytes (x ∷ xs) = ap₂ (λ (a b : Bool). a && b) (eq-eqb x x refl) (same_bytes xs)

-- what spreads by the law passes the test
pub spreads_by : Spreading → EachSpreads
spreads_by each shapes ms e =
    list_all-from_AllPass (λ from. spreads_to from ms) shapes
    (All-from_get_or (λ from. spreads_to from ms ≡ true) shapes []
    (λ j h. ap (is_shape ms) (each shapes ms e j [] h) ∙ same_bytes ms))

-- a list in reverse, its first item last
reversed : (n : ℕ) (ns : List ℕ) → reverse (n ∷ ns) ≡ reverse ns ++ n ∷ []
reversed n ns = reverse_onto ns n []

-- ---- limits
abbrev limited : List ℕ → Bool
limited ns = list_all (λ n. nat_le n max_elements) ns

small_by : (ns ms : List ℕ) → (limited ns ≡ true → limited ms ≡ true) → element_count ms ≤ element_count ns →
    is_small ns ≡ true → is_small ms ≡ true
small_by ns ms f few e =
    let least : element_count ns ≤ max_elements = leb-true (element_count ns) max_elements
    (and_right (limited ns) (nat_le (element_count ns) max_elements) e) in
    ap₂ (λ (a b : Bool). a && b) (f (and_left (limited ns) (nat_le (element_count ns) max_elements) e))
    (le-leb (element_count ms) max_elements (omega (arith, few, least)))

limited_at : (ns : List ℕ) (axis : ℕ) → limited ns ≡ true → get_or ns axis 0 ≤ max_elements
limited_at [] axis h = omega arith
limited_at (n ∷ ns) zero h = leb-true n max_elements (and_left (nat_le n max_elements) (limited ns) h)
limited_at (n ∷ ns) (suc axis) h = limited_at ns axis (and_right (nat_le n max_elements) (limited ns) h)

limited_set : (ns : List ℕ) (axis m : ℕ) → m ≤ get_or ns axis 0 → limited ns ≡ true → limited (set ns axis m) ≡ true
limited_set [] axis m h e = refl
limited_set (n ∷ ns) zero m h e =
    let most : n ≤ max_elements = limited_at (n ∷ ns) zero e in
    ap₂ (λ (a b : Bool). a && b) (le-leb m max_elements (omega (arith, h, most)))
    (and_right (nat_le n max_elements) (limited ns) e)
limited_set (n ∷ ns) (suc axis) m h e =
    ap₂ (λ (a b : Bool). a && b) (and_left (nat_le n max_elements) (limited ns) e)
    (limited_set ns axis m h (and_right (nat_le n max_elements) (limited ns) e))

count_set : (ns : List ℕ) (axis m : ℕ) → m ≤ get_or ns axis 0 → element_count (set ns axis m) ≤ element_count ns
count_set [] axis m h = omega arith
count_set (n ∷ ns) zero m h = mul-le-mul_right {m = m} {n = n} (element_count ns) h
count_set (n ∷ ns) (suc axis) m h = mul-le-mul_left n (count_set ns axis m h)

limited_remove : (ns : List ℕ) (axis : ℕ) → limited ns ≡ true → limited (remove ns axis) ≡ true
limited_remove [] zero e = refl
limited_remove [] (suc axis) e = refl
limited_remove (n ∷ ns) zero e = and_right (nat_le n max_elements) (limited ns) e
limited_remove (n ∷ ns) (suc axis) e =
    ap₂ (λ (a b : Bool). a && b) (and_left (nat_le n max_elements) (limited ns) e)
    (limited_remove ns axis (and_right (nat_le n max_elements) (limited ns) e))

count_remove : (ns : List ℕ) (axis : ℕ) → 0 < get_or ns axis 0 → element_count (remove ns axis) ≤ element_count ns
count_remove [] axis h = absurd (omega (arith, h))
count_remove (n ∷ ns) zero h =
    let more : 1 * element_count ns ≤ n * element_count ns =
    mul-le-mul_right {m = 1} {n = n} (element_count ns) h in omega (arith, more)
count_remove (n ∷ ns) (suc axis) h = mul-le-mul_left n (count_remove ns axis h)

limited_joined : (ns ms : List ℕ) → limited ns ≡ true → limited ms ≡ true → limited (ns ++ ms) ≡ true
limited_joined [] ms h k = k
limited_joined (n ∷ ns) ms h k =
    ap₂ (λ (a b : Bool). a && b) (and_left (nat_le n max_elements) (limited ns) h)
    (limited_joined ns ms (and_right (nat_le n max_elements) (limited ns) h) k)

limited_reverse : (ns : List ℕ) → limited ns ≡ true → limited (reverse ns) ≡ true
limited_reverse [] h = refl
limited_reverse (n ∷ ns) h =
    ap limited (reversed n ns) ∙
    limited_joined (reverse ns) (n ∷ []) (limited_reverse ns (and_right (nat_le n max_elements) (limited ns) h))
    (ap (λ (a : Bool). a && true) (and_left (nat_le n max_elements) (limited ns) h))

count_joined : (ns : List ℕ) (n : ℕ) → element_count (ns ++ n ∷ []) ≡ n * element_count ns
count_joined [] n = refl
count_joined (m ∷ ns) n =
    ap (λ (c : ℕ). m * c) (count_joined ns n) ∙ swapped m n (element_count ns)
  where
    swapped : (m n c : ℕ) → m * (n * c) ≡ n * (m * c)
    swapped m n c = omega arith

count_reverse : (ns : List ℕ) → element_count (reverse ns) ≡ element_count ns
count_reverse [] = refl
count_reverse (n ∷ ns) =
    ap element_count (reversed n ns) ∙ count_joined (reverse ns) n ∙ ap (λ (c : ℕ). n * c) (count_reverse ns)

pub flips_proper : FlipsProper
flips_proper a p = record {
  count = length-map (indices (reverse a.extents)) _ ∙ indices_count (reverse a.extents);
  small = small_by a.extents (reverse a.extents) (limited_reverse a.extents)
      (omega (arith, count_reverse a.extents)) p.small;
}

-- ---- subscripts
not_ok : {A : Type 0} (fault : Fault) (b : ArrayRef) → ◌≡◌ {A = Result ArrayRef Fault} (Err fault) (Ok b) → A
not_ok fault b e = absurd (let h = e in cc)

ok_array : (d a b : ArrayRef) → ◌≡◌ {A = Result ArrayRef Fault} (Ok a) (Ok b) → a ≡ b
ok_array d a b e = ap (or_else d) e
  where
    or_else : ArrayRef → Result ArrayRef Fault → ArrayRef
    or_else d (Ok a) = a
    or_else d (Err fault) = d

filter_count : {A : Type 0} (p : A → Bool) (xs : List A) → length (filter p xs) ≤ length xs
filter_count p [] = omega arith
filter_count p (x ∷ xs) = by_test (p x) (filter_count p xs)
  where
    by_test : (t : Bool) → length (filter p xs) ≤ length xs →
        length (if t then x ∷ filter p xs else filter p xs) ≤ suc (length xs)
    by_test true h = omega (arith, h)
    by_test false h = omega (arith, h)

walk_count : (n : ℕ) (start stop step : ℤ) → length (map unsigned_abs (walk n start stop step)) ≤ n
walk_count n start stop step =
    let numbers : List ℤ = map (after_steps start step) (range_with_len 0 n) in
    omega (
      arith,
      length-map (walk n start stop step) unsigned_abs,
      filter_count (is_before step stop) numbers,
      length-map (range_with_len 0 n) (after_steps start step),
      length-range_with_len 0 n,
    )

some_list : (xs ys : List ℕ) → Some xs ≡ Some ys → xs ≡ ys
some_list xs ys e = ap (λ (o : Option (List ℕ)). unwrap_or o xs) e

picks_count : (n : ℕ) (s : Slice) (step : ℤ) (picks : List ℕ) → picks_by n s step ≡ Some picks → length picks ≤ n
picks_count n s (pos zero) picks e = absurd (let h = e in cc)
picks_count n s (pos (suc k)) picks e =
    subst (λ (xs : List ℕ). length xs ≤ n) (some_list _ picks e) (walk_count n _ _ (pos (suc k)))
picks_count n s (negsuc k) picks e =
    subst (λ (xs : List ℕ). length xs ≤ n) (some_list _ picks e) (walk_count n _ _ (negsuc k))

position_some : (n : ℕ) (i : ℤ) (k : ℕ) → position_of n i ≡ Some k → 0 < n
position_some n (pos i) k e = by_test (nat_lt i n) refl e
  where
    by_test : (t : Bool) → nat_lt i n ≡ t → (if t then Some i else None) ≡ Some k → 0 < n
    by_test true p h = let below : i < n = ltb-true i n p in omega (arith, below)
    by_test false p h = absurd (let q = h in cc)
position_some n (negsuc i) k e = by_test (nat_lt i n) refl e
  where
    by_test : (t : Bool) → nat_lt i n ≡ t → (if t then Some (n - 1 - i) else None) ≡ Some k → 0 < n
    by_test true p h = let below : i < n = ltb-true i n p in omega (arith, below)
    by_test false p h = absurd (let q = h in cc)

index_proper : (axis : ℕ) (i : ℤ) (a c : ArrayRef) → IsProper a → (o : Option ℕ) →
    position_of (extent_at a axis) i ≡ o → indexed axis a o ≡ Ok c → IsProper c
index_proper axis i a c p None q e = not_ok IndexError c e
index_proper axis i a c p (Some k) q e =
    subst IsProper (ok_array a _ c e) (record {
      count = length-map (indices (remove a.extents axis)) _ ∙ indices_count (remove a.extents axis);
      small = small_by a.extents (remove a.extents axis) (limited_remove a.extents axis)
          (count_remove a.extents axis (position_some (extent_at a axis) i k q)) p.small;
    })

cut_proper : (axis : ℕ) (s : Slice) (a c : ArrayRef) → IsProper a → (o : Option (List ℕ)) →
    slice_indices (extent_at a axis) s ≡ o → cut_to axis a o ≡ Ok c → IsProper c
cut_proper axis s a c p None q e = not_ok ValueError c e
cut_proper axis s a c p (Some picks) q e =
    let few : length picks ≤ extent_at a axis =
    picks_count (extent_at a axis) s (unwrap_or s.step (pos 1)) picks q in
    subst IsProper (ok_array a _ c e) (record {
      count = length-map (indices (slice_set a.extents axis (length picks))) _ ∙
          indices_count (slice_set a.extents axis (length picks));
      small = small_by a.extents (slice_set a.extents axis (length picks))
          (limited_set a.extents axis (length picks) few) (count_set a.extents axis (length picks) few) p.small;
    })

part_proper : (axis : ℕ) (s : Subscript) (a c : ArrayRef) → IsProper a → subscripted axis s a ≡ Ok c → IsProper c
part_proper axis (At i) a c p e = index_proper axis i a c p (position_of (extent_at a axis) i) refl e
part_proper axis (Cut s) a c p e = cut_proper axis s a c p (slice_indices (extent_at a axis) s) refl e

picked_proper : (subs : List Subscript) (axis : ℕ) (a b : ArrayRef) → IsProper a → picked_from axis subs a ≡ Ok b →
    IsProper b
picked_proper [] axis a b p e = subst IsProper (ok_array a a b e) p
picked_proper (s ∷ subs) axis a b p e =
    by_test (nat_lt axis (length a.extents)) e
    (λ c q h. picked_proper subs (axis_behind axis s) c b (part_proper axis s a c p q) h)
  where
    by_part : (r : Result ArrayRef Fault) → subscripted axis s a ≡ r →
        and_then r (picked_from (axis_behind axis s) subs) ≡ Ok b →
        ((c : ArrayRef) → subscripted axis s a ≡ Ok c → picked_from (axis_behind axis s) subs c ≡ Ok b → IsProper b) →
        IsProper b
    by_part (Ok c) q h rest = rest c q h
    by_part (Err fault) q h rest = not_ok fault b h

    by_test : (t : Bool) →
        (if t then and_then (subscripted axis s a) (picked_from (axis_behind axis s) subs) else Err IndexError) ≡ Ok b →
        ((c : ArrayRef) → subscripted axis s a ≡ Ok c → picked_from (axis_behind axis s) subs c ≡ Ok b → IsProper b) →
        IsProper b
    by_test true h rest = by_part (subscripted axis s a) refl h rest
    by_test false h rest = not_ok IndexError b h

pub picks_proper : PicksProper
picks_proper subs a b p e = picked_proper subs 0 a b p e

-- Shapes of accepted size: reversed, cut, and as the shape of an element operation on one array.
use Rattle.std.proofs.Common.{arith, ◌≡◌, ◌∙◌, ap, sym, subst, refl, ℕ, zero, suc, ◌+◌, ◌*◌, ◌^◌, ◌<◌, ◌≤◌, ◌==◌, Bool}
use Rattle.std.proofs.Common.{true, false, not, ◌&&◌, List, [], ◌∷◌, ◌++◌, map, length, reverse, get_or, set}
use Rattle.std.proofs.Common.{filter, max}
use Rattle.std.proofs.Common.{leb, mul-le-mul_left, mul-le-mul_right, cond, Option, Some, None, ℤ, pos, negsuc}
use Rattle.std.proofs.Common.{Result, Ok, Err, unsigned_abs, length-append, append_assoc, mul_assoc}
use Rattle.std.proofs.lemmas.Bool.Decides.{nat_tests}
use Rattle.std.proofs.lemmas.Grind.{reverse_onto}
use Rattle.std.specs.Prelude.{if◌then◌else◌, slice_set, slice_index_or}
use Rattle.std.specs.List.{list_all, range_with_len}
use Rattle.std.proofs.lemmas.List.{length-map, length-reverse, map-append, reverse-reverse}
use Rattle.view_places.specs.Arrays.{all_same, broadcast_of, dimensions, element_count, extent_back, is_small}
use Rattle.view_places.specs.Arrays.{joined_shape}
use Rattle.view_places.specs.Arrays.{proper_extents}
use Rattle.view_places.specs.Slice.{after_steps, is_before, picks_by, slice_indices, walk}
use Rattle.view_places.specs.declared.slice.Slice.{Slice}
use Rattle.krn_base.specs.declared.fault.Fault.TheVariants.{ValueError, SizeLimit}
use Rattle.purity.proofs.TypeTests.{and_left, and_right, not_true}

abbrev pub Limits : List ℕ → Type 0
Limits [] = Unit {0}
Limits (n ∷ ns) = (n ≤ 2 ^ 22) × Limits ns

both_true : (a b : Bool) → a ≡ true → b ≡ true → a && b ≡ true
both_true true b h k = k
both_true false b h k = h

limits_in : (ns : List ℕ) → Limits ns → list_all (λ n. leb n (2 ^ 22)) ns ≡ true
limits_in [] h = refl
limits_in (n ∷ ns) h = both_true (leb n (2 ^ 22)) (list_all (λ m. leb m (2 ^ 22)) ns) (below n h.0) (limits_in ns h.1)
  where
    below : (n : ℕ) → n ≤ 2 ^ 22 → leb n (2 ^ 22) ≡ true
    below n h = grind (arith, nat_tests)

limits_out : (ns : List ℕ) → list_all (λ n. leb n (2 ^ 22)) ns ≡ true → Limits ns
limits_out [] h = tt
limits_out (n ∷ ns) h = (
  above n (and_left (leb n (2 ^ 22)) (list_all (λ m. leb m (2 ^ 22)) ns) h),
  limits_out ns (and_right (leb n (2 ^ 22)) (list_all (λ m. leb m (2 ^ 22)) ns) h),
)
  where
    above : (n : ℕ) → leb n (2 ^ 22) ≡ true → n ≤ 2 ^ 22
    above n h = grind (arith, nat_tests)

small_limits : (ns : List ℕ) → is_small ns ≡ true → Limits ns
small_limits ns h = limits_out ns (and_left (list_all (λ n. leb n (2 ^ 22)) ns) (leb (element_count ns) (2 ^ 22)) h)

small_count : (ns : List ℕ) → is_small ns ≡ true → element_count ns ≤ 2 ^ 22
small_count ns h =
    let test : leb (element_count ns) (2 ^ 22) ≡ true =
    and_right (list_all (λ n. leb n (2 ^ 22)) ns) (leb (element_count ns) (2 ^ 22)) h in
    above (element_count ns) test
  where
    above : (n : ℕ) → leb n (2 ^ 22) ≡ true → n ≤ 2 ^ 22
    above n h = grind (arith, nat_tests)

small_in : (ns : List ℕ) → Limits ns → element_count ns ≤ 2 ^ 22 → is_small ns ≡ true
small_in ns h k =
    both_true (list_all (λ n. leb n (2 ^ 22)) ns) (leb (element_count ns) (2 ^ 22)) (limits_in ns h)
    (below (element_count ns) k)
  where
    below : (n : ℕ) → n ≤ 2 ^ 22 → leb n (2 ^ 22) ≡ true
    below n h = grind (arith, nat_tests)

-- Reversed.
reverse-cons : {A : Type 0} (x : A) (xs : List A) → reverse (x ∷ xs) ≡ reverse xs ++ x ∷ []
reverse-cons x xs = reverse_onto xs x []

limits_append : (ns ms : List ℕ) → Limits ns → Limits ms → Limits (ns ++ ms)
limits_append [] ms h k = k
limits_append (n ∷ ns) ms h k = (h.0, limits_append ns ms h.1 k)

limits_reverse : (ns : List ℕ) → Limits ns → Limits (reverse ns)
limits_reverse [] h = tt
limits_reverse (n ∷ ns) h =
    subst Limits (sym (reverse-cons n ns)) (limits_append (reverse ns) (n ∷ []) (limits_reverse ns h.1) (h.0, tt))

count_append : (ns ms : List ℕ) → element_count (ns ++ ms) ≡ element_count ns * element_count ms
count_append [] ms = one (element_count ms)
  where
    one : (c : ℕ) → c ≡ 1 * c
    one c = omega arith
count_append (n ∷ ns) ms =
    ap (λ (c : ℕ). n * c) (count_append ns ms) ∙ sym (mul_assoc n (element_count ns) (element_count ms))

count_reverse : (ns : List ℕ) → element_count (reverse ns) ≡ element_count ns
count_reverse [] = refl
count_reverse (n ∷ ns) =
    ap element_count (reverse-cons n ns) ∙ count_append (reverse ns) (n ∷ []) ∙
    ap (λ (c : ℕ). c * (n * 1)) (count_reverse ns) ∙ swapped n (element_count ns)
  where
    swapped : (n c : ℕ) → c * (n * 1) ≡ n * c
    swapped n c = omega arith

pub small_reverse : (ns : List ℕ) → is_small ns ≡ true → is_small (reverse ns) ≡ true
small_reverse ns h =
    let few : element_count ns ≤ 2 ^ 22 = small_count ns h in
    small_in (reverse ns) (limits_reverse ns (small_limits ns h))
    (subst (λ (c : ℕ). c ≤ 2 ^ 22) (sym (count_reverse ns)) few)

-- Cut.
limits_set : (ns : List ℕ) (axis m : ℕ) → m ≤ get_or ns axis 0 → Limits ns → Limits (set ns axis m)
limits_set [] axis m h l = tt
limits_set (n ∷ ns) zero m h l = (let most : n ≤ 2 ^ 22 = l.0 in omega (arith, h, most), l.1)
limits_set (n ∷ ns) (suc axis) m h l = (l.0, limits_set ns axis m h l.1)

count_set : (ns : List ℕ) (axis m : ℕ) → m ≤ get_or ns axis 0 → element_count (set ns axis m) ≤ element_count ns
count_set [] axis m h = omega arith
count_set (n ∷ ns) zero m h = mul-le-mul_right {m = m} {n = n} (element_count ns) h
count_set (n ∷ ns) (suc axis) m h = mul-le-mul_left n (count_set ns axis m h)

pub small_set : (ns : List ℕ) (axis m : ℕ) → m ≤ get_or ns axis 0 → is_small ns ≡ true →
    is_small (set ns axis m) ≡ true
small_set ns axis m h small =
    let few : element_count ns ≤ 2 ^ 22 = small_count ns small in
    let less : element_count (set ns axis m) ≤ element_count ns = count_set ns axis m h in
    small_in (set ns axis m) (limits_set ns axis m h (small_limits ns small)) (omega (arith, few, less))

length_filter : {A : Type 0} (test : A → Bool) (xs : List A) → length (filter test xs) ≤ length xs
length_filter test [] = omega arith
length_filter test (x ∷ xs) = by_test (test x) (length_filter test xs)
  where
    by_test : (b : Bool) → length (filter test xs) ≤ length xs →
        length (cond b (x ∷ filter test xs) (filter test xs)) ≤ suc (length xs)
    by_test true less = omega (arith, less)
    by_test false less = omega (arith, less)

length_range : (a n : ℕ) → length (range_with_len a n) ≡ n
length_range a zero = refl
length_range a (suc n) = ap suc (length_range (a + 1) n)

walk_most : (n : ℕ) (start stop step : ℤ) → length (map unsigned_abs (walk n start stop step)) ≤ n
walk_most n start stop step =
    let filtered : length (walk n start stop step) ≤ length (map (after_steps start step) (range_with_len 0 n)) =
    length_filter (is_before step stop) (map (after_steps start step) (range_with_len 0 n)) in
    let all : length (map (after_steps start step) (range_with_len 0 n)) ≡ n =
    length-map (range_with_len 0 n) (after_steps start step) ∙ length_range 0 n in
    let same : length (map unsigned_abs (walk n start stop step)) ≡ length (walk n start stop step) =
    length-map (walk n start stop step) unsigned_abs in
    omega (arith, filtered, all, same)

-- a slice by a step other than 0 picks no more entries than there are
pub picks_most : (n : ℕ) (s : Slice) (z : ℤ) → (z ≡ pos 0 → ⊥) →
    (picks : List ℕ) × (picks_by n s z ≡ Some picks) × (length picks ≤ n)
picks_most n s (pos zero) h = absurd (h refl)
picks_most n s (pos (suc k)) h = (_, refl, walk_most n _ _ (pos (suc k)))
picks_most n s (negsuc k) h = (_, refl, walk_most n _ _ (negsuc k))

-- As the shape of an element operation.
extent_only : (e : ℕ) → slice_index_or (filter (λ n. not (n == 1)) (e ∷ [])) 0 1 ≡ e
extent_only e = by_test (e == 1) refl
  where
    by_test : (b : Bool) → (e == 1) ≡ b → slice_index_or (cond (not b) (e ∷ []) []) 0 1 ≡ e
    by_test true h = let same : e ≡ 1 = grind (arith, nat_tests) in sym same
    by_test false h = refl

same_alone : (e : ℕ) → all_same (filter (λ n. not (n == 1)) (e ∷ [])) ≡ true
same_alone e = by_test (not (e == 1))
  where
    by_test : (b : Bool) → all_same (cond b (e ∷ []) []) ≡ true
    by_test true = refl
    by_test false = refl

all_alone : (ns : List ℕ) (ks : List ℕ) → list_all (λ k. all_same (proper_extents k (ns ∷ []))) ks ≡ true
all_alone ns [] = refl
all_alone ns (k ∷ ks) =
    both_true (all_same (proper_extents k (ns ∷ []))) (list_all (λ j. all_same (proper_extents j (ns ∷ []))) ks)
    (same_alone (extent_back k ns)) (all_alone ns ks)

maps_alike : {A B : Type 0} (f g : A → B) (xs : List A) → ((x : A) → f x ≡ g x) → map f xs ≡ map g xs
maps_alike f g [] h = refl
maps_alike f g (x ∷ xs) h = ap (λ y. y ∷ map f xs) (h x) ∙ ap (λ ys. g x ∷ ys) (maps_alike f g xs h)

map_reverse : {A B : Type 0} (f : A → B) (xs : List A) → map f (reverse xs) ≡ reverse (map f xs)
map_reverse f [] = refl
map_reverse f (x ∷ xs) =
    ap (map f) (reverse-cons x xs) ∙ (map-append f (reverse xs) (x ∷ []) ∙
    (ap (λ ys. ys ++ f x ∷ []) (map_reverse f xs) ∙ sym (reverse-cons (f x) (map f xs))))

get_behind : (xs before : List ℕ) →
    map (λ k. slice_index_or (before ++ xs) k 1) (range_with_len (length before) (length xs)) ≡ xs
get_behind [] before = refl
get_behind (x ∷ xs) before =
    let first : slice_index_or (before ++ x ∷ xs) (length before) 1 ≡ x = at_end before in
    let same : (before ++ x ∷ []) ++ xs ≡ before ++ x ∷ xs = append_assoc before (x ∷ []) xs in
    let size : length (before ++ x ∷ []) ≡ length before + 1 = length-append before (x ∷ []) in
    ap (λ (y : ℕ). y ∷ map (λ k. slice_index_or (before ++ x ∷ xs) k 1)
    (range_with_len (length before + 1) (length xs)))
    first ∙ ap (λ (ys : List ℕ). x ∷ ys)
    (ap (λ (n : ℕ). map (λ k. slice_index_or (before ++ x ∷ xs) k 1) (range_with_len n (length xs))) (sym size) ∙
    (ap (λ (zs : List ℕ). map (λ k. slice_index_or zs k 1) (range_with_len (length (before ++ x ∷ [])) (length xs)))
    (sym same) ∙ get_behind xs (before ++ x ∷ [])))
  where
    at_end : (ys : List ℕ) → slice_index_or (ys ++ x ∷ xs) (length ys) 1 ≡ x
    at_end [] = refl
    at_end (y ∷ ys) = at_end ys

joined_alone : (ns : List ℕ) → joined_shape (ns ∷ []) ≡ ns
joined_alone ns =
    let rank : max (length ns) 0 ≡ length ns = omega arith in
    let size : length ns ≡ length (reverse ns) = sym (length-reverse ns) in
    maps_alike (λ k. slice_index_or (proper_extents k (ns ∷ [])) 0 1) (λ k. slice_index_or (reverse ns) k 1)
    (dimensions (ns ∷ [])) (λ k. extent_only (extent_back k ns)) ∙
    (ap (λ (n : ℕ). map (λ k. slice_index_or (reverse ns) k 1) (reverse (range_with_len 0 n))) (rank ∙ size) ∙
    (map_reverse (λ k. slice_index_or (reverse ns) k 1) (range_with_len 0 (length (reverse ns))) ∙
    (ap (λ (xs : List ℕ). reverse xs) (get_behind (reverse ns) []) ∙ reverse-reverse ns)))

-- the broadcast of one shape of accepted size is that shape
pub broadcast_alone : (ns : List ℕ) → is_small ns ≡ true → broadcast_of (ns ∷ []) ≡ Ok ns
broadcast_alone ns small =
    ap (λ (b : Bool). if b
    then (if is_small (joined_shape (ns ∷ [])) then Ok (joined_shape (ns ∷ [])) else Err SizeLimit)
    else Err ValueError) (all_alone ns (dimensions (ns ∷ []))) ∙
    (ap (λ (ms : List ℕ). if is_small ms then Ok ms else Err SizeLimit) (joined_alone ns) ∙
    ap (λ (b : Bool). if b then Ok ns else Err SizeLimit) small)

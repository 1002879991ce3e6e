-- The words of an array: taken one after the other in row-major order they are those of the definition.
use Rattle.std.proofs.Common.{◌≡◌, ℕ, zero, suc, ◌+◌, ◌-◌, ◌*◌, ◌/◌, ◌%◌, ◌<◌, ◌≤◌, Bool, true, false, List, [], ◌∷◌}
use Rattle.std.proofs.Common.{◌++◌, map, length, get_or, take, drop, reverse, refl, sym, ap, ◌∙◌, arith}
use Rattle.std.specs.Prelude.{ℤ}
use Rattle.std.specs.List.{flat_map, range_with_len}
use Rattle.std.proofs.Math.Nat.{mul-le-mul_left}
use Rattle.std.proofs.Math.Seq.{take-length}
use Rattle.std.proofs.lemmas.List.{reverse-append, length-reverse}
use Rattle.std.proofs.lemmas.Simd.{map-map}
use Rattle.std.proofs.lemmas.List.FromFn.{map-range_with_len_more}
use Rattle.std.proofs.lemmas.Nat.{div-mul-add, mod-mul-add, div_below, mod_below, div-add-mod'}
use Rattle.krn_base.specs.declared.kind.Kind.{Kind}
use Rattle.view_places.specs.Arrays.{element_count, indices, order_of}
use Rattle.np_file.specs.Npy.{word, place, words_of}
use Rattle.np_file.specs.Loading.{Plan, transposed, place_at, first_words}

-- ---- ranges

range-append : (a m n : ℕ) → range_with_len a (m + n) ≡ range_with_len a m ++ range_with_len (a + m) n
range-append a zero n = let e : a + 0 ≡ a = omega arith in let f : 0 + n ≡ n = omega arith in rw (e, f) refl
range-append a (suc m) n =
    let e : suc m + n ≡ suc (m + n) = omega arith in
    let f : a + 1 + m ≡ a + suc m = omega arith in
    ap (range_with_len a) e ∙ ap (λ (x : List ℕ). a ∷ x) (range-append (a + 1) m n) ∙
    ap (λ (b : ℕ). a ∷ (range_with_len (a + 1) m ++ range_with_len b n)) f

-- two functions that agree along a range, the second one from b on
pub map_along : {A : Type 0} (f g : ℕ → A) (a b n : ℕ) → ((r : ℕ) → r < n → f (a + r) ≡ g (b + r)) →
    map f (range_with_len a n) ≡ map g (range_with_len b n)
map_along f g a b zero same = refl
map_along {A = A} f g a b (suc n) same =
    let head : f a ≡ g b = ap f (omega arith) ∙ same 0 (omega arith) ∙ ap g (omega arith) in
    let next : (r : ℕ) → r < n → f (a + 1 + r) ≡ g (b + 1 + r) = λ r lt. ap f (omega arith) ∙
    same (r + 1) (omega arith) ∙ ap g (omega arith) in
    ap (λ (x : A). x ∷ map f (range_with_len (a + 1) n)) head ∙
    ap (λ (xs : List A). g b ∷ xs) (map_along f g (a + 1) (b + 1) n next)

map-range-append : {A : Type 0} (g : ℕ → A) (xs ys : List ℕ) → map g (xs ++ ys) ≡ map g xs ++ map g ys
map-range-append g [] ys = refl
map-range-append {A = A} g (x ∷ xs) ys = ap (λ (zs : List A). g x ∷ zs) (map-range-append g xs ys)

-- rows of c entries each, one after the other
rows_are : {A : Type 0} (f : ℕ → ℕ → A) (g : ℕ → A) (c a n : ℕ) → ((i r : ℕ) → r < c → f i r ≡ g (i * c + r)) →
    flat_map (λ i. map (f i) (range_with_len 0 c)) (range_with_len a n) ≡ map g (range_with_len (a * c) (n * c))
rows_are f g c a zero same = let e : 0 * c ≡ 0 = omega arith in rw e refl
rows_are {A = A} f g c a (suc n) same =
    let row : map (f a) (range_with_len 0 c) ≡ map g (range_with_len (a * c) c) =
    map_along (f a) g 0 (a * c) c (λ r lt. ap (f a) (omega arith) ∙ same a r lt) in
    let next : (a + 1) * c ≡ a * c + c = omega arith in
    let all : suc n * c ≡ c + n * c = omega arith in
    ap (λ (xs : List A). xs ++ flat_map (λ i. map (f i) (range_with_len 0 c)) (range_with_len (a + 1) n)) row
    ∙ ap (λ (xs : List A). map g (range_with_len (a * c) c) ++ xs)
    (rows_are f g c (a + 1) n same ∙ ap (λ (b : ℕ). map g (range_with_len b (n * c))) next)
    ∙ sym (map-range-append g (range_with_len (a * c) c) (range_with_len (a * c + c) (n * c)))
    ∙ ap (map g) (sym (ap (range_with_len (a * c)) all ∙ range-append (a * c) c (n * c)))

-- ---- the index of the element number k

index_at : List ℕ → ℕ → List ℕ
index_at [] k = []
index_at (n ∷ ns) k = k / element_count ns ∷ index_at ns (k % element_count ns)

indices_are : (ns : List ℕ) → indices ns ≡ map (index_at ns) (range_with_len 0 (element_count ns))
unfolding index_at
indices_are [] = refl
indices_are (n ∷ ns) =
    let c = element_count ns in
    let f : ℕ → ℕ → List ℕ = λ i r. i ∷ index_at ns r in
    let each : (i : ℕ) → map (λ index. i ∷ index) (indices ns) ≡ map (f i) (range_with_len 0 c) =
    λ i. ap (map (λ index. i ∷ index)) (indices_are ns) ∙
    map-map (λ (index : List ℕ). i ∷ index) (index_at ns) (range_with_len 0 c) in
    let same : (i r : ℕ) → r < c → f i r ≡ index_at (n ∷ ns) (i * c + r) =
    λ i r lt. rw (div-mul-add i c r lt, mod-mul-add i c r lt) refl in
    let zero_is : 0 * c ≡ 0 = omega arith in
    flat_map_ext (λ i. map (λ index. i ∷ index) (indices ns)) (λ i. map (f i) (range_with_len 0 c))
    (range_with_len 0 n) each
    ∙ rows_are f (index_at (n ∷ ns)) c 0 n same ∙
    ap (λ (b : ℕ). map (index_at (n ∷ ns)) (range_with_len b (n * c))) zero_is
  where
    flat_map_ext : {A : Type 0} (f g : ℕ → List A) (xs : List ℕ) → ((i : ℕ) → f i ≡ g i) → flat_map f xs ≡ flat_map g xs
    flat_map_ext f g [] same = refl
    flat_map_ext {A = A} f g (x ∷ xs) same = ap (λ (ys : List A). ys ++ flat_map f xs) (same x) ∙
        ap (λ (ys : List A). g x ++ ys) (flat_map_ext f g xs same)

positive : (n c k : ℕ) → k < n * c → 0 < c
positive n zero k lt = absurd (omega arith)
positive n (suc c) k lt = omega arith

row_major : (ns : List ℕ) (k : ℕ) → k < element_count ns → order_of ns (index_at ns k) ≡ k
unfolding index_at
row_major [] k lt = omega arith
row_major (n ∷ ns) k lt =
    let c = element_count ns in
    let some = positive n c k lt in
    let ih = row_major ns (k % c) (mod_below k c some) in
    ap (λ (x : ℕ). k / c * c + x) ih ∙ div-add-mod' k c

length-index_at : (ns : List ℕ) (k : ℕ) → length (index_at ns k) ≡ length ns
unfolding index_at
length-index_at [] k = refl
length-index_at (n ∷ ns) k = ap suc (length-index_at ns (k % element_count ns))

count-last : (ms : List ℕ) (n : ℕ) → element_count (ms ++ n ∷ []) ≡ element_count ms * n
count-last [] n = omega arith
count-last (m ∷ ms) n = ap (λ (x : ℕ). m * x) (count-last ms n) ∙ omega arith

order_of-last : (ms index : List ℕ) (n i : ℕ) → length index ≡ length ms →
    order_of (ms ++ n ∷ []) (index ++ i ∷ []) ≡ order_of ms index * n + i
order_of-last [] [] n i len = omega arith
order_of-last [] (j ∷ index) n i len = absurd (omega arith)
order_of-last (m ∷ ms) [] n i len = absurd (omega arith)
order_of-last (m ∷ ms) (j ∷ index) n i len =
    let ih = order_of-last ms index n i (omega arith) in
    let c = count-last ms n in
    rw (ih, c) (omega arith)

reverse-cons : (n : ℕ) (ns : List ℕ) → reverse (n ∷ ns) ≡ reverse ns ++ n ∷ []
reverse-cons n ns = reverse-append (n ∷ []) ns

column_major : (ns : List ℕ) (k : ℕ) → order_of (reverse ns) (reverse (index_at ns k)) ≡ transposed ns k
unfolding index_at transposed
column_major [] k = refl
column_major (n ∷ ns) k =
    let c = element_count ns in
    let ih = column_major ns (k % c) in
    let len : length (reverse (index_at ns (k % c))) ≡ length (reverse ns) = length-reverse (index_at ns (k % c)) ∙
    length-index_at ns (k % c) ∙ sym (length-reverse ns) in
    ap (λ (x : List ℕ). order_of x (reverse (k / c ∷ index_at ns (k % c)))) (reverse-cons n ns)
    ∙ ap (order_of (reverse ns ++ n ∷ [])) (reverse-cons (k / c) (index_at ns (k % c)))
    ∙ order_of-last (reverse ns) (reverse (index_at ns (k % c))) n (k / c) len
    ∙ ap (λ (x : ℕ). x * n + k / c) ih ∙ omega arith

place_is : (first_fastest : Bool) (ns : List ℕ) (k : ℕ) → k < element_count ns →
    place_at first_fastest ns k ≡ place first_fastest ns (index_at ns k)
place_is false ns k lt = sym (row_major ns k lt)
place_is true ns k lt = sym (column_major ns k)

pub words_are : (kind : Kind) (first_fastest : Bool) (ns elements : List ℕ) →
    map (λ k. word kind elements (place_at first_fastest ns k)) (range_with_len 0 (element_count ns)) ≡
    words_of kind first_fastest ns elements
words_are kind first_fastest ns elements =
    let w : List ℕ → ℤ = λ index. word kind elements (place first_fastest ns index) in
    let count = element_count ns in
    map_along (λ k. word kind elements (place_at first_fastest ns k)) (λ k. w (index_at ns k)) 0 0 count
    (λ r lt. let e : 0 + r ≡ r = omega arith in rw e (ap (word kind elements) (place_is first_fastest ns r lt)))
    ∙ sym (ap (map w) (indices_are ns) ∙ map-map w (index_at ns) (range_with_len 0 count))

-- ---- places are within the file

times_below : (n c i t : ℕ) → i < n → t < c → i + n * t < n * c
times_below n c i t lt lt' = let up : n * (t + 1) ≤ n * c = mul-le-mul_left n (omega arith) in omega arith

pub transposed_below : (ns : List ℕ) (k : ℕ) → k < element_count ns → transposed ns k < element_count ns
unfolding transposed
transposed_below [] k lt = omega arith
transposed_below (n ∷ ns) k lt =
    let c = element_count ns in
    let some = positive n c k lt in
    times_below n c (k / c) (transposed ns (k % c)) (div_below k c n some lt)
    (transposed_below ns (k % c) (mod_below k c some))

pub transposed_empty : (ns : List ℕ) (k : ℕ) → length ns ≡ 0 → 0 ≡ transposed ns k
unfolding transposed
transposed_empty [] k len = refl
transposed_empty (n ∷ ns) k len = absurd (omega arith)

divided : (n c : ℕ) → 0 < n → n * c / n ≡ c
divided n c some = ap (λ (x : ℕ). x / n) e ∙ div-mul-add c n 0 some
  where
    e : n * c ≡ c * n + 0
    e = omega arith

-- one step of the recursion, with the number of elements of the whole
pub transposed_step : (ns : List ℕ) (k count : ℕ) → 1 ≤ length ns → count ≡ element_count ns → k < count →
    (count / get_or ns 0 0 ≡ element_count (drop 1 ns)) ×
    (k / element_count (drop 1 ns) + get_or ns 0 0 * transposed (drop 1 ns) (k % element_count (drop 1 ns)) ≡
    transposed ns k)
unfolding transposed
transposed_step [] k count some is lt = absurd (omega arith)
transposed_step (n ∷ ns) k count some is lt =
    let positive_n : 0 < n = positive (element_count ns) n k (omega arith) in
    (ap (λ (x : ℕ). x / n) is ∙ divided n (element_count ns) positive_n, refl)

pub transposed_up : (ns : List ℕ) (k count result : ℕ) → 1 ≤ length ns → count ≡ element_count ns → k < count →
    result ≡ transposed (take (length ns - 1) (drop 1 ns)) (k % (count / get_or ns 0 0)) →
    k / (count / get_or ns 0 0) + get_or ns 0 0 * result ≡ transposed ns k
unfolding transposed
transposed_up [] k count result some is lt e = absurd (omega arith)
transposed_up (n ∷ ns) k count result some is lt e =
    let c = element_count ns in
    let s = transposed_step (n ∷ ns) k count some is lt in
    let row : count / n ≡ c = s.0 in
    let rest : take (suc (length ns) - 1) ns ≡ ns = ap (λ (x : ℕ). take x ns) (omega arith) ∙ take-length ns in
    let inner : result ≡ transposed ns (k % c) = e ∙ ap (λ (x : List ℕ). transposed x (k % (count / n))) rest ∙
    ap (λ (x : ℕ). transposed ns (k % x)) row in
    ap (λ (x : ℕ). k / x + n * result) row ∙ ap (λ (x : ℕ). k / c + n * x) inner

-- one more word
pub words_more : (plan : Plan) (k : ℕ) (now new : List ℤ) (z : ℤ) → new ≡ now ++ z ∷ [] →
    z ≡ word plan.kind plan.elements (place_at plan.first_fastest plan.shape k) → now ≡ first_words plan k →
    new ≡ first_words plan (k + 1)
words_more plan k now new z e is g =
    let f : ℕ → ℤ = λ i. word plan.kind plan.elements (place_at plan.first_fastest plan.shape i) in
    e ∙ ap (λ (xs : List ℤ). xs ++ z ∷ []) g ∙ ap (λ (x : ℤ). first_words plan k ++ x ∷ []) is ∙
    sym (map-range_with_len_more f 0 k k (omega arith))

-- The indices of a shape in row-major order: their number, their order, and lists that are made from them.
use Rattle.std.proofs.Common.{◌≡◌, ℕ, zero, suc, ◌+◌, ◌*◌, ◌<◌, ◌≤◌, List, [], ◌∷◌, ◌++◌, map, length, get_or, ◌-◌}
use Rattle.std.proofs.Common.{Bool, true, false, ltb, refl, sym, ap, ap₂, subst, ◌∙◌, arith, add-zero, length-append}
use Rattle.std.proofs.Common.{flat_map}
use Rattle.std.specs.List.{range_with_len}
use Rattle.std.proofs.lemmas.List.{map-append, length-map, get_or_append_left, get_or-append_right, get_or-map}
use Rattle.std.proofs.lemmas.Simd.{map-map}
use borrow.Author.Tests.{ltb-true, ltb-false}
use Rattle.std.proofs.lemmas.List.FromFn.{get_or-range_with_len}
use Rattle.std.proofs.Math.Nat.{mul-le-mul_right}
use mathlib.Core.Path.{fun_ext}
use Rattle.view_places.specs.Arrays.{element_count, indices, order_of, entry, Inside}

add-regroup : (a b c : ℕ) → a + (b + c) ≡ (a + b) + c
add-regroup a b c = omega arith

zero-plus : (n : ℕ) → n ≡ 0 + n
zero-plus n = omega arith

no-rows : (c : ℕ) → 0 + 0 * c ≡ 0
no-rows c = omega arith

-- the indices whose first number is i
abbrev pub row : List ℕ → ℕ → List (List ℕ)
row ns i = map (λ index. i ∷ index) (indices ns)

length-rows : (ns : List ℕ) (a n : ℕ) → length (indices ns) ≡ element_count ns →
    length (flat_map (row ns) (range_with_len a n)) ≡ n * element_count ns
length-rows ns a zero e = omega arith
length-rows ns a (suc n) e =
    omega (
      arith,
      length-append (row ns a) (flat_map (row ns) (range_with_len (a + 1) n)),
      length-map (indices ns) (λ index. a ∷ index),
      length-rows ns (a + 1) n e,
    )

pub length-indices : (ns : List ℕ) → length (indices ns) ≡ element_count ns
length-indices [] = refl
length-indices (n ∷ ns) = length-rows ns 0 n (length-indices ns)

pub order-below : (ns index : List ℕ) → Inside ns index → order_of ns index < element_count ns
order-below [] [] h = omega arith
order-below [] (i ∷ index) h = absurd h
order-below (n ∷ ns) [] h = absurd h
order-below (n ∷ ns) (i ∷ index) h =
    omega (
      arith,
      order-below ns index h.1,
      mul-le-mul_right {m = i + 1} {n = n} (element_count ns) (omega (arith, h.0)),
    )

row-at : (ns : List ℕ) (a n i o : ℕ) (d : List ℕ) → i < n → o < element_count ns →
    get_or (flat_map (row ns) (range_with_len a n)) (i * element_count ns + o) d ≡ get_or (row ns (a + i)) o d
row-at ns a zero i o d h k = absurd (omega arith)
row-at ns a (suc n) zero o d h k =
    let long : length (row ns a) ≡ element_count ns = length-map (indices ns) (λ index. a ∷ index) ∙
    length-indices ns in
    ap (λ m. get_or (flat_map (row ns) (range_with_len a (suc n))) m d) (omega arith) ∙
    get_or_append_left (row ns a) (flat_map (row ns) (range_with_len (a + 1) n)) d o (omega arith) ∙
    ap (λ m. get_or (row ns m) o d) (omega arith)
row-at ns a (suc n) (suc i) o d h k =
    let long : length (row ns a) ≡ element_count ns = length-map (indices ns) (λ index. a ∷ index) ∙
    length-indices ns in
    get_or-append_right (row ns a) (flat_map (row ns) (range_with_len (a + 1) n)) (element_count ns)
    (suc i * element_count ns + o) d long (omega arith) ∙
    ap (λ m. get_or (flat_map (row ns) (range_with_len (a + 1) n)) m d) (omega arith) ∙
    row-at ns (a + 1) n i o d (omega arith) k ∙ ap (λ m. get_or (row ns m) o d) (omega arith)

-- the index stands where its order says
pub index-at_order : (ns index d : List ℕ) → Inside ns index → get_or (indices ns) (order_of ns index) d ≡ index
index-at_order [] [] d h = refl
index-at_order [] (i ∷ index) d h = absurd h
index-at_order (n ∷ ns) [] d h = absurd h
index-at_order (n ∷ ns) (i ∷ index) d h =
    let below : order_of ns index < length (indices ns) =
    subst (λ m. order_of ns index < m) (sym (length-indices ns)) (order-below ns index h.1) in
    row-at ns 0 n i (order_of ns index) d h.0 (order-below ns index h.1) ∙
    get_or-map (λ rest. (0 + i) ∷ rest) (indices ns) (order_of ns index) d d below ∙
    ap (λ m. m ∷ get_or (indices ns) (order_of ns index) d) (omega arith) ∙
    ap (λ rest. i ∷ rest) (index-at_order ns index d h.1)

pub entry-map : {A : Type 0} (past : A) (f : List ℕ → A) (ns index : List ℕ) → Inside ns index →
    entry past ns (map f (indices ns)) index ≡ f index
entry-map past f ns index h =
    get_or-map f (indices ns) (order_of ns index) [] past
    (subst (λ m. order_of ns index < m) (sym (length-indices ns)) (order-below ns index h)) ∙
    ap f (index-at_order ns index [] h)

pub order-apart : (ns a b : List ℕ) → Inside ns a → Inside ns b → order_of ns a ≡ order_of ns b → a ≡ b
order-apart ns a b p q e = sym (index-at_order ns a [] p) ∙ ap (λ m. get_or (indices ns) m []) e ∙
    index-at_order ns b [] q

rows-same : {A : Type 0} (f g : List ℕ → A) (ns : List ℕ) (a n m : ℕ) → a + n ≤ m →
    ((i : ℕ) → i < m → map (λ index. f (i ∷ index)) (indices ns) ≡ map (λ index. g (i ∷ index)) (indices ns)) →
    map f (flat_map (row ns) (range_with_len a n)) ≡ map g (flat_map (row ns) (range_with_len a n))
rows-same f g ns a zero m h e = refl
rows-same f g ns a (suc n) m h e =
    map-append f (row ns a) (flat_map (row ns) (range_with_len (a + 1) n)) ∙
    ap (λ xs. xs ++ map f (flat_map (row ns) (range_with_len (a + 1) n)))
    (map-map f (λ index. a ∷ index) (indices ns) ∙ e a (omega arith) ∙
    sym (map-map g (λ index. a ∷ index) (indices ns))) ∙
    ap (λ xs. map g (row ns a) ++ xs) (rows-same f g ns (a + 1) n m (omega arith) e) ∙
    sym (map-append g (row ns a) (flat_map (row ns) (range_with_len (a + 1) n)))

-- two lists over the indices of a shape are the same where they agree at each index inside it
pub map-indices_same : {A : Type 0} (f g : List ℕ → A) (ns : List ℕ) →
    ((index : List ℕ) → Inside ns index → f index ≡ g index) → map f (indices ns) ≡ map g (indices ns)
map-indices_same f g [] e = ap (λ x. x ∷ []) (e [] tt)
map-indices_same f g (n ∷ ns) e =
    rows-same f g ns 0 n n (omega arith)
    (λ i h. map-indices_same (λ index. f (i ∷ index)) (λ index. g (i ∷ index)) ns
    (λ index inner. e (i ∷ index) (h, inner)))

pub range-append : (a m k : ℕ) → range_with_len a m ++ range_with_len (a + m) k ≡ range_with_len a (m + k)
range-append a zero k = ap₂ range_with_len (omega arith) (omega arith)
range-append a (suc m) k =
    let next : a + suc m ≡ (a + 1) + m = omega arith in
    let whole : suc (m + k) ≡ suc m + k = omega arith in
    ap (λ (x : ℕ). a ∷ (range_with_len (a + 1) m ++ range_with_len x k)) next ∙
    ap (λ (xs : List ℕ). a ∷ xs) (range-append (a + 1) m k) ∙ ap (range_with_len a) whole

map-range : (b a n : ℕ) → map (λ (x : ℕ). b + x) (range_with_len a n) ≡ range_with_len (b + a) n
map-range b a zero = refl
map-range b a (suc n) =
    let next : b + (a + 1) ≡ (b + a) + 1 = omega arith in
    ap (λ (xs : List ℕ). (b + a) ∷ xs) (map-range b (a + 1) n ∙ ap (λ (x : ℕ). range_with_len x n) next)

order-row : (b : ℕ) (n : ℕ) (ns : List ℕ) (i : ℕ) →
    map (order_of ns) (indices ns) ≡ range_with_len 0 (element_count ns) →
    map (λ (index : List ℕ). b + order_of (n ∷ ns) index) (row ns i) ≡
    range_with_len (b + i * element_count ns) (element_count ns)
order-row b n ns i e =
    map-map (λ (index : List ℕ). b + order_of (n ∷ ns) index) (λ (index : List ℕ). i ∷ index) (indices ns) ∙
    ap (λ (f : List ℕ → ℕ). map f (indices ns))
    (fun_ext (λ index. add-regroup b (i * element_count ns) (order_of ns index))) ∙
    sym (map-map (λ (x : ℕ). (b + i * element_count ns) + x) (order_of ns) (indices ns)) ∙
    ap (map (λ (x : ℕ). (b + i * element_count ns) + x)) e ∙
    map-range (b + i * element_count ns) 0 (element_count ns) ∙
    ap (λ (x : ℕ). range_with_len x (element_count ns)) (add-zero (b + i * element_count ns))

order-rows : (b n : ℕ) (ns : List ℕ) (a m : ℕ) → map (order_of ns) (indices ns) ≡ range_with_len 0 (element_count ns) →
    map (λ (index : List ℕ). b + order_of (n ∷ ns) index) (flat_map (row ns) (range_with_len a m)) ≡
    range_with_len (b + a * element_count ns) (m * element_count ns)
order-rows b n ns a zero e = let none : 0 ≡ 0 * element_count ns = omega arith in
    ap (range_with_len (b + a * element_count ns)) none
order-rows b n ns a (suc m) e =
    let f : List ℕ → ℕ = λ index. b + order_of (n ∷ ns) index in
    let c : ℕ = element_count ns in
    let next : b + (a + 1) * c ≡ (b + a * c) + c = omega arith in
    let whole : c + m * c ≡ suc m * c = omega arith in
    map-append f (row ns a) (flat_map (row ns) (range_with_len (a + 1) m)) ∙
    ap₂ (λ (xs ys : List ℕ). xs ++ ys) (order-row b n ns a e)
    (order-rows b n ns (a + 1) m e ∙ ap (λ (x : ℕ). range_with_len x (m * c)) next) ∙
    range-append (b + a * c) c (m * c) ∙ ap (range_with_len (b + a * c)) whole

-- the orders of the indices are the numbers from 0 on
pub orders : (ns : List ℕ) → map (order_of ns) (indices ns) ≡ range_with_len 0 (element_count ns)
orders [] = refl
orders (n ∷ ns) =
    ap (λ (f : List ℕ → ℕ). map f (indices (n ∷ ns))) (fun_ext (λ index. zero-plus (order_of (n ∷ ns) index))) ∙
    order-rows 0 n ns 0 n (orders ns) ∙
    ap (λ (x : ℕ). range_with_len x (n * element_count ns)) (no-rows (element_count ns))

pub orders_from : (b : ℕ) (ns : List ℕ) →
    map (λ (index : List ℕ). b + order_of ns index) (indices ns) ≡ range_with_len b (element_count ns)
orders_from b ns =
    sym (map-map (λ (x : ℕ). b + x) (order_of ns) (indices ns)) ∙ ap (map (λ (x : ℕ). b + x)) (orders ns) ∙
    map-range b 0 (element_count ns) ∙ ap (λ (x : ℕ). range_with_len x (element_count ns)) (add-zero b)

-- ---- the index that stands at an order
inside-rows : (ns : List ℕ) (m a n i : ℕ) → a + n ≤ m → i < n * element_count ns →
    ((k : ℕ) → k < element_count ns → Inside ns (get_or (indices ns) k [])) →
    Inside (m ∷ ns) (get_or (flat_map (row ns) (range_with_len a n)) i [])
inside-rows ns m a zero i h below rest = absurd (omega arith)
inside-rows ns m a (suc n) i h below rest =
    by_test (ltb i (element_count ns)) refl
    (λ (past : element_count ns ≤ i). inside-rows ns m (a + 1) n (i - element_count ns) (omega arith)
    (omega arith) rest)
  where
    long : length (row ns a) ≡ element_count ns
    long = length-map (indices ns) (λ index. a ∷ index) ∙ length-indices ns

    by_test : (t : Bool) → ltb i (element_count ns) ≡ t →
        (element_count ns ≤ i → Inside (m ∷ ns)
        (get_or (flat_map (row ns) (range_with_len (a + 1) n)) (i - element_count ns) [])) →
        Inside (m ∷ ns) (get_or (row ns a ++ flat_map (row ns) (range_with_len (a + 1) n)) i [])
    by_test true e again =
        let short : i < element_count ns = ltb-true i (element_count ns) e in
        let here : get_or (row ns a ++ flat_map (row ns) (range_with_len (a + 1) n)) i [] ≡
        a ∷ get_or (indices ns) i [] =
        get_or_append_left (row ns a) (flat_map (row ns) (range_with_len (a + 1) n)) [] i (omega (arith, long)) ∙
        get_or-map (λ (index : List ℕ). a ∷ index) (indices ns) i [] [] (omega (arith, length-indices ns)) in
        subst (Inside (m ∷ ns)) (sym here) (omega arith, rest i short)
    by_test false e again =
        let past : element_count ns ≤ i = ltb-false i (element_count ns) e in
        subst (Inside (m ∷ ns)) (sym (get_or-append_right (row ns a) (flat_map (row ns) (range_with_len (a + 1) n))
        (element_count ns) i [] long past))
        (again past)

pub inside-at_order : (ns : List ℕ) (i : ℕ) → i < element_count ns → Inside ns (get_or (indices ns) i [])
inside-at_order [] zero h = tt
inside-at_order [] (suc i) h = absurd (omega arith)
inside-at_order (n ∷ ns) i h = inside-rows ns n 0 n i (omega arith) h (inside-at_order ns)

pub order-at : (ns : List ℕ) (i : ℕ) → i < element_count ns → order_of ns (get_or (indices ns) i []) ≡ i
order-at ns i h =
    sym (get_or-map (order_of ns) (indices ns) i [] 0 (omega (arith, length-indices ns))) ∙
    ap (λ (xs : List ℕ). get_or xs i 0) (orders ns) ∙
    get_or-range_with_len 0 (element_count ns) i 0 h ∙ sym (zero-plus i)

-- A shape alone, and a list over it: its broadcast, and its spread to itself.
use Rattle.std.proofs.Common.{◌≡◌, ◌∙◌, ap, ap₂, sym, refl, arith, ℕ, ◌-◌, ◌<◌, Bool, true, false, not, ◌&&◌, List}
use Rattle.std.proofs.Common.{[], ◌∷◌}
use Rattle.std.proofs.Common.{map, length, get_or, drop, filter, eqb, eqb-true, Ok, Err}
use Rattle.std.specs.Prelude.{if◌then◌else◌}
use Rattle.std.specs.List.{list_all, range_with_len}
use Rattle.std.proofs.lemmas.List.{ext_get_or, get_or-map, get_or-reverse, get_or_default, length-map}
use Rattle.std.proofs.lemmas.List.Elements.{All-from_get_or}
use Rattle.std.proofs.lemmas.List.FromFn.{get_or-map-range_with_len, length-map-range_with_len}
use Rattle.std.proofs.lemmas.Simd.{map-map}
use Rattle.krn_base.specs.declared.fault.Fault.TheVariants.{SizeLimit, ValueError}
use Rattle.view_places.proofs.Broadcasts.{aligned-at, length-aligned, ok-joined}
use Rattle.view_places.proofs.Indices.{map-indices_same, orders}
use Rattle.view_places.proofs.Joins.{broadcast-ok}
use Rattle.view_places.proofs.Spreading.{each-spreads}
use Rattle.view_places.specs.Alignment.{all_fit}
use Rattle.view_places.specs.Arrays.{Inside, SpreadsTo, all_same, broadcast_of, clipped, dimensions, element_count}
use Rattle.view_places.specs.Arrays.{entry, extent_back, greatest_rank, indices, is_small, joined_shape, order_of}
use Rattle.view_places.specs.Arrays.{proper_extents}
use Rattle.view_places.specs.Laws.{EachSpreads, IsOwnBroadcast, StaysOverItsShape}

-- ---- broadcasts
all_fitting : (shapes : List (List ℕ)) (ms : List ℕ) → broadcast_of shapes ≡ Ok ms →
    all_fit shapes (dimensions shapes) ≡ true
all_fitting shapes ms e = by_test (list_all (λ k. all_same (proper_extents k shapes)) (dimensions shapes)) refl e
  where
    by_test : (t : Bool) → all_fit shapes (dimensions shapes) ≡ t →
        (if t then (if is_small (joined_shape shapes) then Ok (joined_shape shapes) else Err SizeLimit)
        else Err ValueError) ≡
        Ok ms → all_fit shapes (dimensions shapes) ≡ true
    by_test true p h = p
    by_test false p h = absurd (let q = h in cc)

pub each_spreads : EachSpreads
each_spreads shapes ms e =
    let found = ok-joined shapes ms e in
    All-from_get_or (λ from. SpreadsTo from ms) shapes []
    (λ j h. each-spreads shapes ms (all_fitting shapes ms e) (sym found.0) j h found.1)

-- one shape alone
one_same : (n : ℕ) → all_same (filter (λ m. not (eqb m 1)) (n ∷ [])) ≡ true
one_same n = by_test (eqb n 1)
  where
    by_test : (t : Bool) → all_same (if not t then n ∷ [] else []) ≡ true
    by_test true = refl
    by_test false = refl

one_extent : (n : ℕ) → get_or (filter (λ m. not (eqb m 1)) (n ∷ [])) 0 1 ≡ n
one_extent n = by_test (eqb n 1) refl
  where
    by_test : (t : Bool) → eqb n 1 ≡ t → get_or (if not t then n ∷ [] else []) 0 1 ≡ n
    by_test true e = sym (eqb-true n 1 e)
    by_test false e = refl

one_fits : (ns ks : List ℕ) → all_fit (ns ∷ []) ks ≡ true
one_fits ns [] = refl
one_fits ns (k ∷ ks) = ap₂ (λ (a b : Bool). a && b) (one_same (extent_back k ns)) (one_fits ns ks)

back_at : (ns : List ℕ) (j : ℕ) → j < length ns → extent_back (length ns - 1 - j) ns ≡ get_or ns j 0
back_at ns j h =
    let here : length ns - 1 - (length ns - 1 - j) ≡ j = omega arith in
    get_or-reverse ns (length ns - 1 - j) 1 (omega arith) ∙ ap (λ (i : ℕ). get_or ns i 1) here ∙
    get_or_default ns j 1 0 h

one_joined : (ns : List ℕ) → ns ≡ joined_shape (ns ∷ [])
one_joined ns =
    let rank : greatest_rank (ns ∷ []) ≡ length ns = omega arith in
    let long : length (dimensions (ns ∷ [])) ≡ length ns = length-aligned (greatest_rank (ns ∷ [])) ∙ rank in
    let count : length (joined_shape (ns ∷ [])) ≡ length ns =
    length-map (dimensions (ns ∷ [])) (λ k. get_or (proper_extents k (ns ∷ [])) 0 1) ∙ long in
    sym (ext_get_or 0 (joined_shape (ns ∷ [])) ns count
    (λ j h. get_or-map (λ k. get_or (proper_extents k (ns ∷ [])) 0 1) (dimensions (ns ∷ [])) j 0 0
    (omega (arith, h, count, long)) ∙
    ap (λ (k : ℕ). get_or (proper_extents k (ns ∷ [])) 0 1)
    (aligned-at (greatest_rank (ns ∷ [])) j (omega (arith, h, count, rank)) ∙ ap (λ (r : ℕ). r - 1 - j) rank) ∙
    one_extent (extent_back (length ns - 1 - j) ns) ∙ back_at ns j (omega (arith, h, count))))

pub own_broadcast : IsOwnBroadcast
own_broadcast ns small = broadcast-ok (ns ∷ []) ns (one_fits ns (dimensions (ns ∷ []))) (one_joined ns) small

-- ---- a list over its own shape
clipped_same : (ns index : List ℕ) → Inside ns index → clipped ns index ≡ index
clipped_same [] [] h = refl
clipped_same [] (i ∷ index) h = absurd h
clipped_same (n ∷ ns) [] h = absurd h
clipped_same (n ∷ ns) (i ∷ index) h = ap₂ (λ (k : ℕ) (ks : List ℕ). k ∷ ks) (by_test (eqb n 1) refl)
    (clipped_same ns index h.1)
  where
    by_test : (t : Bool) → eqb n 1 ≡ t → (if t then 0 else i) ≡ i
    by_test true e = omega (arith, h.0, eqb-true n 1 e)
    by_test false e = refl

pub own_spread : StaysOverItsShape
own_spread ns xs long =
    let none : length ns - length ns ≡ 0 = omega arith in
    let count : length (map (λ i. get_or xs i 0) (range_with_len 0 (element_count ns))) ≡ element_count ns =
    length-map-range_with_len (λ i. get_or xs i 0) 0 (element_count ns) in
    map-indices_same (λ index. entry 0 ns xs (clipped ns (drop (length ns - length ns) index)))
    (λ index. entry 0 ns xs index) ns
    (λ index inside. ap (entry 0 ns xs) (ap (λ (m : ℕ). clipped ns (drop m index)) none ∙
    clipped_same ns index inside)) ∙
    sym (map-map (λ i. get_or xs i 0) (order_of ns) (indices ns)) ∙
    ap (map (λ i. get_or xs i 0)) (orders ns) ∙
    ext_get_or 0 (map (λ i. get_or xs i 0) (range_with_len 0 (element_count ns))) xs (count ∙ sym long)
    (λ i h. get_or-map-range_with_len (λ i. get_or xs i 0) 0 (element_count ns) i i 0 (omega (arith, h, count))
    (omega arith))

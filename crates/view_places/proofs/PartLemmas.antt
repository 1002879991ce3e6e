-- Parts of a view: where their strides lead, and that they are views again.
use Rattle.std.proofs.Common.{◌≡◌, ℕ, zero, suc, ◌+◌, ◌-◌, ◌*◌, ◌^◌, ◌<◌, ◌≤◌, List, [], ◌∷◌, ◌++◌, map, length, get_or}
use Rattle.std.proofs.Common.{set, take, drop, replicate, reverse, insert, remove, refl, sym, ap, subst, ◌∙◌, arith}
use Rattle.std.proofs.Common.{Bool, true, false, T, leb, ltb, cond, Option, Some, None, ◌&&◌, ℤ, pos, negsuc, ◌+ℤ◌}
use Rattle.std.proofs.Common.{◌*ℤ◌, ◌≤ℤ◌, ◌<ℤ◌, IsTrue, unsigned_abs, leb→le, le→leb, mul_left_comm, mul-le-mul_left}
use Rattle.std.proofs.Common.{mul-le-mul_right}
use Rattle.std.specs.List.{list_all}
use borrow.Author.Differences.{up, down, sum_is_lem, product_is}
use borrow.Author.Tests.{leb-false, ltb-true}
use Rattle.std.proofs.lemmas.Int.{ints}
use Rattle.std.proofs.lemmas.List.{get_or-take, get_or-drop, take-append-le, drop-append-le, take_at, drop_at}
use Rattle.std.proofs.lemmas.List.{length-take-le, length-drop, length-reverse, replicate_more, reverse-reverse}
use Rattle.view_places.specs.Alignment.{Fits}
use Rattle.view_places.specs.Arrays.{element_count, indices, entry, is_small, Inside, clipped, position_of}
use Rattle.view_places.specs.Strides.{reach, led_to, place_at, strided, IsArrayShape, LeadsWithin, LeadsApart}
use Rattle.view_places.proofs.Fours.{reach-rank}
use Rattle.view_places.proofs.Indices.{entry-map, map-indices_same}
use Rattle.view_places.proofs.Reach.{length-inside, reach-append, reach-take, reach-insert, inside-insert}
use Rattle.view_places.proofs.Reach.{remove-insert, length-remove, reverse-cons, reach-reverse, inside-reverse}
use Rattle.view_places.proofs.Reach.{reach-missing, inside-clipped, reach-clipped, Still, count-append}
use Rattle.view_places.proofs.Shapes.{Limited, limited_in, limited_out, and-both, and-first, and-second}

-- ---- indices that are changed to indices of the whole
module _ (L : ℕ) (ns ms : List ℕ) (o p : ℤ) (ss ts : List ℤ) (change : List ℕ → List ℕ)
    (inner : (index : List ℕ) → Inside ms index → Inside ns (change index))
    (same : (index : List ℕ) → Inside ms index → led_to p ts index ≡ led_to o ss (change index)) where
  pub within-changed : LeadsWithin L ns o ss → LeadsWithin L ms p ts
  within-changed w index h = subst (λ (z : ℤ). (pos 0 ≤ℤ z) × (z <ℤ pos L)) (sym (same index h))
      (w (change index) (inner index h))

  pub apart-changed : ((a b : List ℕ) → Inside ms a → Inside ms b → change a ≡ change b → a ≡ b) → LeadsApart ns o ss →
      LeadsApart ms p ts
  apart-changed one d a b h k e = one a b h k
      (d (change a) (change b) (inner a h) (inner b k) (sym (same a h) ∙ e ∙ same b k))

  pub places-changed : strided p ts ms ≡ map (λ index. entry 0 ns (strided o ss ns) (change index)) (indices ms)
  places-changed =
      map-indices_same (place_at p ts) (λ index. entry 0 ns (strided o ss ns) (change index)) ms
      (λ index h. ap unsigned_abs (same index h) ∙ sym (entry-map 0 (place_at o ss) ns (change index) (inner index h)))

-- ---- limits of shapes
is-true : (b : Bool) → T b → b ≡ true
is-true true h = refl
is-true false h = absurd h

pub small_in : (ns : List ℕ) → Limited ns → element_count ns ≤ 2 ^ 22 → IsTrue (is_small ns)
small_in ns h k =
    is-true (list_all (λ n. leb n (2 ^ 22)) ns && leb (element_count ns) (2 ^ 22))
    (and-both (list_all (λ n. leb n (2 ^ 22)) ns) (leb (element_count ns) (2 ^ 22)) (limited_in ns h)
    (le→leb (element_count ns) (2 ^ 22) k))

pub small_limited : (ns : List ℕ) → IsTrue (is_small ns) → Limited ns
small_limited ns e = limited_out ns
    (and-first (list_all (λ n. leb n (2 ^ 22)) ns) (leb (element_count ns) (2 ^ 22)) (subst T (sym e) tt))

pub small_count : (ns : List ℕ) → IsTrue (is_small ns) → element_count ns ≤ 2 ^ 22
small_count ns e = leb→le (element_count ns) (2 ^ 22)
    (and-second (list_all (λ n. leb n (2 ^ 22)) ns) (leb (element_count ns) (2 ^ 22)) (subst T (sym e) tt))

limited-at : (ns : List ℕ) (axis : ℕ) → Limited ns → get_or ns axis 0 ≤ 2 ^ 22
limited-at [] axis h = omega arith
limited-at (n ∷ ns) zero h = h.0
limited-at (n ∷ ns) (suc axis) h = limited-at ns axis h.1

pub small-at : (ns : List ℕ) (axis : ℕ) → IsTrue (is_small ns) → get_or ns axis 0 ≤ 2 ^ 22
small-at ns axis e = limited-at ns axis (small_limited ns e)

-- ---- one dimension less
take-remove : (q axis : ℕ) (xs ys : List ℕ) → axis ≤ q → q < length xs →
    take q (remove xs axis ++ ys) ≡ remove (take (suc q) xs) axis
take-remove q axis [] ys h k = absurd (omega arith)
take-remove q zero (x ∷ xs) ys h k = take-append-le q xs ys (omega arith)
take-remove zero (suc axis) (x ∷ xs) ys h k = absurd (omega arith)
take-remove (suc q) (suc axis) (x ∷ xs) ys h k =
    ap (λ (zs : List ℕ). x ∷ zs) (take-remove q axis xs ys (omega arith) (omega arith))

drop-remove : (q axis : ℕ) (xs ys : List ℕ) → axis ≤ q → q < length xs →
    drop q (remove xs axis ++ ys) ≡ drop (suc q) xs ++ ys
drop-remove q axis [] ys h k = absurd (omega arith)
drop-remove q zero (x ∷ xs) ys h k = drop-append-le q xs ys (omega arith)
drop-remove zero (suc axis) (x ∷ xs) ys h k = absurd (omega arith)
drop-remove (suc q) (suc axis) (x ∷ xs) ys h k = drop-remove q axis xs ys (omega arith) (omega arith)

count-remove : (ns : List ℕ) (axis : ℕ) → axis < length ns →
    get_or ns axis 0 * element_count (remove ns axis) ≡ element_count ns
count-remove [] axis h = absurd (omega arith)
count-remove (n ∷ ns) zero h = refl
count-remove (n ∷ ns) (suc axis) h =
    mul_left_comm (get_or ns axis 0) n (element_count (remove ns axis)) ∙
    ap (λ (c : ℕ). n * c) (count-remove ns axis (omega arith))

limited-remove : (ns : List ℕ) (axis : ℕ) → Limited ns → Limited (remove ns axis)
limited-remove [] zero h = tt
limited-remove [] (suc axis) h = tt
limited-remove (n ∷ ns) zero h = h.1
limited-remove (n ∷ ns) (suc axis) h = (h.0, limited-remove ns axis h.1)

small-remove : (ns : List ℕ) (axis k : ℕ) → axis < length ns → k < get_or ns axis 0 → IsTrue (is_small ns) →
    IsTrue (is_small (remove ns axis))
small-remove ns axis k h i e =
    let c : ℕ = element_count (remove ns axis) in
    let one : 1 * c ≤ get_or ns axis 0 * c = mul-le-mul_right {m = 1} {n = get_or ns axis 0} c (omega arith) in
    let all : get_or ns axis 0 * c ≡ element_count ns = count-remove ns axis h in
    let few : element_count ns ≤ 2 ^ 22 = small_count ns e in
    small_in (remove ns axis) (limited-remove ns axis (small_limited ns e)) (omega arith)

module _ (rank axis k : ℕ) (extent : List ℕ) (is_shape : IsArrayShape rank extent) (four : length extent ≡ 4)
    (below : axis < rank) (inside : k < get_or (take rank extent) axis 0) where
  pub at-extents : take (rank - 1) (remove extent axis ++ 1 ∷ []) ≡ remove (take rank extent) axis
  at-extents =
      let up_again : suc (rank - 1) ≡ rank = omega arith in
      take-remove (rank - 1) axis extent (1 ∷ []) (omega arith) (omega (arith, is_shape.rank_fits)) ∙
      ap (λ (r : ℕ). remove (take r extent) axis) up_again

  at-unused : drop (rank - 1) (remove extent axis ++ 1 ∷ []) ≡ replicate (4 - (rank - 1)) 1
  at-unused =
      let up_again : suc (rank - 1) ≡ rank = omega arith in
      let more : (4 - rank) + 1 ≡ 4 - (rank - 1) = omega (arith, is_shape.rank_fits) in
      drop-remove (rank - 1) axis extent (1 ∷ []) (omega arith) (omega (arith, is_shape.rank_fits)) ∙
      ap (λ (r : ℕ). drop r extent ++ 1 ∷ []) up_again ∙ ap (λ (xs : List ℕ). xs ++ 1 ∷ []) is_shape.unused ∙
      replicate_more (4 - rank) 1 ∙ ap (λ (m : ℕ). replicate m 1) more

  pub at-shape : IsArrayShape (rank - 1) (remove extent axis ++ 1 ∷ [])
  at-shape =
      let long : length (take rank extent) ≡ rank = length-take-le rank extent (omega (arith, is_shape.rank_fits)) in
      record {
        rank_fits = omega (arith, is_shape.rank_fits);
        unused = at-unused;
        small = subst (λ (xs : List ℕ). IsTrue (is_small xs)) (sym at-extents)
            (small-remove (take rank extent) axis k (omega arith) inside is_shape.small);
      }

  module _ (o p : ℤ) (ss : List ℤ) (four_strides : length ss ≡ 4)
      (start : p ≡ o +ℤ (get_or ss axis (pos 0) *ℤ pos k)) where
    pub at-same : (index : List ℕ) → Inside (remove (take rank extent) axis) index →
        led_to p (remove ss axis ++ pos 0 ∷ []) index ≡ led_to o ss (insert index axis k)
    at-same index h =
        let long : length (take rank extent) ≡ rank = length-take-le rank extent (omega (arith, is_shape.rank_fits)) in
        let less : length (remove (take rank extent) axis) + 1 ≡ length (take rank extent) =
        length-remove (take rank extent) axis (omega arith) in
        let as_long : length index ≡ length (remove (take rank extent) axis) =
        length-inside (remove (take rank extent) axis) index h in
        let fewer : length (remove ss axis) + 1 ≡ length ss =
        length-remove ss axis (omega (arith, is_shape.rank_fits)) in
        let plain : reach (remove ss axis ++ pos 0 ∷ []) index ≡ reach (remove ss axis) index =
        reach-append (remove ss axis) (pos 0 ∷ []) index (omega (arith, is_shape.rank_fits)) in
        let whole : reach ss (insert index axis k) ≡ (get_or ss axis (pos 0) *ℤ pos k) +ℤ reach (remove ss axis) index =
        reach-insert ss index axis k (omega (arith, is_shape.rank_fits)) (omega arith) in
        omega (arith, ints, start, plain, whole)

  pub at-inner : (index : List ℕ) → Inside (remove (take rank extent) axis) index →
      Inside (take rank extent) (insert index axis k)
  at-inner index h =
      let long : length (take rank extent) ≡ rank = length-take-le rank extent (omega (arith, is_shape.rank_fits)) in
      inside-insert (take rank extent) index axis k (omega arith) inside h

  pub at-one : (a b : List ℕ) → Inside (remove (take rank extent) axis) a → Inside (remove (take rank extent) axis) b →
      insert a axis k ≡ insert b axis k → a ≡ b
  at-one a b h i e =
      let long : length (take rank extent) ≡ rank = length-take-le rank extent (omega (arith, is_shape.rank_fits)) in
      let less : length (remove (take rank extent) axis) + 1 ≡ length (take rank extent) =
      length-remove (take rank extent) axis (omega arith) in
      sym (remove-insert a axis k (omega (arith, length-inside (remove (take rank extent) axis) a h))) ∙
      ap (λ (xs : List ℕ). remove xs axis) e ∙
      remove-insert b axis k (omega (arith, length-inside (remove (take rank extent) axis) b i))

-- ---- reversed dimensions
limited-append : (ns ms : List ℕ) → Limited ns → Limited ms → Limited (ns ++ ms)
limited-append [] ms h k = k
limited-append (n ∷ ns) ms h k = (h.0, limited-append ns ms h.1 k)

limited-reverse : (ns : List ℕ) → Limited ns → Limited (reverse ns)
limited-reverse [] h = tt
limited-reverse (n ∷ ns) h = subst Limited (sym (reverse-cons n ns))
    (limited-append (reverse ns) (n ∷ []) (limited-reverse ns h.1) (h.0, tt))

count-reverse : (ns : List ℕ) → element_count (reverse ns) ≡ element_count ns
count-reverse [] = refl
count-reverse (n ∷ ns) =
    ap element_count (reverse-cons n ns) ∙ count-append (reverse ns) (n ∷ []) ∙
    ap (λ (c : ℕ). c * (n * 1)) (count-reverse ns) ∙ swapped n (element_count ns)
  where
    swapped : (n c : ℕ) → c * (n * 1) ≡ n * c
    swapped n c = omega arith

module _ (rank : ℕ) (extent : List ℕ) (is_shape : IsArrayShape rank extent) (four : length extent ≡ 4) where
  long-reverse : length (reverse (take rank extent)) ≡ rank
  long-reverse = length-reverse (take rank extent) ∙ length-take-le rank extent (omega (arith, is_shape.rank_fits))

  pub transposed-extents : take rank (reverse (take rank extent) ++ drop rank extent) ≡ reverse (take rank extent)
  transposed-extents = take_at (reverse (take rank extent)) (drop rank extent) rank long-reverse

  pub transposed-shape : IsArrayShape rank (reverse (take rank extent) ++ drop rank extent)
  transposed-shape =
      let few : element_count (take rank extent) ≤ 2 ^ 22 = small_count (take rank extent) is_shape.small in
      record {
        rank_fits = is_shape.rank_fits;
        unused = drop_at (reverse (take rank extent)) (drop rank extent) rank long-reverse ∙ is_shape.unused;
        small = subst (λ (xs : List ℕ). IsTrue (is_small xs)) (sym transposed-extents)
            (small_in (reverse (take rank extent))
            (limited-reverse (take rank extent) (small_limited (take rank extent) is_shape.small))
            (omega (arith, count-reverse (take rank extent))));
      }

  pub transposed-same : (o : ℤ) (ss : List ℤ) → length ss ≡ 4 → (index : List ℕ) →
      Inside (reverse (take rank extent)) index →
      led_to o (reverse (take rank ss) ++ drop rank ss) index ≡ led_to o ss (reverse index)
  transposed-same o ss four_strides index h =
      let as_long : length index ≡ length (reverse (take rank extent)) =
      length-inside (reverse (take rank extent)) index h in
      let is_rank : length index ≡ rank = as_long ∙ long-reverse in
      let back : length (reverse index) ≡ length index = length-reverse index in
      let front : length (take rank ss) ≡ rank = length-take-le rank ss (omega (arith, is_shape.rank_fits)) in
      let front_back : length (reverse (take rank ss)) ≡ length (take rank ss) = length-reverse (take rank ss) in
      ap (λ (z : ℤ). o +ℤ z)
      (reach-append (reverse (take rank ss)) (drop rank ss) index (omega arith) ∙
      ap (reach (reverse (take rank ss))) (sym (reverse-reverse index)) ∙
      reach-reverse (take rank ss) (reverse index) (omega arith) ∙ reach-take rank ss (reverse index) (omega arith))

  pub transposed-inner : (index : List ℕ) → Inside (reverse (take rank extent)) index →
      Inside (take rank extent) (reverse index)
  transposed-inner index h = inside-reverse (take rank extent) index h

pub reverse-one : (a b : List ℕ) → reverse a ≡ reverse b → a ≡ b
reverse-one a b e = sym (reverse-reverse a) ∙ ap reverse e ∙ reverse-reverse b

-- ---- another extent of one dimension
pub take-set-lt : (rank axis m : ℕ) (xs : List ℕ) → axis < rank → take rank (set xs axis m) ≡ set (take rank xs) axis m
take-set-lt zero axis m xs h = absurd (omega arith)
take-set-lt (suc rank) axis m [] h = refl
take-set-lt (suc rank) zero m (x ∷ xs) h = refl
take-set-lt (suc rank) (suc axis) m (x ∷ xs) h = ap (λ (ys : List ℕ). x ∷ ys) (take-set-lt rank axis m xs (omega arith))

pub limited-set : (ns : List ℕ) (axis m : ℕ) → m ≤ 2 ^ 22 → Limited ns → Limited (set ns axis m)
limited-set [] axis m h k = tt
limited-set (n ∷ ns) zero m h k = (h, k.1)
limited-set (n ∷ ns) (suc axis) m h k = (k.0, limited-set ns axis m h k.1)

pub count-set : (ns : List ℕ) (axis m : ℕ) → m ≤ get_or ns axis 0 → element_count (set ns axis m) ≤ element_count ns
count-set [] axis m h = omega arith
count-set (n ∷ ns) zero m h = mul-le-mul_right {m = m} {n = n} (element_count ns) h
count-set (n ∷ ns) (suc axis) m h = mul-le-mul_left n (count-set ns axis m h)

pub mul-add : (s a b : ℤ) → s *ℤ (a +ℤ b) ≡ (s *ℤ a) +ℤ (s *ℤ b)
mul-add s a b = omega (
  arith,
  ints,
  ap (λ (n : ℕ). up s * n) (sum_is_lem a b),
  ap (λ (n : ℕ). down s * n) (sum_is_lem a b),
)

pub mul-swap : (s t : ℤ) (k : ℕ) → s *ℤ (pos k *ℤ t) ≡ (s *ℤ t) *ℤ pos k
mul-swap s t k =
    omega (
      arith,
      ints,
      ap (λ (n : ℕ). up s * n) (product_is (pos k) t).0,
      ap (λ (n : ℕ). down s * n) (product_is (pos k) t).0,
      ap (λ (n : ℕ). up s * n) (product_is (pos k) t).1,
      ap (λ (n : ℕ). down s * n) (product_is (pos k) t).1,
      ap (λ (n : ℕ). n * k) (product_is s t).0,
      ap (λ (n : ℕ). n * k) (product_is s t).1,
    )

-- ---- spreading
one-past : (m k : ℕ) → ◌≡◌ {A = ℕ} (get_or (replicate m 1) k 1) 1
one-past zero k = refl
one-past (suc m) zero = refl
one-past (suc m) (suc k) = one-past m k

pub still-take : (rank : ℕ) (extent : List ℕ) (ss : List ℤ) → IsArrayShape rank extent → Still extent ss →
    Still (take rank extent) ss
still-take rank extent ss is_shape still axis e = still axis (by_rank (leb rank axis) refl)
  where
    past : rank ≤ axis → get_or extent axis 1 ≡ 1
    past h =
        let at : rank + (axis - rank) ≡ axis = omega arith in
        ap (λ (k : ℕ). get_or extent k 1) (sym at) ∙ sym (get_or-drop rank extent (axis - rank) 1) ∙
        ap (λ (xs : List ℕ). get_or xs (axis - rank) 1) is_shape.unused ∙ one-past (4 - rank) (axis - rank)

    by_rank : (t : Bool) → leb rank axis ≡ t → get_or extent axis 1 ≡ 1
    by_rank true h = past (leb→le rank axis (subst T (sym h) tt))
    by_rank false h = sym (get_or-take rank extent axis 1 (omega (arith, leb-false rank axis h))) ∙ e

inside-drop : (d : ℕ) (ms index : List ℕ) → Inside ms index → Inside (drop d ms) (drop d index)
inside-drop zero ms index h = h
inside-drop (suc d) [] [] h = tt
inside-drop (suc d) [] (i ∷ index) h = absurd h
inside-drop (suc d) (m ∷ ms) [] h = absurd h
inside-drop (suc d) (m ∷ ms) (i ∷ index) h = inside-drop d ms index h.1

module _ (ns ms : List ℕ) (ss : List ℤ) (still : Still ns ss) (d : ℕ) (is_d : d + length ns ≡ length ms)
    (few : length ms ≤ 4) (fits : Fits ns (drop d ms)) where
  pub spread-same : (o : ℤ) (index : List ℕ) → Inside ms index →
      led_to o (take 4 (replicate d (pos 0) ++ ss)) index ≡ led_to o ss (clipped ns (drop d index))
  spread-same o index h =
      let as_long : length index ≡ length ms = length-inside ms index h in
      ap (λ (z : ℤ). o +ℤ z)
      (reach-take 4 (replicate d (pos 0) ++ ss) index (omega arith) ∙ reach-missing d ss index ∙
      sym (reach-clipped ns ss (drop d index) still (omega (arith, length-drop d index))))

  pub spread-inner : (index : List ℕ) → Inside ms index → Inside ns (clipped ns (drop d index))
  spread-inner index h = inside-clipped ns (drop d ms) (drop d index) fits (omega (arith, length-drop d ms))
      (inside-drop d ms index h)

-- ---- a view's place at an index of four numbers
pub still-past : (rank : ℕ) (extent : List ℕ) (ss : List ℤ) → IsArrayShape rank extent → Still extent ss → (axis : ℕ) →
    rank ≤ axis → get_or ss axis (pos 0) ≡ pos 0
still-past rank extent ss is_shape still axis h =
    let at : rank + (axis - rank) ≡ axis = omega arith in
    still axis (ap (λ (k : ℕ). get_or extent k 1) (sym at) ∙ sym (get_or-drop rank extent (axis - rank) 1) ∙
    ap (λ (xs : List ℕ). get_or xs (axis - rank) 1) is_shape.unused ∙ one-past (4 - rank) (axis - rank))

module _ (rank L : ℕ) (extent : List ℕ) (o : ℤ) (ss : List ℤ) (is_shape : IsArrayShape rank extent)
    (still : Still extent ss) (w : LeadsWithin L (take rank extent) o ss) (at : List ℕ)
    (inside : Inside (take rank extent) (take rank at)) where
  pub led-ranked : led_to o ss at ≡ led_to o ss (take rank at)
  led-ranked = ap (λ (z : ℤ). o +ℤ z) (reach-rank rank ss at (still-past rank extent ss is_shape still))

  pub place-low : pos 0 ≤ℤ led_to o ss at
  place-low = subst (λ (z : ℤ). pos 0 ≤ℤ z) (sym led-ranked) (w (take rank at) inside).0

  pub place-high : led_to o ss at <ℤ pos L
  place-high = subst (λ (z : ℤ). z <ℤ pos L) (sym led-ranked) (w (take rank at) inside).1

  pub place-entry : (p : ℕ) → pos p ≡ led_to o ss at →
      p ≡ entry 0 (take rank extent) (strided o ss (take rank extent)) (take rank at)
  place-entry p e = ap unsigned_abs (e ∙ led-ranked) ∙
      sym (entry-map 0 (place_at o ss) (take rank extent) (take rank at) inside)

-- ---- subscripts
pub position-below : (n k : ℕ) (i : ℤ) → Some k ≡ position_of n i → k < n
position-below n k (pos i) e = by_test (ltb i n) refl e
  where
    by_test : (t : Bool) → ltb i n ≡ t → ◌≡◌ {A = Option ℕ} (Some k) (cond t (Some i) None) → k < n
    by_test true h g = let same : k ≡ i = cc in omega (arith, ltb-true i n h)
    by_test false h g = cc
position-below n k (negsuc i) e = by_test (ltb i n) refl e
  where
    by_test : (t : Bool) → ltb i n ≡ t → ◌≡◌ {A = Option ℕ} (Some k) (cond t (Some (n - 1 - i)) None) → k < n
    by_test true h g = let same : k ≡ n - 1 - i = cc in omega (arith, ltb-true i n h)
    by_test false h g = cc

pub ranks-fit : (r q : ℕ) (xs ys : List ℕ) → length xs ≡ 4 → length ys ≡ 4 → r ≤ 4 → q ≤ 4 →
    length (take r xs) ≤ length (take q ys) → r ≤ q
ranks-fit r q xs ys l k h i few =
    let first : length (take r xs) ≡ r = length-take-le r xs (omega arith) in
    let second : length (take q ys) ≡ q = length-take-le q ys (omega arith) in
    omega arith

pub small-is : (xs : List ℕ) (n : ℕ) → list_all (λ m. leb m (2 ^ 22)) xs ≡ true → n ≡ element_count xs →
    leb n (2 ^ 22) ≡ is_small xs
small-is xs n h e = ap (λ (k : ℕ). leb k (2 ^ 22)) e ∙ ap (λ (b : Bool). b && leb (element_count xs) (2 ^ 22)) (sym h)

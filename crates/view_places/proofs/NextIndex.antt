-- The index behind one: its order, where strides lead from it, and the dimension that moves.
use Rattle.std.proofs.Common.{◌≡◌, ℕ, zero, suc, ◌+◌, ◌-◌, ◌*◌, ◌<◌, ◌≤◌, List, [], ◌∷◌, length, get_or, take, drop}
use Rattle.std.proofs.Common.{replicate, refl, sym, ap, ap₂, subst, ◌∙◌, arith, Bool, true, false, eqb, cond, ◌&&◌}
use Rattle.std.proofs.Common.{eqb-true, ne_eqb, eq-eqb, leb, ◌≢◌, ◌^◌, ℤ, pos, ◌+ℤ◌, ◌-ℤ◌, ◌*ℤ◌}
use borrow.Author.Tests.{eqb-false}
use Rattle.std.proofs.lemmas.Int.{ints}
use Rattle.std.specs.List.{list_all}
use Rattle.std.proofs.lemmas.Bool.{leb-true}
use Rattle.view_places.specs.Arrays.{element_count, indices, order_of, entry, is_small, Inside}
use Rattle.view_places.specs.Stepping.{first_index, is_last, moving, next_index, axis_from, span, leaps_of, StandsAt}
use Rattle.view_places.specs.Strides.{reach, led_to, place_at, strided, IsArrayShape, LeadsWithin}
use Rattle.view_places.proofs.Contiguous.{order-origin, natural, length-strided}
use Rattle.view_places.proofs.Fours.{four-same}
use Rattle.view_places.proofs.Indices.{order-below, index-at_order, inside-at_order, order-at}
use Rattle.view_places.proofs.PartLemmas.{place-low, place-entry}
use Rattle.view_places.proofs.Reach.{Still, origin-inside, reach-origin}
use Rattle.view_places.proofs.Shapes.{count-take}

and-left : (a b : Bool) → (a && b) ≡ true → a ≡ true
and-left true b h = refl
and-left false b h = h

and-right : (a b : Bool) → (a && b) ≡ true → b ≡ true
and-right true b h = h
and-right false b h = cc

not-both : (a b : Bool) → (a && b) ≡ false → b ≡ true → a ≡ false
not-both true b h k = cc
not-both false b h k = refl

-- ---- orders
last-order : (ns index : List ℕ) → Inside ns index → is_last ns index ≡ true →
    order_of ns index + 1 ≡ element_count ns
last-order [] [] h e = refl
last-order [] (i ∷ index) h e = absurd h
last-order (n ∷ ns) [] h e = absurd h
last-order (n ∷ ns) (i ∷ index) h e =
    let here : i + 1 ≡ n = eqb-true (i + 1) n (and-left (eqb (i + 1) n) (is_last ns index) e) in
    let behind : order_of ns index + 1 ≡ element_count ns =
    last-order ns index h.1 (and-right (eqb (i + 1) n) (is_last ns index) e) in
    let whole : (i + 1) * element_count ns ≡ n * element_count ns = ap (λ (m : ℕ). m * element_count ns) here in
    omega arith

next-order : (ns index : List ℕ) → Inside ns index → is_last ns index ≡ false →
    Inside ns (next_index ns index) × (order_of ns (next_index ns index) ≡ order_of ns index + 1)
next-order [] index h e = cc
next-order (n ∷ ns) [] h e = absurd h
next-order (n ∷ ns) (i ∷ index) h e =
    by_test (is_last ns index) refl (λ other. next-order ns index h.1 other)
  where
    by_test : (t : Bool) → is_last ns index ≡ t →
        (is_last ns index ≡ false →
        Inside ns (next_index ns index) × (order_of ns (next_index ns index) ≡ order_of ns index + 1)) →
        Inside (n ∷ ns) (cond t ((i + 1) ∷ first_index ns) (i ∷ next_index ns index)) ×
        (order_of (n ∷ ns) (cond t ((i + 1) ∷ first_index ns) (i ∷ next_index ns index)) ≡
        (i * element_count ns + order_of ns index) + 1)
    by_test true p again =
        let apart : eqb (i + 1) n ≡ false = not-both (eqb (i + 1) n) (is_last ns index) e p in
        let more : i + 1 < n = below-other (i + 1) n (omega (arith, h.0)) (eqb-false (i + 1) n apart) in
        let some : 0 < element_count ns = omega (arith, order-below ns index h.1) in
        let behind : order_of ns index + 1 ≡ element_count ns = last-order ns index h.1 p in
        let start : order_of ns (first_index ns) ≡ 0 = order-origin ns in
        ((more, origin-inside ns some), omega arith)
      where
        below-other : (a b : ℕ) → a ≤ b → (a ≡ b → ⊥) → a < b
        below-other a b l o = omega arith
    by_test false p again =
        let rest : Inside ns (next_index ns index) ×
        (order_of ns (next_index ns index) ≡ order_of ns index + 1) = again p in
        ((h.0, rest.0), omega (arith, rest.1))

pub not-last : (ns : List ℕ) (k : ℕ) → k + 1 < element_count ns → is_last ns (get_or (indices ns) k []) ≡ false
not-last ns k h = by_test (is_last ns (get_or (indices ns) k [])) refl
  where
    by_test : (t : Bool) → is_last ns (get_or (indices ns) k []) ≡ t → t ≡ false
    by_test true p =
        absurd
        (omega (
          arith,
          last-order ns (get_or (indices ns) k []) (inside-at_order ns k (omega arith)) p,
          order-at ns k (omega arith),
        ))
    by_test false p = refl

-- the index with the next number
pub next-at : (ns : List ℕ) (k : ℕ) → k + 1 < element_count ns →
    next_index ns (get_or (indices ns) k []) ≡ get_or (indices ns) (k + 1) []
next-at ns k h =
    let inside : Inside ns (get_or (indices ns) k []) = inside-at_order ns k (omega arith) in
    let next : Inside ns (next_index ns (get_or (indices ns) k [])) ×
    (order_of ns (next_index ns (get_or (indices ns) k [])) ≡ order_of ns (get_or (indices ns) k []) + 1) =
    next-order ns (get_or (indices ns) k []) inside (not-last ns k h) in
    let number : order_of ns (next_index ns (get_or (indices ns) k [])) ≡ k + 1 =
    omega (arith, next.1, order-at ns k (omega arith)) in
    sym (index-at_order ns (next_index ns (get_or (indices ns) k [])) [] next.0) ∙
    ap (λ (i : ℕ). get_or (indices ns) i []) number

-- ---- where strides lead
last-reach : (ns index : List ℕ) (ss : List ℤ) → Inside ns index → is_last ns index ≡ true → reach ss index ≡ span ns ss
last-reach [] [] [] h e = refl
last-reach [] [] (s ∷ ss) h e = refl
last-reach [] (i ∷ index) ss h e = absurd h
last-reach (n ∷ ns) [] ss h e = absurd h
last-reach (n ∷ ns) (i ∷ index) [] h e = refl
last-reach (n ∷ ns) (i ∷ index) (s ∷ ss) h e =
    let here : i + 1 ≡ n = eqb-true (i + 1) n (and-left (eqb (i + 1) n) (is_last ns index) e) in
    let number : i ≡ n - 1 = omega arith in
    ap₂ (λ (m : ℕ) (z : ℤ). (s *ℤ pos m) +ℤ z) number
    (last-reach ns index ss h.1 (and-right (eqb (i + 1) n) (is_last ns index) e))

one-more : (s : ℤ) (i : ℕ) → s *ℤ pos (i + 1) ≡ (s *ℤ pos i) +ℤ s
one-more s i = omega (arith, ints)

next-reach : (ns index : List ℕ) (ss : List ℤ) → Inside ns index → is_last ns index ≡ false → length ss ≡ length ns →
    reach ss (next_index ns index) ≡ reach ss index +ℤ get_or (leaps_of ns ss) (moving ns index) (pos 0)
next-reach [] index ss h e l = cc
next-reach (n ∷ ns) [] ss h e l = absurd h
next-reach (n ∷ ns) (i ∷ index) [] h e l = absurd (omega arith)
next-reach (n ∷ ns) (i ∷ index) (s ∷ ss) h e l =
    by_test (is_last ns index) refl (λ other. next-reach ns index ss h.1 other (omega arith))
  where
    by_test : (t : Bool) → is_last ns index ≡ t →
        (is_last ns index ≡ false →
        reach ss (next_index ns index) ≡ reach ss index +ℤ get_or (leaps_of ns ss) (moving ns index) (pos 0)) →
        reach (s ∷ ss) (cond t ((i + 1) ∷ first_index ns) (i ∷ next_index ns index)) ≡
        ((s *ℤ pos i) +ℤ reach ss index) +ℤ
        get_or ((s -ℤ span ns ss) ∷ leaps_of ns ss) (cond t 0 (suc (moving ns index))) (pos 0)
    by_test true p again =
        let start : reach ss (first_index ns) ≡ pos 0 = reach-origin ss ns in
        let all : reach ss index ≡ span ns ss = last-reach ns index ss h.1 p in
        let here : s *ℤ pos (i + 1) ≡ (s *ℤ pos i) +ℤ s = one-more s i in
        omega (arith, ints, start, all, here)
    by_test false p again = omega (arith, ints, again p)

-- ---- places by number, over all four entries
inside-take : (r : ℕ) (ns index : List ℕ) → Inside ns index → Inside (take r ns) (take r index)
inside-take zero ns index h = tt
inside-take (suc r) [] [] h = tt
inside-take (suc r) [] (i ∷ index) h = absurd h
inside-take (suc r) (n ∷ ns) [] h = absurd h
inside-take (suc r) (n ∷ ns) (i ∷ index) h = (h.0, inside-take r ns index h.1)

order-take : (r m : ℕ) (ns index : List ℕ) → drop r ns ≡ replicate m 1 → Inside ns index →
    order_of (take r ns) (take r index) ≡ order_of ns index
order-take zero m ns index d h = omega (arith, order-below ns index h, count-take zero m ns d)
order-take (suc r) m [] [] d h = refl
order-take (suc r) m [] (i ∷ index) d h = absurd h
order-take (suc r) m (n ∷ ns) [] d h = absurd h
order-take (suc r) m (n ∷ ns) (i ∷ index) d h =
    ap₂ (λ (c o : ℕ). i * c + o) (sym (count-take r m ns d)) (order-take r m ns index d h.1)

module _ (rank L : ℕ) (extent : List ℕ) (o : ℤ) (ss : List ℤ) (is_shape : IsArrayShape rank extent)
    (still : Still extent ss) (w : LeadsWithin L (take rank extent) o ss) where
  place-number : (k : ℕ) → k < element_count extent →
      pos (get_or (strided o ss (take rank extent)) k 0) ≡ led_to o ss (get_or (indices extent) k [])
  place-number k h =
      let at : List ℕ = get_or (indices extent) k [] in
      let inside : Inside extent (get_or (indices extent) k []) = inside-at_order extent k h in
      let ranked : Inside (take rank extent) (take rank (get_or (indices extent) k [])) =
      inside-take rank extent (get_or (indices extent) k []) inside in
      let is_place : led_to o ss (get_or (indices extent) k []) ≡ pos (place_at o ss (get_or (indices extent) k [])) =
      natural (led_to o ss (get_or (indices extent) k []))
      (place-low rank L extent o ss is_shape still w (get_or (indices extent) k []) ranked) in
      let number : order_of (take rank extent) (take rank (get_or (indices extent) k [])) ≡ k =
      order-take rank (4 - rank) extent (get_or (indices extent) k []) is_shape.unused inside ∙ order-at extent k h in
      let there : place_at o ss (get_or (indices extent) k []) ≡
      entry 0 (take rank extent) (strided o ss (take rank extent)) (take rank (get_or (indices extent) k [])) =
      place-entry rank L extent o ss is_shape still w (get_or (indices extent) k []) ranked
      (place_at o ss (get_or (indices extent) k [])) (sym is_place) in
      ap pos (sym (there ∙ ap (λ (i : ℕ). get_or (strided o ss (take rank extent)) i 0) number)) ∙ sym is_place

  pub leap-leads : length ss ≡ length extent → (k : ℕ) → k + 1 < element_count extent →
      pos (get_or (strided o ss (take rank extent)) (k + 1) 0) ≡
      pos (get_or (strided o ss (take rank extent)) k 0) +ℤ get_or (leaps_of extent ss) (axis_from extent k) (pos 0)
  unfolding axis_from
  leap-leads l k h =
      let next : reach ss (next_index extent (get_or (indices extent) k [])) ≡
      reach ss (get_or (indices extent) k []) +ℤ
      get_or (leaps_of extent ss) (moving extent (get_or (indices extent) k [])) (pos 0) =
      next-reach extent (get_or (indices extent) k []) ss (inside-at_order extent k (omega arith))
      (not-last extent k h) l in
      let moved : reach ss (get_or (indices extent) (k + 1) []) ≡
      reach ss (get_or (indices extent) k []) +ℤ
      get_or (leaps_of extent ss) (moving extent (get_or (indices extent) k [])) (pos 0) =
      ap (reach ss) (sym (next-at extent k h)) ∙ next in
      omega (arith, ints, place-number (k + 1) h, place-number k (omega arith), moved)

-- ---- the odometer
pub first-stands : (extent : List ℕ) (at : List ℕ) → 0 < element_count extent → at ≡ first_index extent →
    at ≡ get_or (indices extent) 0 []
first-stands extent at some e =
    e ∙ sym (index-at_order extent (first_index extent) [] (origin-inside extent some)) ∙
    ap (λ (i : ℕ). get_or (indices extent) i []) (order-origin extent)

pub next-stands : (extent at next : List ℕ) (k : ℕ) → StandsAt extent at k → k + 1 < element_count extent →
    next ≡ next_index extent at → StandsAt extent next (k + 1)
next-stands extent at next k s h e = record {
  few = s.few;
  below = h;
  index = e ∙ ap (next_index extent) s.index ∙ next-at extent k h;
}

pub stands-inside : (extent at : List ℕ) (k : ℕ) → StandsAt extent at k → Inside extent at
stands-inside extent at k s = subst (Inside extent) (sym s.index) (inside-at_order extent k s.below)

pub stands-more : (extent at : List ℕ) (k : ℕ) → StandsAt extent at k → k + 1 < element_count extent →
    is_last extent at ≡ false
stands-more extent at k s h = ap (is_last extent) s.index ∙ not-last extent k h

pub stands-axis : (extent at : List ℕ) (k : ℕ) → StandsAt extent at k → moving extent at ≡ axis_from extent k
unfolding axis_from
stands-axis extent at k s = ap (moving extent) s.index

-- ---- four entries, written out
pub four-written : {A : Type 0} (xs : List A) (o : A) → length xs ≡ 4 →
    xs ≡ get_or xs 0 o ∷ get_or xs 1 o ∷ get_or xs 2 o ∷ get_or xs 3 o ∷ []
four-written xs o l = sym (four-same xs o (get_or xs 0 o) (get_or xs 1 o) (get_or xs 2 o)
    (get_or xs 3 o) l refl refl refl refl)

pub first-four : (ns : List ℕ) → length ns ≡ 4 → 0 ∷ 0 ∷ 0 ∷ 0 ∷ [] ≡ first_index ns
first-four ns l = ap first_index (sym (four-written ns 0 l))

-- the dimension that moves and the next index, by whether the numbers behind the first are their last
axis_by : Bool → Bool → Bool → ℕ
axis_by x y z =
    cond (x && (y && (z && true))) 0 (suc (cond (y && (z && true)) 0 (suc (cond (z && true) 0 (suc 0)))))

index_by : ℕ → ℕ → ℕ → ℕ → Bool → Bool → Bool → List ℕ
index_by i j k l x y z =
    cond (x && (y && (z && true))) ((i + 1) ∷ 0 ∷ 0 ∷ 0 ∷ [])
    (i ∷ cond (y && (z && true)) ((j + 1) ∷ 0 ∷ 0 ∷ [])
    (j ∷ cond (z && true) ((k + 1) ∷ 0 ∷ []) (k ∷ (l + 1) ∷ [])))

by-fourth : (i j k l : ℕ) (x y : Bool) →
    (3 ≡ axis_by x y false) × (i ∷ j ∷ k ∷ (l + 1) ∷ [] ≡ index_by i j k l x y false)
unfolding axis_by index_by
by-fourth i j k l true true = (refl, refl)
by-fourth i j k l true false = (refl, refl)
by-fourth i j k l false true = (refl, refl)
by-fourth i j k l false false = (refl, refl)

by-third : (i j k l : ℕ) (x : Bool) →
    (2 ≡ axis_by x false true) × (i ∷ j ∷ (k + 1) ∷ 0 ∷ [] ≡ index_by i j k l x false true)
unfolding axis_by index_by
by-third i j k l true = (refl, refl)
by-third i j k l false = (refl, refl)

by-second : (i j k l : ℕ) → (1 ≡ axis_by false true true) ×
    (i ∷ (j + 1) ∷ 0 ∷ 0 ∷ [] ≡ index_by i j k l false true true)
unfolding axis_by index_by
by-second i j k l = (refl, refl)

by-first : (i j k l : ℕ) → (0 ≡ axis_by true true true) × ((i + 1) ∷ 0 ∷ 0 ∷ 0 ∷ [] ≡ index_by i j k l true true true)
unfolding axis_by index_by
by-first i j k l = (refl, refl)

module _ (ns index : List ℕ) (four : length ns ≡ 4) (four_at : length index ≡ 4) where
  axis-tests : (x y z : Bool) → eqb (get_or index 1 0 + 1) (get_or ns 1 0) ≡ x →
      eqb (get_or index 2 0 + 1) (get_or ns 2 0) ≡ y → eqb (get_or index 3 0 + 1) (get_or ns 3 0) ≡ z →
      axis_by x y z ≡ moving ns index
  unfolding axis_by
  axis-tests x y z p q r =
      sym (ap₂ moving (four-written ns 0 four) (four-written index 0 four_at) ∙ (λ t. axis_by (p t) (q t) (r t)))

  index-tests : (x y z : Bool) → eqb (get_or index 1 0 + 1) (get_or ns 1 0) ≡ x →
      eqb (get_or index 2 0 + 1) (get_or ns 2 0) ≡ y → eqb (get_or index 3 0 + 1) (get_or ns 3 0) ≡ z →
      index_by (get_or index 0 0) (get_or index 1 0) (get_or index 2 0) (get_or index 3 0) x y z ≡ next_index ns index
  unfolding index_by
  index-tests x y z p q r =
      sym
      (ap₂ next_index (four-written ns 0 four) (four-written index 0 four_at) ∙
      (λ t. index_by (get_or index 0 0) (get_or index 1 0) (get_or index 2 0) (get_or index 3 0) (p t) (q t) (r t)))

  pub fourth-axis : get_or index 3 0 + 1 ≢ get_or ns 3 0 → 3 ≡ moving ns index
  fourth-axis h =
      (by-fourth 0 0 0 0 (eqb (get_or index 1 0 + 1) (get_or ns 1 0)) (eqb (get_or index 2 0 + 1) (get_or ns 2 0))).0 ∙
      axis-tests _ _ false refl refl (ne_eqb _ _ h)

  pub fourth-index : get_or index 3 0 + 1 ≢ get_or ns 3 0 →
      get_or index 0 0 ∷ get_or index 1 0 ∷ get_or index 2 0 ∷ (get_or index 3 0 + 1) ∷ [] ≡ next_index ns index
  fourth-index h =
      (by-fourth (get_or index 0 0) (get_or index 1 0) (get_or index 2 0) (get_or index 3 0)
      (eqb (get_or index 1 0 + 1) (get_or ns 1 0)) (eqb (get_or index 2 0 + 1) (get_or ns 2 0))).1 ∙
      index-tests _ _ false refl refl (ne_eqb _ _ h)

  module _ (last : get_or index 3 0 + 1 ≡ get_or ns 3 0) where
    pub third-axis : get_or index 2 0 + 1 ≢ get_or ns 2 0 → 2 ≡ moving ns index
    third-axis h =
        (by-third 0 0 0 0 (eqb (get_or index 1 0 + 1) (get_or ns 1 0))).0 ∙
        axis-tests _ false true refl (ne_eqb _ _ h) (eq-eqb _ _ last)

    pub third-index : get_or index 2 0 + 1 ≢ get_or ns 2 0 →
        get_or index 0 0 ∷ get_or index 1 0 ∷ (get_or index 2 0 + 1) ∷ 0 ∷ [] ≡ next_index ns index
    third-index h =
        (by-third (get_or index 0 0) (get_or index 1 0) (get_or index 2 0) (get_or index 3 0)
        (eqb (get_or index 1 0 + 1) (get_or ns 1 0))).1 ∙
        index-tests _ false true refl (ne_eqb _ _ h) (eq-eqb _ _ last)

    module _ (last_but_one : get_or index 2 0 + 1 ≡ get_or ns 2 0) where
      pub second-axis : get_or index 1 0 + 1 ≢ get_or ns 1 0 → 1 ≡ moving ns index
      second-axis h =
          (by-second 0 0 0 0).0 ∙
          axis-tests false true true (ne_eqb _ _ h) (eq-eqb _ _ last_but_one) (eq-eqb _ _ last)

      pub second-index : get_or index 1 0 + 1 ≢ get_or ns 1 0 →
          get_or index 0 0 ∷ (get_or index 1 0 + 1) ∷ 0 ∷ 0 ∷ [] ≡ next_index ns index
      second-index h =
          (by-second (get_or index 0 0) (get_or index 1 0) (get_or index 2 0) (get_or index 3 0)).1 ∙
          index-tests false true true (ne_eqb _ _ h) (eq-eqb _ _ last_but_one) (eq-eqb _ _ last)

      pub first-axis : get_or index 1 0 + 1 ≡ get_or ns 1 0 → 0 ≡ moving ns index
      first-axis h =
          (by-first 0 0 0 0).0 ∙
          axis-tests true true true (eq-eqb _ _ h) (eq-eqb _ _ last_but_one) (eq-eqb _ _ last)

      pub first-moves : get_or index 1 0 + 1 ≡ get_or ns 1 0 →
          (get_or index 0 0 + 1) ∷ 0 ∷ 0 ∷ 0 ∷ [] ≡ next_index ns index
      first-moves h =
          (by-first (get_or index 0 0) (get_or index 1 0) (get_or index 2 0) (get_or index 3 0)).1 ∙
          index-tests true true true (eq-eqb _ _ h) (eq-eqb _ _ last_but_one) (eq-eqb _ _ last)

leaps-written : (n0 n1 n2 n3 : ℕ) (s0 s1 s2 s3 x1 x2 x3 p q a b c d : ℤ) → x1 ≡ s1 *ℤ pos (n1 - 1) →
    x2 ≡ s2 *ℤ pos (n2 - 1) → x3 ≡ s3 *ℤ pos (n3 - 1) → q ≡ x2 +ℤ x3 → p ≡ x1 +ℤ q → a ≡ s0 -ℤ p → b ≡ s1 -ℤ q →
    c ≡ s2 -ℤ x3 → d ≡ s3 -ℤ pos 0 →
    a ∷ b ∷ c ∷ d ∷ [] ≡ leaps_of (n0 ∷ n1 ∷ n2 ∷ n3 ∷ []) (s0 ∷ s1 ∷ s2 ∷ s3 ∷ [])
leaps-written n0 n1 n2 n3 s0 s1 s2 s3 x1 x2 x3 p q a b c d e1 e2 e3 is_q is_p is_a is_b is_c is_d =
    let first : a ≡ s0 -ℤ (x1 +ℤ (x2 +ℤ (x3 +ℤ pos 0))) = omega (arith, ints, is_q, is_p, is_a) in
    let second : b ≡ s1 -ℤ (x2 +ℤ (x3 +ℤ pos 0)) = omega (arith, ints, is_q, is_b) in
    let third : c ≡ s2 -ℤ (x3 +ℤ pos 0) = omega (arith, ints, is_c) in
    (λ t. first t ∷ second t ∷ third t ∷ is_d t ∷ []) ∙
    (λ t. (s0 -ℤ (e1 t +ℤ (e2 t +ℤ (e3 t +ℤ pos 0)))) ∷ (s1 -ℤ (e2 t +ℤ (e3 t +ℤ pos 0))) ∷
    (s2 -ℤ (e3 t +ℤ pos 0)) ∷ (s3 -ℤ pos 0) ∷ [])

pub four-leaps : (ns : List ℕ) (ss : List ℤ) (x1 x2 x3 p q a b c d : ℤ) → length ns ≡ 4 → length ss ≡ 4 →
    x1 ≡ get_or ss 1 (pos 0) *ℤ pos (get_or ns 1 0 - 1) → x2 ≡ get_or ss 2 (pos 0) *ℤ pos (get_or ns 2 0 - 1) →
    x3 ≡ get_or ss 3 (pos 0) *ℤ pos (get_or ns 3 0 - 1) → q ≡ x2 +ℤ x3 → p ≡ x1 +ℤ q →
    a ≡ get_or ss 0 (pos 0) -ℤ p → b ≡ get_or ss 1 (pos 0) -ℤ q → c ≡ get_or ss 2 (pos 0) -ℤ x3 →
    d ≡ get_or ss 3 (pos 0) -ℤ pos 0 → a ∷ b ∷ c ∷ d ∷ [] ≡ leaps_of ns ss
four-leaps ns ss x1 x2 x3 p q a b c d l k e1 e2 e3 is_q is_p is_a is_b is_c is_d =
    leaps-written (get_or ns 0 0) (get_or ns 1 0) (get_or ns 2 0) (get_or ns 3 0) (get_or ss 0 (pos 0))
    (get_or ss 1 (pos 0)) (get_or ss 2 (pos 0)) (get_or ss 3 (pos 0)) x1 x2 x3 p q a b c d e1 e2 e3 is_q is_p is_a is_b
    is_c is_d ∙ sym (ap₂ leaps_of (four-written ns 0 l) (four-written ss (pos 0) k))

small-count : (ns : List ℕ) → is_small ns ≡ true → element_count ns ≤ 2 ^ 22
small-count ns h =
    leb-true (element_count ns) (2 ^ 22)
    (and-right (list_all (λ n. leb n (2 ^ 22)) ns) (leb (element_count ns) (2 ^ 22)) h)

-- ---- the first place and the number of places
module _ (rank L : ℕ) (extent : List ℕ) (o : ℤ) (ss : List ℤ) (is_shape : IsArrayShape rank extent)
    (still : Still extent ss) (w : LeadsWithin L (take rank extent) o ss) where
  pub count-places : length (strided o ss (take rank extent)) ≡ element_count extent
  count-places =
      length-strided o ss (take rank extent) ∙ sym (count-take rank (4 - rank) extent is_shape.unused)

  pub few-places : element_count extent ≤ 2 ^ 22
  few-places =
      omega (arith, small-count (take rank extent) is_shape.small, count-take rank (4 - rank) extent is_shape.unused)

  pub first-place : 0 < length (strided o ss (take rank extent)) →
      pos (get_or (strided o ss (take rank extent)) 0 0) ≡ o
  first-place some =
      let here : 0 < element_count extent = omega (arith, count-places) in
      let start : led_to o ss (get_or (indices extent) 0 []) ≡ led_to o ss (first_index extent) =
      ap (led_to o ss) (sym (first-stands extent (first_index extent) here refl)) in
      omega (arith, ints, place-number rank L extent o ss is_shape still w 0 here, start, reach-origin ss extent)

-- Each shape of a broadcast spreads to the result.
use Rattle.std.proofs.Common.{◌≡◌, ℕ, zero, suc, ◌-◌, ◌<◌, ◌≤◌, List, [], ◌∷◌, map, length, get_or, sym}
use Rattle.std.proofs.Common.{ap, subst, ◌∙◌, arith, Bool, true, ◌⊎◌, Ok}
use Rattle.std.specs.List.{list_all, All, AllPass}
use Rattle.std.proofs.lemmas.List.{get_or-map, get_or-reverse, length-map, get_or_default, ext_get_or}
use Rattle.std.proofs.lemmas.List.Elements.{All-from_get_or}
use Rattle.std.proofs.lemmas.List.Sums.{AllPass-from_list_all, list_all-from_AllPass}
use Rattle.view_places.specs.Alignment.{all_fit}
use Rattle.view_places.specs.Arrays.{extent_back, proper_extents, all_same, greatest_rank, dimensions, joined_shape}
use Rattle.view_places.specs.Arrays.{broadcast_of, is_small, SpreadsTo}
use Rattle.view_places.proofs.Broadcasts.{aligned, length-aligned, aligned-at}
use Rattle.view_places.proofs.Joins.{broadcast-ok}
use Rattle.view_places.proofs.OneDimension.{met-first, pair-joins}

rank-below : (shapes : List (List ℕ)) (i : ℕ) → i < length shapes → length (get_or shapes i []) ≤ greatest_rank shapes
rank-below [] i h = absurd (omega arith)
rank-below (ns ∷ shapes) zero h = omega arith
rank-below (ns ∷ shapes) (suc i) h = omega (arith, rank-below shapes i (omega arith))

-- the extent of the dimension that stands k before the last one, counted from the first
back-at : (ms : List ℕ) (j : ℕ) → j < length ms → extent_back (length ms - 1 - j) ms ≡ get_or ms j 0
back-at ms j h =
    let here : length ms - 1 - (length ms - 1 - j) ≡ j = omega arith in
    get_or-reverse ms (length ms - 1 - j) 1 (omega arith) ∙ ap (λ (i : ℕ). get_or ms i 1) here ∙
    get_or_default ms j 1 0 h

module _ (shapes : List (List ℕ)) where
  joined-at : (j : ℕ) → j < greatest_rank shapes →
      get_or (joined_shape shapes) j 0 ≡ get_or (proper_extents (greatest_rank shapes - 1 - j) shapes) 0 1
  joined-at j h =
      let long : length (dimensions shapes) ≡ greatest_rank shapes = length-aligned (greatest_rank shapes) in
      get_or-map (λ (k : ℕ). get_or (proper_extents k shapes) 0 1) (dimensions shapes) j 0 0 (omega arith) ∙
      ap (λ (k : ℕ). get_or (proper_extents k shapes) 0 1) (aligned-at (greatest_rank shapes) j h)

  joined-long : length (joined_shape shapes) ≡ greatest_rank shapes
  joined-long =
      length-map (dimensions shapes) (λ (k : ℕ). get_or (proper_extents k shapes) 0 1) ∙
      length-aligned (greatest_rank shapes)

  module _ (fits : all_fit shapes (dimensions shapes) ≡ true) (i : ℕ) (within : i < length shapes) where
    -- in a dimension a shape has 1 or the result's extent
    one-or-joined : (j : ℕ) → j < greatest_rank shapes →
        (extent_back (greatest_rank shapes - 1 - j) (get_or shapes i []) ≡ 1) ⊎
        (extent_back (greatest_rank shapes - 1 - j) (get_or shapes i []) ≡ get_or (joined_shape shapes) j 0)
    one-or-joined j h =
        let rank : ℕ = greatest_rank shapes in
        let k : ℕ = rank - 1 - j in
        let long : length (aligned rank) ≡ rank = length-aligned rank in
        let all : AllPass (λ (n : ℕ). all_same (proper_extents n shapes)) (aligned rank) =
        AllPass-from_list_all (λ (n : ℕ). all_same (proper_extents n shapes)) (aligned rank) fits in
        let same : all_same (proper_extents k shapes) ≡ true =
        subst (λ (n : ℕ). all_same (proper_extents n shapes) ≡ true) (aligned-at rank j h) (all j 0 (omega arith)) in
        let here : get_or (map (extent_back k) shapes) i 1 ≡ extent_back k (get_or shapes i []) =
        get_or-map (extent_back k) shapes i [] 1 within in
        let many : i < length (map (extent_back k) shapes) = omega (arith, length-map shapes (extent_back k)) in
        subst (λ (x : ℕ). (x ≡ 1) ⊎ (x ≡ get_or (joined_shape shapes) j 0)) here
        (subst (λ (y : ℕ). (get_or (map (extent_back k) shapes) i 1 ≡ 1) ⊎
        (get_or (map (extent_back k) shapes) i 1 ≡ y))
        (sym (joined-at j h)) (met-first (map (extent_back k) shapes) i many same))

module _ (shapes : List (List ℕ)) (ms : List ℕ) (fits : all_fit shapes (dimensions shapes) ≡ true)
    (same : ms ≡ joined_shape shapes) (i : ℕ) (within : i < length shapes) where
  long : length ms ≡ greatest_rank shapes
  long = ap length same ∙ joined-long shapes

  pair_rank : greatest_rank (get_or shapes i [] ∷ ms ∷ []) ≡ length ms
  pair_rank = omega (arith, rank-below shapes i within, long)

  pair-at : (j : ℕ) → j < length ms →
      (all_same (proper_extents (length ms - 1 - j) (get_or shapes i [] ∷ ms ∷ [])) ≡ true) ×
      (get_or (proper_extents (length ms - 1 - j) (get_or shapes i [] ∷ ms ∷ [])) 0 1 ≡
      extent_back (length ms - 1 - j) ms)
  pair-at j h =
      let is_k : greatest_rank shapes - 1 - j ≡ length ms - 1 - j = omega (arith, long) in
      let last : get_or (joined_shape shapes) j 0 ≡ extent_back (length ms - 1 - j) ms =
      ap (λ (xs : List ℕ). get_or xs j 0) (sym same) ∙ sym (back-at ms j h) in
      pair-joins (extent_back (length ms - 1 - j) (get_or shapes i [])) (extent_back (length ms - 1 - j) ms)
      (subst (λ (y : ℕ). (extent_back (length ms - 1 - j) (get_or shapes i []) ≡ 1) ⊎
      (extent_back (length ms - 1 - j) (get_or shapes i []) ≡ y)) last
      (subst (λ (k : ℕ). (extent_back k (get_or shapes i []) ≡ 1) ⊎
      (extent_back k (get_or shapes i []) ≡ get_or (joined_shape shapes) j 0)) is_k
      (one-or-joined shapes fits i within j (omega (arith, long)))))

  pair_fits : all_fit (get_or shapes i [] ∷ ms ∷ []) (dimensions (get_or shapes i [] ∷ ms ∷ [])) ≡ true
  pair_fits =
      let p : ℕ → Bool = λ k. all_same (proper_extents k (get_or shapes i [] ∷ ms ∷ [])) in
      let count : length (aligned (length ms)) ≡ length ms = length-aligned (length ms) in
      ap (λ (r : ℕ). list_all p (aligned r)) pair_rank ∙
      list_all-from_AllPass p (aligned (length ms))
      (All-from_get_or (λ (k : ℕ). p k ≡ true) (aligned (length ms)) 0
      (λ j h. subst (λ (k : ℕ). p k ≡ true) (sym (aligned-at (length ms) j (omega arith))) (pair-at j (omega arith)).0))

  pair_joined : joined_shape (get_or shapes i [] ∷ ms ∷ []) ≡ ms
  pair_joined =
      let count : length (joined_shape (get_or shapes i [] ∷ ms ∷ [])) ≡ length ms =
      joined-long (get_or shapes i [] ∷ ms ∷ []) ∙ pair_rank in
      ext_get_or 0 (joined_shape (get_or shapes i [] ∷ ms ∷ [])) ms count
      (λ j h. joined-at (get_or shapes i [] ∷ ms ∷ []) j (omega (arith, pair_rank)) ∙
      ap (λ (r : ℕ). get_or (proper_extents (r - 1 - j) (get_or shapes i [] ∷ ms ∷ [])) 0 1) pair_rank ∙
      (pair-at j (omega arith)).1 ∙ back-at ms j (omega arith))

  pub each-spreads : is_small ms ≡ true → broadcast_of (get_or shapes i [] ∷ ms ∷ []) ≡ Ok ms
  each-spreads small = broadcast-ok (get_or shapes i [] ∷ ms ∷ []) ms pair_fits (sym pair_joined) small

pub all-spread : {A : Type 0} (f : A → List ℕ) (xs : List A) (ms : List ℕ) →
    all_fit (map f xs) (dimensions (map f xs)) ≡ true → ms ≡ joined_shape (map f xs) → is_small ms ≡ true →
    All (λ x. SpreadsTo (f x) ms) xs
all-spread f xs ms fits same small k d h =
    let many : k < length (map f xs) = omega (arith, length-map xs f) in
    subst (λ (ns : List ℕ). broadcast_of (ns ∷ ms ∷ []) ≡ Ok ms) (get_or-map f xs k d [] h)
    (each-spreads (map f xs) ms fits same k many small)

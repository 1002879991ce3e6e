-- The broadcast of two shapes, dimension by dimension.
use Rattle.std.proofs.Common.{◌≡◌, ℕ, suc, ◌+◌, ◌-◌, ◌<◌, ◌≤◌, max, List, [], ◌∷◌, ◌++◌, map, filter, length}
use Rattle.std.proofs.Common.{get_or, set, take, drop, replicate, reverse, refl, sym, ap, subst, ◌∙◌, arith, Bool, true}
use Rattle.std.proofs.Common.{false, eqb, cond, not, inl, inr, ◌⊎◌, IsTrue, Ok, Err, Result, zero-add}
use Rattle.std.specs.List.{list_all, range_with_len}
use borrow.Author.Tests.{eqb-true}
use Rattle.std.proofs.lemmas.List.{get_or-map, get_or-reverse, length-reverse, length-map, length-take-le, length-drop}
use Rattle.std.proofs.lemmas.List.{get_or-drop, take_more, map_push, set_at, get_or_default, get_or-take, get_or_past}
use Rattle.std.proofs.lemmas.List.FromFn.{get_or-range_with_len, length-range_with_len}
use Rattle.view_places.specs.Alignment.{Fits, FitsTo}
use Rattle.view_places.specs.Arrays.{extent_back, proper_extents, all_same, greatest_rank, dimensions, joined_shape}
use Rattle.view_places.specs.Arrays.{broadcast_of, is_small}
use Rattle.krn_base.specs.declared.fault.Fault.{Fault}
use Rattle.krn_base.specs.declared.fault.Fault.TheVariants.{ValueError, SizeLimit}

-- the aligned dimensions of a rank
abbrev pub aligned : ℕ → List ℕ
aligned rank = reverse (range_with_len 0 rank)

pub length-aligned : (rank : ℕ) → length (aligned rank) ≡ rank
length-aligned rank = length-reverse (range_with_len 0 rank) ∙ length-range_with_len 0 rank

pub aligned-at : (rank axis : ℕ) → axis < rank → get_or (aligned rank) axis 0 ≡ rank - 1 - axis
aligned-at rank axis h =
    let long : length (range_with_len 0 rank) ≡ rank = length-range_with_len 0 rank in
    get_or-reverse (range_with_len 0 rank) axis 0 (omega arith) ∙
    ap (λ (n : ℕ). get_or (range_with_len 0 rank) (n - 1 - axis) 0) long ∙
    get_or-range_with_len 0 rank (rank - 1 - axis) 0 (omega arith) ∙ zero-add (rank - 1 - axis)

-- one more extent in place of a 1
pub extent-more : (f : ℕ → ℕ) (rank axis : ℕ) (extent : List ℕ) → axis < rank → rank ≤ 4 →
    extent ≡ map f (take axis (aligned rank)) ++ replicate (4 - axis) 1 →
    set extent axis (f (rank - 1 - axis)) ≡ map f (take (axis + 1) (aligned rank)) ++ replicate (4 - (axis + 1)) 1
extent-more f rank axis extent h k e =
    let long : length (aligned rank) ≡ rank = length-aligned rank in
    let next : 4 - axis ≡ suc (4 - (axis + 1)) = omega arith in
    let front : length (map f (take axis (aligned rank))) ≡ axis = length-map (take axis (aligned rank)) f ∙
    length-take-le axis (aligned rank) (omega arith) in
    let one_more : take (axis + 1) (aligned rank) ≡ take axis (aligned rank) ++ get_or (aligned rank) axis 0 ∷ [] =
    take_more (aligned rank) axis 0 (omega arith) in
    let rest : List ℕ = replicate (4 - (axis + 1)) 1 in
    ap (λ (xs : List ℕ). set xs axis (f (rank - 1 - axis)))
    (e ∙ ap (λ (m : ℕ). map f (take axis (aligned rank)) ++ replicate m 1) next) ∙
    set_at (map f (take axis (aligned rank))) 1 rest (f (rank - 1 - axis)) axis front ∙
    regroup (map f (take axis (aligned rank))) (f (rank - 1 - axis)) rest ∙
    ap (λ (xs : List ℕ). xs ++ rest)
    (ap (λ (n : ℕ). map f (take axis (aligned rank)) ++ f n ∷ []) (sym (aligned-at rank axis h)) ∙
    sym (map_push f (take axis (aligned rank)) (get_or (aligned rank) axis 0)) ∙ ap (map f) (sym one_more))
  where
    regroup : (xs : List ℕ) (y : ℕ) (ys : List ℕ) → xs ++ y ∷ ys ≡ (xs ++ y ∷ []) ++ ys
    regroup [] y ys = refl
    regroup (x ∷ xs) y ys = ap (λ (zs : List ℕ). x ∷ zs) (regroup xs y ys)

-- ---- what a broadcast to one of the two shapes says
fits-by-place : (ns ms : List ℕ) → length ns ≡ length ms →
    ((i : ℕ) → i < length ns → (get_or ns i 0 ≡ 1) ⊎ (get_or ns i 0 ≡ get_or ms i 0)) → Fits ns ms
fits-by-place [] ms l h = tt
fits-by-place (n ∷ ns) [] l h = absurd (omega arith)
fits-by-place (n ∷ ns) (m ∷ ms) l h =
    (h 0 (omega arith), fits-by-place ns ms (omega arith) (λ i k. h (suc i) (omega arith)))

first-proper : (n m : ℕ) (t : Bool) → eqb n 1 ≡ t →
    (n ≡ 1) ⊎ (n ≡ get_or (cond (not t) (n ∷ filter (λ x. not (eqb x 1)) (m ∷ []))
    (filter (λ x. not (eqb x 1)) (m ∷ []))) 0 1)
first-proper n m true e = inl (eqb-true n 1 e)
first-proper n m false e = inr refl

pub joined-at : (ns ms : List ℕ) (j : ℕ) → j < max (length ns) (length ms) →
    get_or (joined_shape (ns ∷ ms ∷ [])) j 0 ≡
    get_or (proper_extents (max (length ns) (length ms) - 1 - j) (ns ∷ ms ∷ [])) 0 1
joined-at ns ms j h =
    let rank : greatest_rank (ns ∷ ms ∷ []) ≡ max (length ns) (length ms) = omega arith in
    let long : length (aligned (greatest_rank (ns ∷ ms ∷ []))) ≡ greatest_rank (ns ∷ ms ∷ []) =
    length-aligned (greatest_rank (ns ∷ ms ∷ [])) in
    get_or-map (λ k. get_or (proper_extents k (ns ∷ ms ∷ [])) 0 1) (dimensions (ns ∷ ms ∷ [])) j 0 0 (omega arith) ∙
    ap (λ (k : ℕ). get_or (proper_extents k (ns ∷ ms ∷ [])) 0 1)
    (aligned-at (greatest_rank (ns ∷ ms ∷ [])) j (omega arith) ∙ ap (λ (r : ℕ). r - 1 - j) rank)

pub fits-joined : (ns ms : List ℕ) → joined_shape (ns ∷ ms ∷ []) ≡ ms → FitsTo ns ms
fits-joined ns ms e =
    let long : length (joined_shape (ns ∷ ms ∷ [])) ≡ greatest_rank (ns ∷ ms ∷ []) =
    length-map (dimensions (ns ∷ ms ∷ [])) (λ k. get_or (proper_extents k (ns ∷ ms ∷ [])) 0 1) ∙
    length-aligned (greatest_rank (ns ∷ ms ∷ [])) in
    let same : length (joined_shape (ns ∷ ms ∷ [])) ≡ length ms = ap length e in
    let few : length ns ≤ length ms = omega arith in
    record {
      rank = few;
      extents = fits-by-place ns (drop (length ms - length ns) ms)
          (omega (arith, length-drop (length ms - length ns) ms)) (λ i h. at_place ns ms e few i h);
    }
  where
    moved : (a b c d : ℕ) → a ≡ b → d ≡ c → (a ≡ 1) ⊎ (a ≡ c) → (b ≡ 1) ⊎ (b ≡ d)
    moved a b c d p q (inl h) = inl (sym p ∙ h)
    moved a b c d p q (inr h) = inr (sym p ∙ h ∙ sym q)

    at_place : (ns ms : List ℕ) → joined_shape (ns ∷ ms ∷ []) ≡ ms → length ns ≤ length ms → (i : ℕ) → i < length ns →
        (get_or ns i 0 ≡ 1) ⊎ (get_or ns i 0 ≡ get_or (drop (length ms - length ns) ms) i 0)
    at_place ns ms e few i h =
        let d : ℕ = length ms - length ns in
        let k : ℕ = max (length ns) (length ms) - 1 - (d + i) in
        let is_k : length ns - 1 - k ≡ i = omega arith in
        let here : extent_back k ns ≡ get_or ns i 0 =
        get_or-reverse ns k 1 (omega arith) ∙ ap (λ (x : ℕ). get_or ns x 1) is_k ∙ get_or_default ns i 1 0 h in
        let there : get_or (drop d ms) i 0 ≡ get_or (proper_extents k (ns ∷ ms ∷ [])) 0 1 =
        get_or-drop d ms i 0 ∙ ap (λ (xs : List ℕ). get_or xs (d + i) 0) (sym e) ∙
        joined-at ns ms (d + i) (omega arith) in
        moved (extent_back k ns) (get_or ns i 0) (get_or (proper_extents k (ns ∷ ms ∷ [])) 0 1)
        (get_or (drop d ms) i 0) here there
        (first-proper (extent_back k ns) (extent_back k ms) (eqb (extent_back k ns) 1) refl)

pub ok-joined : (shapes : List (List ℕ)) (ms : List ℕ) → broadcast_of shapes ≡ Ok ms →
    (joined_shape shapes ≡ ms) × IsTrue (is_small ms)
ok-joined shapes ms e = by_tests (list_all (λ k. all_same (proper_extents k shapes)) (dimensions shapes)) refl
    (is_small (joined_shape shapes)) refl e
  where
    by_tests : (a : Bool) → list_all (λ k. all_same (proper_extents k shapes)) (dimensions shapes) ≡ a → (b : Bool) →
        is_small (joined_shape shapes) ≡ b →
        ◌≡◌ {A = Result (List ℕ) Fault} (cond a (cond b (Ok (joined_shape shapes)) (Err SizeLimit)) (Err ValueError))
        (Ok ms) → (joined_shape shapes ≡ ms) × IsTrue (is_small ms)
    by_tests true p true q h = let same : joined_shape shapes ≡ ms = cc in
        (same, subst (λ (xs : List ℕ). is_small xs ≡ true) same q)
    by_tests true p false q h = cc
    by_tests false p b q h = cc

-- ---- one dimension
pub back-inside : (rank back i : ℕ) (extent : List ℕ) → length extent ≡ 4 → rank ≤ 4 → back < rank →
    i ≡ rank - 1 - back → get_or extent i 0 ≡ extent_back back (take rank extent)
back-inside rank back i extent four few h e =
    let long : length (take rank extent) ≡ rank = length-take-le rank extent (omega arith) in
    let same : length (take rank extent) - 1 - back ≡ i = omega arith in
    sym
    (get_or-reverse (take rank extent) back 1 (omega arith) ∙ ap (λ (k : ℕ). get_or (take rank extent) k 1) same ∙
    get_or-take rank extent i 1 (omega arith) ∙ get_or_default extent i 1 0 (omega arith))

pub back-missing : (rank back : ℕ) (extent : List ℕ) → length extent ≡ 4 → rank ≤ 4 → rank ≤ back →
    1 ≡ extent_back back (take rank extent)
back-missing rank back extent four few h =
    let long : length (take rank extent) ≡ rank = length-take-le rank extent (omega arith) in
    sym (get_or_past (reverse (take rank extent)) back 1 (omega (arith, length-reverse (take rank extent))))

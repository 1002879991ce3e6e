-- The loop over the aligned dimensions of shapes.
use Rattle.std.proofs.Common.{◌≡◌, ℕ, zero, suc, ◌+◌, ◌-◌, ◌<◌, ◌≤◌, List, ◌++◌, map, length}
use Rattle.std.proofs.Common.{get_or, set, take, drop, replicate, refl, sym, ap, ◌∙◌, ◌^◌, arith, Bool, true, false}
use Rattle.std.proofs.Common.{cond, ◌&&◌, Ok, Err, Option, Some, None, leb}
use Rattle.std.specs.List.{list_all}
use Rattle.std.proofs.lemmas.List.{take_all, take_at, drop_at, length-map, take-append-drop}
use Rattle.std.proofs.lemmas.List.Folds.{list_all_at, list_all_more, list_all-append}
use Rattle.view_places.specs.Alignment.{one_extent, all_fit}
use Rattle.view_places.specs.Arrays.{element_count, extent_back, proper_extents, all_same, greatest_rank, dimensions}
use Rattle.view_places.specs.Arrays.{joined_shape, broadcast_of, is_small}
use Rattle.krn_base.specs.declared.fault.Fault.TheVariants.{ValueError, SizeLimit}
use Rattle.view_places.proofs.OneDimension.{others}
use Rattle.view_places.proofs.Shapes.{count-take}
use Rattle.view_places.proofs.Broadcasts.{aligned, length-aligned, aligned-at, extent-more}

pub none-apart : (es : List ℕ) → None ≡ one_extent es → all_same (others es) ≡ false
none-apart es e = by_test (all_same (others es)) (get_or (others es) 0 1) e
  where
    by_test : (t : Bool) (x : ℕ) → ◌≡◌ {A = Option ℕ} None (cond t (Some x) None) → t ≡ false
    by_test true x e = cc
    by_test false x e = refl

some-joined : (es : List ℕ) (x : ℕ) → Some x ≡ one_extent es →
    (all_same (others es) ≡ true) × (x ≡ get_or (others es) 0 1)
some-joined es x e = by_test (all_same (others es)) (get_or (others es) 0 1) x e
  where
    by_test : (t : Bool) (y x : ℕ) → ◌≡◌ {A = Option ℕ} (Some x) (cond t (Some y) None) → (t ≡ true) × (x ≡ y)
    by_test true y x e = (refl, cc)
    by_test false y x e = cc

-- the extents so far are those of the first dimensions, and those fit
module _ (shapes : List (List ℕ)) (rank : ℕ) (is_rank : rank ≡ greatest_rank shapes) where
  same_dims : dimensions shapes ≡ aligned rank
  same_dims = ap aligned (sym is_rank)

  module _ (axis : ℕ) (below : axis < rank) where
    proper-is : proper_extents (get_or (aligned rank) axis 0) shapes ≡ proper_extents (rank - 1 - axis) shapes
    proper-is = ap (λ (k : ℕ). proper_extents k shapes) (aligned-at rank axis below)

    pub joined-none : None ≡ one_extent (map (extent_back (rank - 1 - axis)) shapes) →
        all_fit shapes (dimensions shapes) ≡ false
    joined-none e =
        let long : length (aligned rank) ≡ rank = length-aligned rank in
        ap (all_fit shapes) same_dims ∙
        list_all_at (λ k. all_same (proper_extents k shapes)) (aligned rank) axis 0 (omega arith)
        (ap all_same proper-is ∙ none-apart (map (extent_back (rank - 1 - axis)) shapes) e)

    module _ (x : ℕ) (e : Some x ≡ one_extent (map (extent_back (rank - 1 - axis)) shapes)) where
      pub joined-fits : all_fit shapes (take axis (aligned rank)) ≡ true →
          all_fit shapes (take (axis + 1) (aligned rank)) ≡ true
      joined-fits h =
          let long : length (aligned rank) ≡ rank = length-aligned rank in
          list_all_more (λ k. all_same (proper_extents k shapes)) (aligned rank) axis 0 (omega arith) ∙
          ap (λ (t : Bool). t && all_same (proper_extents (get_or (aligned rank) axis 0) shapes)) h ∙
          ap all_same proper-is ∙ (some-joined (map (extent_back (rank - 1 - axis)) shapes) x e).0

      pub joined-extent : (extent : List ℕ) → rank ≤ 4 →
          extent ≡ map (λ (k : ℕ). get_or (proper_extents k shapes) 0 1) (take axis (aligned rank)) ++
          replicate (4 - axis) 1 →
          set extent axis x ≡ map (λ (k : ℕ). get_or (proper_extents k shapes) 0 1) (take (axis + 1) (aligned rank)) ++
          replicate (4 - (axis + 1)) 1
      joined-extent extent few h =
          ap (set extent axis) (some-joined (map (extent_back (rank - 1 - axis)) shapes) x e).1 ∙
          extent-more (λ (k : ℕ). get_or (proper_extents k shapes) 0 1) rank axis extent below few h

  pub joined-all : all_fit shapes (take rank (aligned rank)) ≡ true → all_fit shapes (dimensions shapes) ≡ true
  joined-all h =
      let long : length (aligned rank) ≡ rank = length-aligned rank in
      ap (all_fit shapes) (same_dims ∙ sym (take_all rank (aligned rank) (omega arith))) ∙ h

  module _ (extent : List ℕ)
      (e : extent ≡ map (λ (k : ℕ). get_or (proper_extents k shapes) 0 1) (take rank (aligned rank)) ++
      replicate (4 - rank) 1) where
    whole_front : map (λ (k : ℕ). get_or (proper_extents k shapes) 0 1) (take rank (aligned rank)) ≡ joined_shape shapes
    whole_front =
        let long : length (aligned rank) ≡ rank = length-aligned rank in
        ap (map (λ (k : ℕ). get_or (proper_extents k shapes) 0 1))
        (take_all rank (aligned rank) (omega arith) ∙ sym same_dims)

    front-long : length (joined_shape shapes) ≡ rank
    front-long =
        length-map (dimensions shapes) (λ (k : ℕ). get_or (proper_extents k shapes) 0 1) ∙ ap length same_dims ∙
        length-aligned rank

    written : extent ≡ joined_shape shapes ++ replicate (4 - rank) 1
    written = e ∙ ap (λ (xs : List ℕ). xs ++ replicate (4 - rank) 1) whole_front

    pub joined-front : take rank extent ≡ joined_shape shapes
    joined-front = ap (take rank) written ∙ take_at (joined_shape shapes) (replicate (4 - rank) 1) rank front-long

    pub joined-unused : drop rank extent ≡ replicate (4 - rank) 1
    joined-unused = ap (drop rank) written ∙ drop_at (joined_shape shapes) (replicate (4 - rank) 1) rank front-long

pub broadcast-value : (shapes : List (List ℕ)) →
    list_all (λ k. all_same (proper_extents k shapes)) (dimensions shapes) ≡ false →
    broadcast_of shapes ≡ Err ValueError
broadcast-value shapes h = ap (λ (t : Bool). cond t
    (cond (is_small (joined_shape shapes)) (Ok (joined_shape shapes)) (Err SizeLimit)) (Err ValueError)) h

limited-ones : (m : ℕ) → list_all (λ n. leb n (2 ^ 22)) (replicate m 1) ≡ true
limited-ones zero = refl
limited-ones (suc m) = limited-ones m

pub small-four : (r m : ℕ) (extent : List ℕ) → drop r extent ≡ replicate m 1 →
    is_small extent ≡ is_small (take r extent)
small-four r m extent d =
    let parts : list_all (λ n. leb n (2 ^ 22)) extent ≡ list_all (λ n. leb n (2 ^ 22)) (take r extent) =
    ap (list_all (λ n. leb n (2 ^ 22))) (sym (take-append-drop r extent)) ∙
    list_all-append (λ n. leb n (2 ^ 22)) (take r extent) (drop r extent) ∙
    ap (λ (t : Bool). list_all (λ n. leb n (2 ^ 22)) (take r extent) && t)
    (ap (list_all (λ n. leb n (2 ^ 22))) d ∙ limited-ones m) ∙
    and-true (list_all (λ n. leb n (2 ^ 22)) (take r extent)) in
    ap (λ (t : Bool). t && leb (element_count extent) (2 ^ 22)) parts ∙
    ap (λ (c : ℕ). list_all (λ n. leb n (2 ^ 22)) (take r extent) && leb c (2 ^ 22)) (count-take r m extent d)
  where
    and-true : (b : Bool) → (b && true) ≡ b
    and-true true = refl
    and-true false = refl

module _ (shapes : List (List ℕ)) (ms : List ℕ) (fits : all_fit shapes (dimensions shapes) ≡ true)
    (same : ms ≡ joined_shape shapes) where
  pub broadcast-ok : is_small ms ≡ true → broadcast_of shapes ≡ Ok ms
  broadcast-ok small =
      ap (λ (t : Bool). cond t (cond (is_small (joined_shape shapes)) (Ok (joined_shape shapes)) (Err SizeLimit))
      (Err ValueError)) fits ∙
      ap (λ (xs : List ℕ). cond (is_small xs) (Ok xs) (Err SizeLimit)) (sym same) ∙
      ap (λ (t : Bool). cond t (Ok ms) (Err SizeLimit)) small

  pub broadcast-limit : is_small ms ≡ false → broadcast_of shapes ≡ Err SizeLimit
  broadcast-limit small =
      ap (λ (t : Bool). cond t (cond (is_small (joined_shape shapes)) (Ok (joined_shape shapes)) (Err SizeLimit))
      (Err ValueError)) fits ∙
      ap (λ (xs : List ℕ). cond (is_small xs) (Ok xs) (Err SizeLimit)) (sym same) ∙
      ap (λ (t : Bool). cond t (Ok ms) (Err SizeLimit)) small

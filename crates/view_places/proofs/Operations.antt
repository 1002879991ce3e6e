-- What each operation builds is a view again, of the places that its definition gives.
use Rattle.std.proofs.Common.{◌≡◌, ℕ, ◌-◌, ◌<◌, ◌≤◌, List, [], ◌∷◌, ◌++◌, length, get_or, take, drop, replicate}
use Rattle.std.proofs.Common.{reverse, insert, remove, sym, ap, subst, ◌∙◌, arith, ℤ, pos, ◌+ℤ◌, ◌*ℤ◌}
use Rattle.view_places.specs.Alignment.{FitsTo}
use Rattle.view_places.specs.Arrays.{at_index, transposed, spread, Inside, clipped}
use Rattle.view_places.specs.Strides.{led_to, strided, IsArrayShape, LeadsWithin, LeadsApart}
use Rattle.std.proofs.lemmas.List.{length-take-le}
use Rattle.view_places.proofs.PartLemmas.{within-changed, apart-changed, places-changed, at-extents, at-shape, at-same}
use Rattle.view_places.proofs.PartLemmas.{at-inner, at-one, transposed-extents, transposed-shape, transposed-same}
use Rattle.view_places.proofs.PartLemmas.{transposed-inner, reverse-one, still-take, spread-same, spread-inner}
use Rattle.view_places.proofs.Reach.{Still}

module _ (rank axis k L : ℕ) (extent E : List ℕ) (o p : ℤ) (ss S : List ℤ) (is_shape : IsArrayShape rank extent)
    (four : length extent ≡ 4) (four_strides : length ss ≡ 4)
    (below : axis < rank) (inside : k < get_or (take rank extent) axis 0) (e : E ≡ remove extent axis ++ 1 ∷ [])
    (s : S ≡ remove ss axis ++ pos 0 ∷ [])
    (start : p ≡ o +ℤ (get_or ss axis (pos 0) *ℤ pos k)) where
  pub at_view-shape : IsArrayShape (rank - 1) E
  at_view-shape = subst (λ (xs : List ℕ). IsArrayShape (rank - 1) xs) (sym e)
      (at-shape rank axis k extent is_shape four below inside)

  pub at_view-extents : take (rank - 1) E ≡ remove (take rank extent) axis
  at_view-extents = ap (take (rank - 1)) e ∙ at-extents rank axis k extent is_shape four below inside

  pub at_view-within : LeadsWithin L (take rank extent) o ss → LeadsWithin L (take (rank - 1) E) p S
  at_view-within w =
      subst (λ (xs : List ℕ). LeadsWithin L xs p S) (sym at_view-extents)
      (subst (λ (ts : List ℤ). LeadsWithin L (remove (take rank extent) axis) p ts) (sym s)
      (within-changed L (take rank extent) (remove (take rank extent) axis) o p ss (remove ss axis ++ pos 0 ∷ [])
      (λ index. insert index axis k)
      (at-inner rank axis k extent is_shape four below inside)
      (at-same rank axis k extent is_shape four below inside o p ss four_strides start) w))

  pub at_view-apart : LeadsApart (take rank extent) o ss → LeadsApart (take (rank - 1) E) p S
  at_view-apart d =
      subst (λ (xs : List ℕ). LeadsApart xs p S) (sym at_view-extents)
      (subst (λ (ts : List ℤ). LeadsApart (remove (take rank extent) axis) p ts) (sym s)
      (apart-changed L (take rank extent) (remove (take rank extent) axis) o p ss (remove ss axis ++ pos 0 ∷ [])
      (λ index. insert index axis k)
      (at-inner rank axis k extent is_shape four below inside)
      (at-same rank axis k extent is_shape four below inside o p ss four_strides start)
      (at-one rank axis k extent is_shape four below inside) d))

  pub at_view-places : strided p S (take (rank - 1) E) ≡
      at_index 0 axis k (take rank extent) (strided o ss (take rank extent))
  at_view-places =
      ap (strided p S) at_view-extents ∙ ap (λ (ts : List ℤ). strided p ts (remove (take rank extent) axis)) s ∙
      places-changed L (take rank extent) (remove (take rank extent) axis) o p ss (remove ss axis ++ pos 0 ∷ [])
      (λ index. insert index axis k)
      (at-inner rank axis k extent is_shape four below inside)
      (at-same rank axis k extent is_shape four below inside o p ss four_strides start)

module _ (rank L : ℕ) (extent E : List ℕ) (o p : ℤ) (ss S : List ℤ) (is_shape : IsArrayShape rank extent)
    (four : length extent ≡ 4) (four_strides : length ss ≡ 4)
    (e : E ≡ reverse (take rank extent) ++ drop rank extent) (s : S ≡ reverse (take rank ss) ++ drop rank ss)
    (start : p ≡ o) where
  pub turned-shape : IsArrayShape rank E
  turned-shape = subst (λ (xs : List ℕ). IsArrayShape rank xs) (sym e) (transposed-shape rank extent is_shape four)

  pub turned-extents : take rank E ≡ reverse (take rank extent)
  turned-extents = ap (take rank) e ∙ transposed-extents rank extent is_shape four

  turned-same : (index : List ℕ) → Inside (reverse (take rank extent)) index →
      led_to p S index ≡ led_to o ss (reverse index)
  turned-same index h =
      ap (λ (z : ℤ). led_to z S index) start ∙ ap (λ (ts : List ℤ). led_to o ts index) s ∙
      transposed-same rank extent is_shape four o ss four_strides index h

  pub turned-within : LeadsWithin L (take rank extent) o ss → LeadsWithin L (take rank E) p S
  turned-within w =
      subst (λ (xs : List ℕ). LeadsWithin L xs p S) (sym turned-extents)
      (within-changed L (take rank extent) (reverse (take rank extent)) o p ss S reverse
      (transposed-inner rank extent is_shape four) turned-same w)

  pub turned-apart : LeadsApart (take rank extent) o ss → LeadsApart (take rank E) p S
  turned-apart d =
      subst (λ (xs : List ℕ). LeadsApart xs p S) (sym turned-extents)
      (apart-changed L (take rank extent) (reverse (take rank extent)) o p ss S reverse
      (transposed-inner rank extent is_shape four) turned-same (λ a b h k. reverse-one a b) d)

  pub turned-places : strided p S (take rank E) ≡ transposed 0 (take rank extent) (strided o ss (take rank extent))
  turned-places =
      ap (strided p S) turned-extents ∙
      places-changed L (take rank extent) (reverse (take rank extent)) o p ss S reverse
      (transposed-inner rank extent is_shape four) turned-same

module _ (rank to_rank L : ℕ) (extent to : List ℕ) (o p : ℤ) (ss S : List ℤ) (is_shape : IsArrayShape rank extent)
    (four : length extent ≡ 4) (four_to : length to ≡ 4) (few : to_rank ≤ 4)
    (still : Still extent ss) (fits : FitsTo (take rank extent) (take to_rank to))
    (s : S ≡ take 4 (replicate (to_rank - rank) (pos 0) ++ ss)) (start : p ≡ o) where
  long : length (take rank extent) ≡ rank
  long = length-take-le rank extent (omega (arith, is_shape.rank_fits))

  long_to : length (take to_rank to) ≡ to_rank
  long_to = length-take-le to_rank to (omega arith)

  pub ranks : rank ≤ to_rank
  ranks = omega (arith, long, long_to, fits.rank)

  same_gap : to_rank - rank ≡ length (take to_rank to) - length (take rank extent)
  same_gap = omega (arith, long, long_to)

  spread_view-same : (index : List ℕ) → Inside (take to_rank to) index →
      led_to p S index ≡ led_to o ss (clipped (take rank extent)
      (drop (length (take to_rank to) - length (take rank extent)) index))
  spread_view-same index h =
      ap (λ (z : ℤ). led_to z S index) start ∙
      ap (λ (ts : List ℤ). led_to o ts index) (s ∙ ap (λ (m : ℕ). take 4 (replicate m (pos 0) ++ ss)) same_gap) ∙
      spread-same (take rank extent) (take to_rank to) ss (still-take rank extent ss is_shape still)
      (length (take to_rank to) - length (take rank extent)) (omega (arith, fits.rank))
      (omega (arith, long_to)) fits.extents o index h

  pub spread_view-within : LeadsWithin L (take rank extent) o ss → LeadsWithin L (take to_rank to) p S
  spread_view-within w =
      within-changed L (take rank extent) (take to_rank to) o p ss S
      (λ index. clipped (take rank extent) (drop (length (take to_rank to) - length (take rank extent)) index))
      (spread-inner (take rank extent) (take to_rank to) ss (still-take rank extent ss is_shape still)
      (length (take to_rank to) - length (take rank extent)) (omega (arith, fits.rank))
      (omega (arith, long_to)) fits.extents)
      spread_view-same w

  pub spread_view-places : strided p S (take to_rank to) ≡
      spread 0 (take rank extent) (take to_rank to) (strided o ss (take rank extent))
  spread_view-places =
      places-changed L (take rank extent) (take to_rank to) o p ss S
      (λ index. clipped (take rank extent) (drop (length (take to_rank to) - length (take rank extent)) index))
      (spread-inner (take rank extent) (take to_rank to) ss (still-take rank extent ss is_shape still)
      (length (take to_rank to) - length (take rank extent)) (omega (arith, fits.rank))
      (omega (arith, long_to)) fits.extents)
      spread_view-same

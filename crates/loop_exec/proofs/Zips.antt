-- The list of a function of the pairs of two lists, by their numbers.
use Rattle.std.proofs.Common.{arith, ◌≡◌, ◌+◌, ◌<◌, ℕ, List, [], ◌∷◌, ◌++◌, map, length, min, ◌∙◌, ap, sym}
use Rattle.std.proofs.Common.{slice_index_or}
use Rattle.std.proofs.lemmas.List.{ext_get_or, get_or-map, length-map}
use Rattle.std.proofs.lemmas.List.FromFn.{get_or-map-range_with_len, length-map-range_with_len, map-range_with_len_more}
use Rattle.std.proofs.lemmas.Slice.Zip.{get_or-zip, length-zip}
use Rattle.std.specs.List.{range_with_len, zip}
use Rattle.eager_rules.specs.Outcome.{by_number}

module _ {A B C : Type 0} (f : A × B → C) (a : A) (b : B) (xs : List A) (ys : List B) where
  abbrev numbered : ℕ → C
  numbered = by_number f a b xs ys

  pub one_more : (before after : List C) (k : ℕ) → after ≡ before ++ numbered k ∷ [] →
      before ≡ map numbered (range_with_len 0 k) → after ≡ map numbered (range_with_len 0 (k + 1))
  one_more before after k pushed so_far =
      pushed ∙ ap (λ (zs : List C). zs ++ numbered k ∷ []) so_far ∙
      sym (map-range_with_len_more numbered 0 k k (omega arith))

  pub from_zip : map numbered (range_with_len 0 (min (length xs) (length ys))) ≡ map f (zip xs ys)
  from_zip = ext_get_or (f (a, b)) (map numbered (range_with_len 0 (min (length xs) (length ys)))) (map f (zip xs ys))
      (length-map-range_with_len numbered 0 (min (length xs) (length ys)) ∙
      sym (length-map (zip xs ys) f ∙ length-zip xs ys)) each
    where
      each : (i : ℕ) → i < length (map numbered (range_with_len 0 (min (length xs) (length ys)))) →
          slice_index_or (map numbered (range_with_len 0 (min (length xs) (length ys)))) i (f (a, b)) ≡
          slice_index_or (map f (zip xs ys)) i (f (a, b))
      each i below =
          let size : length (map numbered (range_with_len 0 (min (length xs) (length ys)))) ≡
          min (length xs) (length ys) =
          length-map-range_with_len numbered 0 (min (length xs) (length ys)) in
          let paired : length (zip xs ys) ≡ min (length xs) (length ys) = length-zip xs ys in
          let inside : i < min (length xs) (length ys) = omega (arith, below, size) in
          get_or-map-range_with_len numbered 0 (min (length xs) (length ys)) i i (f (a, b)) inside (omega arith) ∙
          ap f (sym (get_or-zip xs ys i (a, b) (omega (arith, inside)) (omega (arith, inside)))) ∙
          sym (get_or-map f (zip xs ys) i (a, b) (f (a, b)) (omega (arith, inside, paired)))

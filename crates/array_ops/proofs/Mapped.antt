-- Lists that are made element after element.
use Rattle.std.proofs.Common.{arith, ◌≡◌, ◌+◌, ◌<◌, ℕ, ℤ, pos, List, [], ◌∷◌, ◌++◌, map, length, min, ◌∙◌, ap, sym}
use Rattle.std.proofs.Common.{slice_index_or}
use Rattle.std.proofs.lemmas.List.{ext_get_or, get_or-map, length-map}
use Rattle.std.proofs.lemmas.List.FromFn.{get_or-map-range_with_len, length-map-range_with_len, map-range_with_len_more}
use Rattle.std.proofs.lemmas.Slice.Zip.{get_or-zip, length-zip}
use Rattle.std.specs.List.{range_with_len, zip}

-- one more element behind those so far
pub one_more : (f : ℕ → ℤ) (words before : List ℤ) (k : ℕ) (z : ℤ) → words ≡ before ++ z ∷ [] →
    before ≡ map f (range_with_len 0 k) → z ≡ f k → words ≡ map f (range_with_len 0 (k + 1))
one_more f words before k z pushed so_far is =
    pushed ∙ ap (λ (xs : List ℤ). xs ++ z ∷ []) so_far ∙
    ap (λ (y : ℤ). map f (range_with_len 0 k) ++ y ∷ []) is ∙ sym (map-range_with_len_more f 0 k k (omega arith))

-- the list of a function of a list's elements, by their numbers
pub from_one : (f : ℤ → ℤ) (xs : List ℤ) (n : ℕ) → length xs ≡ n →
    map (λ j. f (slice_index_or xs j (pos 0))) (range_with_len 0 n) ≡ map f xs
from_one f xs n long = ext_get_or (pos 0) (map by_number (range_with_len 0 n)) (map f xs)
    (length-map-range_with_len by_number 0 n ∙ sym (length-map xs f ∙ long)) each
  where
    by_number : ℕ → ℤ
    by_number j = f (slice_index_or xs j (pos 0))

    each : (i : ℕ) → i < length (map by_number (range_with_len 0 n)) →
        slice_index_or (map by_number (range_with_len 0 n)) i (pos 0) ≡ slice_index_or (map f xs) i (pos 0)
    each i below =
        let size : length (map by_number (range_with_len 0 n)) ≡ n = length-map-range_with_len by_number 0 n in
        let inside : i < n = omega (arith, below, size) in
        get_or-map-range_with_len by_number 0 n i i (pos 0) inside (omega arith) ∙
        sym (get_or-map f xs i (pos 0) (pos 0) (omega (arith, inside, long)))

-- the same of the pairs of two lists
pub from_two : (f : ℤ × ℤ → ℤ) (xs ys : List ℤ) (n : ℕ) → length xs ≡ n → length ys ≡ n →
    map (λ j. f (slice_index_or xs j (pos 0), slice_index_or ys j (pos 0))) (range_with_len 0 n) ≡ map f (zip xs ys)
from_two f xs ys n long_x long_y = ext_get_or (pos 0) (map by_number (range_with_len 0 n)) (map f (zip xs ys))
    (length-map-range_with_len by_number 0 n ∙ sym (length-map (zip xs ys) f ∙ paired)) each
  where
    by_number : ℕ → ℤ
    by_number j = f (slice_index_or xs j (pos 0), slice_index_or ys j (pos 0))

    paired : length (zip xs ys) ≡ n
    paired = let size : length (zip xs ys) ≡ min (length xs) (length ys) = length-zip xs ys in
        omega (arith, size, long_x, long_y)

    each : (i : ℕ) → i < length (map by_number (range_with_len 0 n)) →
        slice_index_or (map by_number (range_with_len 0 n)) i (pos 0) ≡ slice_index_or (map f (zip xs ys)) i (pos 0)
    each i below =
        let size : length (map by_number (range_with_len 0 n)) ≡ n = length-map-range_with_len by_number 0 n in
        let inside : i < n = omega (arith, below, size) in
        let there : i < length (zip xs ys) = omega (arith, inside, paired) in
        get_or-map-range_with_len by_number 0 n i i (pos 0) inside (omega arith) ∙
        ap f (sym (get_or-zip xs ys i (pos 0, pos 0) (omega (arith, inside, long_x)) (omega (arith, inside, long_y)))) ∙
        sym (get_or-map f (zip xs ys) i (pos 0, pos 0) (pos 0) there)

-- the same of the triples of three lists
pub from_three : (f : ℤ × (ℤ × ℤ) → ℤ) (ms xs ys : List ℤ) (n : ℕ) → length ms ≡ n → length xs ≡ n → length ys ≡ n →
    map (λ j. f (slice_index_or ms j (pos 0), (slice_index_or xs j (pos 0), slice_index_or ys j (pos 0))))
    (range_with_len 0 n)
    ≡ map f (zip ms (zip xs ys))
from_three f ms xs ys n long_m long_x long_y =
    ext_get_or (pos 0) (map by_number (range_with_len 0 n)) (map f (zip ms (zip xs ys)))
    (length-map-range_with_len by_number 0 n ∙ sym (length-map (zip ms (zip xs ys)) f ∙ tripled)) each
  where
    by_number : ℕ → ℤ
    by_number j = f (slice_index_or ms j (pos 0), (slice_index_or xs j (pos 0), slice_index_or ys j (pos 0)))

    paired : length (zip xs ys) ≡ n
    paired = let size : length (zip xs ys) ≡ min (length xs) (length ys) = length-zip xs ys in
        omega (arith, size, long_x, long_y)

    tripled : length (zip ms (zip xs ys)) ≡ n
    tripled =
        let size : length (zip ms (zip xs ys)) ≡ min (length ms) (length (zip xs ys)) = length-zip ms (zip xs ys) in
        omega (arith, size, long_m, paired)

    pair_at : (i : ℕ) → i < n → slice_index_or (zip xs ys) i (pos 0, pos 0) ≡
        (slice_index_or xs i (pos 0), slice_index_or ys i (pos 0))
    pair_at i inside = get_or-zip xs ys i (pos 0, pos 0) (omega (arith, inside, long_x)) (omega (arith, inside, long_y))

    each : (i : ℕ) → i < length (map by_number (range_with_len 0 n)) →
        slice_index_or (map by_number (range_with_len 0 n)) i (pos 0) ≡
        slice_index_or (map f (zip ms (zip xs ys))) i (pos 0)
    each i below =
        let size : length (map by_number (range_with_len 0 n)) ≡ n = length-map-range_with_len by_number 0 n in
        let inside : i < n = omega (arith, below, size) in
        let there : i < length (zip ms (zip xs ys)) = omega (arith, inside, tripled) in
        get_or-map-range_with_len by_number 0 n i i (pos 0) inside (omega arith) ∙
        ap (λ (p : ℤ × ℤ). f (slice_index_or ms i (pos 0), p)) (sym (pair_at i inside)) ∙
        ap f (sym (get_or-zip ms (zip xs ys) i (pos 0, (pos 0, pos 0)) (omega (arith, inside, long_m))
        (omega (arith, inside, paired)))) ∙
        sym (get_or-map f (zip ms (zip xs ys)) i (pos 0, (pos 0, pos 0)) (pos 0) there)

-- copies of a list's elements are the list
pub copied : (xs : List ℤ) → map (λ x. x) xs ≡ xs
copied [] = λ i. []
copied (x ∷ xs) = ap (λ (ys : List ℤ). x ∷ ys) (copied xs)

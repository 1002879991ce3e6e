-- Tests that hold of a whole list hold of each of its items.
use Rattle.std.proofs.Common.{◌≡◌, ◌<◌, ℕ, zero, suc, Bool, true, false, ◌&&◌, List, [], ◌∷◌, ◌++◌, ◌+◌, map, length}
use Rattle.std.proofs.Common.{slice_index_or, Some}
use Rattle.std.proofs.Common.{slice_get, arith, ◌∙◌, ap, subst}
use Rattle.std.proofs.lemmas.Option.{get_or_from_slice_get, slice_get_within}
use Rattle.std.specs.List.{list_all, range_with_len}

pub and_left : (a b : Bool) → a && b ≡ true → a ≡ true
and_left true b h = λ i. true
and_left false b h = h

pub and_right : (a b : Bool) → a && b ≡ true → b ≡ true
and_right true b h = h
and_right false true h = λ i. true
and_right false false h = h

pub each_test : {A : Type 0} (test : A → Bool) (xs : List A) → list_all (λ t. t) (map test xs) ≡ true →
    (k : ℕ) (d : A) → k < length xs → test (slice_index_or xs k d) ≡ true
each_test test [] h k d below = absurd (omega (arith, below))
each_test test (x ∷ xs) h zero d below = and_left (test x) (list_all (λ t. t) (map test xs)) h
each_test test (x ∷ xs) h (suc k) d below =
    each_test test xs (and_right (test x) (list_all (λ t. t) (map test xs)) h) k d (omega arith)

each_pass : {A : Type 0} (test : A → Bool) (xs : List A) → list_all test xs ≡ true →
    (k : ℕ) (d : A) → k < length xs → test (slice_index_or xs k d) ≡ true
each_pass test [] h k d below = absurd (omega (arith, below))
each_pass test (x ∷ xs) h zero d below = and_left (test x) (list_all test xs) h
each_pass test (x ∷ xs) h (suc k) d below =
    each_pass test xs (and_right (test x) (list_all test xs) h) k d (omega arith)

pub item_test : {A : Type 0} (test : A → Bool) (xs : List A) → list_all test xs ≡ true →
    (k : ℕ) (x : A) → slice_get xs k ≡ Some x → test x ≡ true
item_test test xs h k x found =
    subst (λ y. test y ≡ true) (get_or_from_slice_get xs k x x found)
    (each_pass test xs h k x (slice_get_within xs k x found))

-- the numbers from a on, and one more
pub counting_more : (a n : ℕ) → range_with_len a (n + 1) ≡ range_with_len a n ++ (a + n) ∷ []
counting_more a zero = ap (λ (x : ℕ). x ∷ []) from_here
  where
    from_here : a ≡ a + 0
    from_here = omega arith
counting_more a (suc n) =
    let one : suc n + 1 ≡ suc (n + 1) = omega arith in
    let next : (a + 1) + n ≡ a + suc n = omega arith in
    ap (range_with_len a) one ∙ ap (λ (xs : List ℕ). a ∷ xs) (counting_more (a + 1) n ∙
    ap (λ (x : ℕ). range_with_len (a + 1) n ++ x ∷ []) next)

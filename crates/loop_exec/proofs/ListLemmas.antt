-- Lists that a loop makes, one element further.
use Rattle.std.proofs.Common.{arith, ◌≡◌, ◌≢◌, ◌∙◌, ap, sym, ℕ, ◌+◌, ◌<◌, ℤ, List, [], ◌∷◌, ◌++◌, map, drop, length}
use Rattle.std.proofs.lemmas.Option.{get_or_from_slice_get, slice_get_within}
use Rattle.std.proofs.Common.{slice_get, subst, Some, zero, suc, Bool, true, false, ◌&&◌, below_more}
use Rattle.std.proofs.Common.{get_or-set_other, get_or-set_same, get_or, set, slice_index_or}
use Rattle.std.proofs.lemmas.List.{drop_more}
use Rattle.std.proofs.lemmas.List.FromFn.{map-range_with_len_more}
use Rattle.std.proofs.lemmas.List.Sums.{fold_push}
use Rattle.std.specs.List.{list_all, range_with_len}
use Rattle.krn_base.specs.Numbers.{join_result, unit_of}
use Rattle.krn_base.specs.declared.operation.Join.{Join}
use Rattle.array_ops.specs.Elements.{joined}
use Rattle.overlap.specs.Walks.{in_place, with_word}

pub set_more : (xs : List ℕ) (i y : ℕ) (f : ℕ → ℕ) → i < length xs → ((j : ℕ) → j < i → get_or xs j 0 ≡ f j) →
    y ≡ f i → (j : ℕ) → j < i + 1 → get_or (set xs i y) j 0 ≡ f j
set_more xs i y f inside before here =
    below_more (λ (j : ℕ). get_or (set xs i y) j 0 ≡ f j) i
    (λ j below. let other : j ≢ i = omega arith in get_or-set_other xs i j y 0 other ∙ before j below)
    (get_or-set_same xs i y 0 inside ∙ here)

-- one more element behind those so far
pub made_more : (f : ℕ → ℤ) (words before : List ℤ) (k n : ℕ) (z : ℤ) → words ≡ before ++ z ∷ [] →
    before ≡ map f (range_with_len 0 n) → z ≡ f k → k ≡ n → words ≡ map f (range_with_len 0 (n + 1))
made_more f words before k n z pushed so_far is same =
    pushed ∙ ap (λ (xs : List ℤ). xs ++ z ∷ []) so_far ∙
    ap (λ (y : ℤ). map f (range_with_len 0 n) ++ y ∷ []) (is ∙ ap f same) ∙
    sym (map-range_with_len_more f 0 n n (omega arith))

-- one more element joined to those so far
pub joined_more : (op : Join) (f : ℕ → ℤ) (total z : ℤ) (k n : ℕ) → total ≡ joined op (map f (range_with_len 0 n)) →
    z ≡ f k → k ≡ n → join_result op total z ≡ joined op (map f (range_with_len 0 (n + 1)))
joined_more op f total z k n so_far is same =
    ap (λ (t : ℤ). join_result op t z) so_far ∙
    ap (join_result op (joined op (map f (range_with_len 0 n)))) (is ∙ ap f same) ∙
    sym (fold_push (join_result op) (unit_of op) (map f (range_with_len 0 n)) (f n)) ∙
    ap (joined op) (sym (map-range_with_len_more f 0 n n (omega arith)))

-- one more element stored
pub stored_more : (each : List (List ℤ) → ℕ → ℤ) (b : ℕ) (ps : List ℕ) (start before after : List (List ℤ))
    (k place : ℕ) (z : ℤ) → in_place each b k (drop k ps) before ≡ in_place each b 0 ps start → k < length ps →
    place ≡ get_or ps k 0 → z ≡ each before k → after ≡ with_word before b place z →
    in_place each b (k + 1) (drop (k + 1) ps) after ≡ in_place each b 0 ps start
stored_more each b ps start before after k place z so_far below at is stored =
    ap (in_place each b (k + 1) (drop (k + 1) ps))
    (stored ∙ ap (λ (w : ℤ). with_word before b place w) is ∙
    ap (λ (p : ℕ). with_word before b p (each before k)) at) ∙
    ap (λ (rest : List ℕ). in_place each b k rest before) (sym (drop_more ps k 0 below)) ∙ so_far

-- ---- a test of a whole list holds of each of its items
pub and_left : (a b : Bool) → a && b ≡ true → a ≡ true
and_left true b h = λ i. true
and_left false b h = h

pub and_right : (a b : Bool) → a && b ≡ true → b ≡ true
and_right true b h = h
and_right false true h = λ i. true
and_right false false h = h

pub each_test : {A : Type 0} (test : A → Bool) (xs : List A) → list_all (λ t. t) (map test xs) ≡ true →
    (k : ℕ) (d : A) → k < length xs → test (slice_index_or xs k d) ≡ true
each_test test [] h k d below = absurd (omega (arith, below))
each_test test (x ∷ xs) h zero d below = and_left (test x) (list_all (λ t. t) (map test xs)) h
each_test test (x ∷ xs) h (suc k) d below =
    each_test test xs (and_right (test x) (list_all (λ t. t) (map test xs)) h) k d (omega arith)

each_pass : {A : Type 0} (test : A → Bool) (xs : List A) → list_all test xs ≡ true →
    (k : ℕ) (d : A) → k < length xs → test (slice_index_or xs k d) ≡ true
each_pass test [] h k d below = absurd (omega (arith, below))
each_pass test (x ∷ xs) h zero d below = and_left (test x) (list_all test xs) h
each_pass test (x ∷ xs) h (suc k) d below =
    each_pass test xs (and_right (test x) (list_all test xs) h) k d (omega arith)

pub item_test : {A : Type 0} (test : A → Bool) (xs : List A) → list_all test xs ≡ true →
    (k : ℕ) (x : A) → slice_get xs k ≡ Some x → test x ≡ true
item_test test xs h k x found =
    subst (λ y. test y ≡ true) (get_or_from_slice_get xs k x x found)
    (each_pass test xs h k x (slice_get_within xs k x found))

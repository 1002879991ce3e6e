-- What a verdict on two lists of places says of them.
use Rattle.std.proofs.Common.{◌≡◌, ◌≢◌, ⊎_elim, ℕ, zero, suc, ◌%◌, ◌<◌, List, [], ◌∷◌, map, length, get_or}
use Rattle.std.proofs.Common.{Bool, true, false, not, ◌&&◌, ◌||◌, eqb, refl, sym, ap, subst, ◌∙◌, arith, eq-eqb}
use Rattle.std.proofs.Common.{eqb-true, ℤ, pos, ◌+ℤ◌, ◌-ℤ◌, ◌≤ℤ◌, ◌<ℤ◌, int_lt, int_le, unsigned_abs}
use Rattle.std.specs.Int.{◌∣◌}
use Rattle.std.specs.List.{AllByRecursion, list_all}
use Rattle.std.specs.Ordering.{int_eq}
use Rattle.std.proofs.lemmas.Int.{ints, clamps}
use Rattle.std.proofs.lemmas.Bool.Decides.{Decides-int_eq}
use Rattle.std.proofs.lemmas.List.{get_or-map, length-map}
use Rattle.std.proofs.lemmas.Nat.Gcd.{dvd_refl, mod-eq-zero_of_dvd}
use Rattle.overlap.specs.Divisors.{gcd, is_multiple}
use Rattle.overlap.specs.Lists.{divisor_from, lists_apart, is_moved, verdict_of_lists, NoneCommon, NoneEarlier}
use Rattle.overlap.specs.Spans.{is_empty, first_of, least, greatest, are_disjoint, rises, are_equal, is_distinct}
use Rattle.overlap.specs.declared.table.Verdict.TheVariants.{Apart, Same, Ahead, Clash}
use Rattle.overlap.proofs.Bools.{and-first, and-second, or-second, or-cases, none-first, not-true, not-false}
use Rattle.overlap.proofs.Bools.{where-apart, where-same, where-ahead, where-not_apart, where-not_clash, lower}
use Rattle.overlap.proofs.Bools.{not-lower}
use Rattle.overlap.proofs.DivisorLemmas.{gcd-first, gcd-second, divides-between, Near, from-divides}
use Rattle.overlap.proofs.TableLemmas.{equal-same}

-- ---- entries of lists
empty-none : (xs : List ℤ) (i : ℕ) → is_empty xs ≡ true → i < length xs → ⊥
empty-none [] i h k = omega arith
empty-none (x ∷ xs) i h k = cc

at-most : (xs : List ℤ) (i : ℕ) → i < length xs → get_or xs i (pos 0) ≤ℤ greatest xs
at-most [] i h = absurd (omega arith)
at-most (x ∷ []) zero h = omega (arith, ints)
at-most (x ∷ []) (suc i) h = absurd (omega arith)
at-most (x ∷ y ∷ xs) zero h = omega (arith, ints, clamps)
at-most (x ∷ y ∷ xs) (suc i) h = omega (arith, ints, clamps, at-most (y ∷ xs) i (omega arith))

at-least : (xs : List ℤ) (i : ℕ) → i < length xs → least xs ≤ℤ get_or xs i (pos 0)
at-least [] i h = absurd (omega arith)
at-least (x ∷ []) zero h = omega (arith, ints)
at-least (x ∷ []) (suc i) h = absurd (omega arith)
at-least (x ∷ y ∷ xs) zero h = omega (arith, ints, clamps)
at-least (x ∷ y ∷ xs) (suc i) h = omega (arith, ints, clamps, at-least (y ∷ xs) i (omega arith))

near-at : (k : ℕ) (q : ℤ) (xs : List ℤ) (i : ℕ) → AllByRecursion (Near k q) xs → i < length xs →
    Near k q (get_or xs i (pos 0))
near-at k q [] i h l = absurd (omega arith)
near-at k q (x ∷ xs) zero h l = h.0
near-at k q (x ∷ xs) (suc i) h l = near-at k q xs i h.1 (omega arith)

-- ---- apart
abbrev Meet : List ℤ → List ℤ → ℕ → ℕ → Type 0
Meet xs ys i k = get_or xs i (pos 0) ≡ get_or ys k (pos 0)

disjoint-apart : (xs ys : List ℤ) (i k : ℕ) → are_disjoint xs ys ≡ true → i < length xs → k < length ys →
    Meet xs ys i k → ⊥
disjoint-apart xs ys i k h l m e =
    ⊎_elim
    (λ below. omega (arith, ints, e, lower (greatest xs) (least ys) below, at-most xs i l, at-least ys k m))
    (λ below. omega (arith, ints, e, lower (greatest ys) (least xs) below, at-most ys k m, at-least xs i l))
    (or-cases (int_lt (greatest xs) (least ys)) (int_lt (greatest ys) (least xs)) h)

abbrev divisor_of : List ℤ → List ℤ → ℕ
divisor_of xs ys = gcd (divisor_from (first_of ys) ys) (divisor_from (first_of xs) xs)

met-multiple : (xs ys : List ℤ) (i k : ℕ) → i < length xs → k < length ys → Meet xs ys i k →
    is_multiple (divisor_of xs ys) (first_of ys -ℤ first_of xs) ≡ true
met-multiple xs ys i k l m e =
    let g : ℕ = divisor_of xs ys in
    let to : Near g (first_of xs) (get_or xs i (pos 0)) =
    near-at g (first_of xs) xs i (from-divides g (first_of xs) xs
    (gcd-second g (divisor_from (first_of ys) ys) (divisor_from (first_of xs) xs) (dvd_refl g))) l in
    let from : Near g (first_of ys) (get_or ys k (pos 0)) =
    near-at g (first_of ys) ys k (from-divides g (first_of ys) ys
    (gcd-first g (divisor_from (first_of ys) ys) (divisor_from (first_of xs) xs) (dvd_refl g))) m in
    let there : Near g (first_of ys) (get_or xs i (pos 0)) = subst (Near g (first_of ys)) (sym e) from in
    let divides : g ∣ unsigned_abs (first_of ys -ℤ first_of xs) =
    divides-between g (first_of xs) (first_of ys) (get_or xs i (pos 0)) to there in
    eq-eqb (unsigned_abs (first_of ys -ℤ first_of xs) % g) 0 (mod-eq-zero_of_dvd g divides)

lists-apart : (xs ys : List ℤ) (i k : ℕ) → lists_apart xs ys ≡ true → i < length xs → k < length ys → Meet xs ys i k → ⊥
unfolding lists_apart
lists-apart xs ys i k h l m e =
    ⊎_elim
    (λ none. ⊎_elim (λ a. empty-none xs i a l) (λ a. empty-none ys k a m) (or-cases (is_empty xs) (is_empty ys) none))
    (λ rest.
    ⊎_elim (λ a. disjoint-apart xs ys i k a l m e)
    (λ a.
    let yes : is_multiple (divisor_of xs ys) (first_of ys -ℤ first_of xs) ≡ true = met-multiple xs ys i k l m e in
    let no : is_multiple (divisor_of xs ys) (first_of ys -ℤ first_of xs) ≡ false = not-true _ a in
    let both : true ≡ false = sym yes ∙ no in
    cc)
    (or-cases (are_disjoint xs ys) _ rest))
    (or-cases (is_empty xs || is_empty ys) _ h)

-- ---- same and ahead
distinct-at : (xs : List ℤ) (i k : ℕ) → is_distinct xs ≡ true → i < k → k < length xs →
    get_or xs i (pos 0) ≡ get_or xs k (pos 0) → ⊥
distinct-at [] i k h l m e = omega arith
distinct-at (x ∷ xs) zero zero h l m e = omega arith
distinct-at (x ∷ xs) zero (suc k) h l m e = other x xs k (and-first _ (is_distinct xs) h) (omega arith) e
  where
    other : (x : ℤ) (xs : List ℤ) (k : ℕ) → list_all (λ (y : ℤ). not (int_eq x y)) xs ≡ true → k < length xs →
        x ≡ get_or xs k (pos 0) → ⊥
    other x [] k h l e = omega arith
    other x (y ∷ xs) zero h l e =
        let no : int_eq x y ≡ false = not-true (int_eq x y) (and-first (not (int_eq x y)) _ h) in
        let both : true ≡ false = sym ((Decides-int_eq x y).1 e) ∙ no in
        cc
    other x (y ∷ xs) (suc k) h l e = other x xs k (and-second (not (int_eq x y)) _ h) (omega arith) e
distinct-at (x ∷ xs) (suc i) zero h l m e = omega arith
distinct-at (x ∷ xs) (suc i) (suc k) h l m e =
    distinct-at xs i k (and-second _ (is_distinct xs) h) (omega arith) (omega arith) e

rises-at : (xs : List ℤ) (i k : ℕ) → rises xs ≡ true → i < k → k < length xs →
    get_or xs i (pos 0) <ℤ get_or xs k (pos 0)
rises-at [] i k h l m = absurd (omega arith)
rises-at (x ∷ []) i k h l m = absurd (omega arith)
rises-at (x ∷ y ∷ xs) zero zero h l m = absurd (omega arith)
rises-at (x ∷ y ∷ xs) zero (suc zero) h l m = lower x y (and-first (int_lt x y) (rises (y ∷ xs)) h)
rises-at (x ∷ y ∷ xs) zero (suc (suc k)) h l m =
    let step : x <ℤ y = lower x y (and-first (int_lt x y) (rises (y ∷ xs)) h) in
    let rest : y <ℤ get_or (y ∷ xs) (suc k) (pos 0) =
    rises-at (y ∷ xs) zero (suc k) (and-second (int_lt x y) (rises (y ∷ xs)) h) (omega arith) (omega arith) in
    omega (arith, ints, step, rest)
rises-at (x ∷ y ∷ xs) (suc i) zero h l m = absurd (omega arith)
rises-at (x ∷ y ∷ xs) (suc i) (suc k) h l m = rises-at (y ∷ xs) i k (and-second (int_lt x y) (rises (y ∷ xs)) h)
    (omega arith) (omega arith)

ahead-at : (xs ys : List ℤ) (i k : ℕ) → is_moved xs ys ≡ true → rises xs ≡ true →
    int_le (first_of xs) (first_of ys) ≡ true → i < k → k < length ys → Meet xs ys i k → ⊥
ahead-at xs ys i k moved up first l m e =
    let lead : ℤ = first_of ys -ℤ first_of xs in
    let whole : map (λ (x : ℤ). x +ℤ lead) xs ≡ ys = equal-same (map (λ (x : ℤ). x +ℤ lead) xs) ys moved in
    let long : length ys ≡ length xs = ap length (sym whole) ∙ length-map xs (λ (x : ℤ). x +ℤ lead) in
    let there : get_or ys k (pos 0) ≡ get_or xs k (pos 0) +ℤ lead =
    ap (λ (zs : List ℤ). get_or zs k (pos 0)) (sym whole) ∙
    get_or-map (λ (x : ℤ). x +ℤ lead) xs k (pos 0) (pos 0) (omega (arith, long)) in
    let above : get_or xs i (pos 0) <ℤ get_or xs k (pos 0) = rises-at xs i k up l (omega (arith, long)) in
    let high : first_of xs ≤ℤ first_of ys = not-lower (first_of xs) (first_of ys) first in
    omega (arith, ints, there, above, high, e)

-- ---- places
place-at : (ps : List ℕ) (i : ℕ) → i < length ps → get_or (map pos ps) i (pos 0) ≡ pos (get_or ps i 0)
place-at ps i h = get_or-map pos ps i 0 (pos 0) h

same-places : (ps qs : List ℕ) → map pos ps ≡ map pos qs → ps ≡ qs
same-places [] [] e = refl
same-places [] (q ∷ qs) e = cc
same-places (p ∷ ps) [] e = cc
same-places (p ∷ ps) (q ∷ qs) e =
    let first : p ≡ q = cc in
    let rest : map pos ps ≡ map pos qs = cc in
    let others : ps ≡ qs = same-places ps qs rest in
    cc

meet : (ps qs : List ℕ) (i k : ℕ) → i < length ps → k < length qs → get_or ps i 0 ≡ get_or qs k 0 →
    Meet (map pos ps) (map pos qs) i k
meet ps qs i k h l e = place-at ps i h ∙ ap pos e ∙ sym (place-at qs k l)

pub none-common : (ps qs : List ℕ) → lists_apart (map pos ps) (map pos qs) ≡ true → NoneCommon ps qs
none-common ps qs h i k l m e =
    lists-apart (map pos ps) (map pos qs) i k h (omega (arith, length-map ps pos)) (omega (arith, length-map qs pos))
    (meet ps qs i k l m e)

pub buffers-same : (b c : ℕ) → b ≡ c → not (eqb b c) ≡ false
buffers-same b c e = ap not (eq-eqb b c e)

abbrev apart_test : ℕ → List ℕ → ℕ → List ℕ → Bool
apart_test b ps c qs = not (eqb b c) || lists_apart (map pos ps) (map pos qs)

abbrev same_test : List ℕ → List ℕ → Bool
same_test ps qs = are_equal (map pos ps) (map pos qs) && is_distinct (map pos ps)

abbrev ahead_test : List ℕ → List ℕ → Bool
ahead_test ps qs = is_moved (map pos ps) (map pos qs) &&
    (rises (map pos ps) && int_le (first_of (map pos ps)) (first_of (map pos qs)))

one-apart : (b c : ℕ) (ps qs : List ℕ) → apart_test b ps c qs ≡ true → b ≡ c → NoneCommon ps qs
one-apart b c ps qs h e = none-common ps qs (or-second (not (eqb b c)) (lists_apart (map pos ps) (map pos qs))
    (buffers-same b c e) h)

pub says-apart : (b c : ℕ) (ps qs : List ℕ) → verdict_of_lists b (map pos ps) c (map pos qs) ≡ Apart → b ≡ c →
    NoneCommon ps qs
unfolding verdict_of_lists
says-apart b c ps qs h e = one-apart b c ps qs
    (where-apart (apart_test b ps c qs) (same_test ps qs) (ahead_test ps qs) h) e

pub says-one_buffer : (b c : ℕ) (xs ys : List ℤ) → verdict_of_lists b xs c ys ≢ Apart → b ≡ c
unfolding verdict_of_lists
says-one_buffer b c xs ys h = eqb-true b c (not-false (eqb b c)
    (none-first (not (eqb b c)) (lists_apart xs ys) (where-not_apart (not (eqb b c) || lists_apart xs ys) _ _ h)))

pub says-same : (b c : ℕ) (ps qs : List ℕ) → verdict_of_lists b (map pos ps) c (map pos qs) ≡ Same → ps ≡ qs
unfolding verdict_of_lists
says-same b c ps qs h =
    same-places ps qs (equal-same (map pos ps) (map pos qs)
    (and-first (are_equal (map pos ps) (map pos qs)) (is_distinct (map pos ps))
    (where-same (apart_test b ps c qs) (same_test ps qs) (ahead_test ps qs) h)))

earlier-ahead : (ps qs : List ℕ) → ahead_test ps qs ≡ true → NoneEarlier ps qs
earlier-ahead ps qs h i k l m e =
    let moved : is_moved (map pos ps) (map pos qs) ≡ true = and-first (is_moved (map pos ps) (map pos qs)) _ h in
    let rest : (rises (map pos ps) && int_le (first_of (map pos ps)) (first_of (map pos qs))) ≡ true =
    and-second (is_moved (map pos ps) (map pos qs)) _ h in
    let whole : map (λ (x : ℤ). x +ℤ (first_of (map pos qs) -ℤ first_of (map pos ps))) (map pos ps) ≡ map pos qs =
    equal-same _ (map pos qs) moved in
    let long : length qs ≡ length ps = sym (length-map qs pos) ∙ ap length (sym whole) ∙
    length-map (map pos ps) (λ (x : ℤ). x +ℤ (first_of (map pos qs) -ℤ first_of (map pos ps))) ∙
    length-map ps pos in
    ahead-at (map pos ps) (map pos qs) i k moved (and-first (rises (map pos ps)) _ rest)
    (and-second (rises (map pos ps)) _ rest) l (omega (arith, length-map qs pos))
    (meet ps qs i k (omega (arith, long)) m e)

pub says-ahead : (b c : ℕ) (ps qs : List ℕ) → verdict_of_lists b (map pos ps) c (map pos qs) ≡ Ahead → NoneEarlier ps qs
unfolding verdict_of_lists
says-ahead b c ps qs h = earlier-ahead ps qs (where-ahead (apart_test b ps c qs) (same_test ps qs) (ahead_test ps qs) h)

earlier-same : (ps qs : List ℕ) → same_test ps qs ≡ true → NoneEarlier ps qs
earlier-same ps qs h i k l m e =
    let whole : ps ≡ qs = same-places ps qs (equal-same (map pos ps) (map pos qs)
    (and-first (are_equal (map pos ps) (map pos qs)) (is_distinct (map pos ps)) h)) in
    let long : length ps ≡ length qs = ap length whole in
    let here : get_or ps i 0 ≡ get_or ps k 0 = e ∙ ap (λ (xs : List ℕ). get_or xs k 0) (sym whole) in
    distinct-at (map pos ps) i k (and-second (are_equal (map pos ps) (map pos qs)) (is_distinct (map pos ps)) h) l
    (omega (arith, length-map ps pos))
    (meet ps ps i k (omega (arith, long)) (omega (arith, long)) here)

pub says-settled : (b c : ℕ) (ps qs : List ℕ) → verdict_of_lists b (map pos ps) c (map pos qs) ≢ Clash →
    length qs ≡ length ps → b ≡ c → NoneEarlier ps qs
unfolding verdict_of_lists
says-settled b c ps qs h long one =
    ⊎_elim
    (λ t i k l m e. one-apart b c ps qs t one i k (omega arith) m e)
    (⊎_elim (λ t. earlier-same ps qs t) (λ t. earlier-ahead ps qs t))
    (where-not_clash (apart_test b ps c qs) (same_test ps qs) (ahead_test ps qs) h)

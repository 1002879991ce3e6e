-- What a slice counts out: the numbers of its walk that stand before the stop are the first ones.
use Rattle.std.proofs.Common.{◌≡◌, ℕ, zero, suc, ◌+◌, ◌-◌, ◌*◌, ◌<◌, ◌≤◌, min, ◌∷◌, map, filter, refl, sym, ap, subst}
use Rattle.std.proofs.Common.{◌∙◌, arith, Bool, true, false, T, ltb, cond, ℤ, pos, negsuc, ◌+ℤ◌, ◌-ℤ◌, ◌*ℤ◌, ◌≤ℤ◌, ◌<ℤ◌}
use Rattle.std.proofs.Common.{◌↔◌, Some, unsigned_abs, ltb→lt, lt→ltb}
use Rattle.std.specs.List.{range_with_len}
use borrow.Author.Tests.{ltb-true, ltb-false}
use lib.Signed.{lt_z}
use Rattle.std.proofs.lemmas.Int.{ints}
use Rattle.view_places.specs.Slice.{IsDistance, after_steps, is_before, walk, bound, picks_by}
use Rattle.view_places.specs.declared.slice.Slice.{Slice}

filter-step : {A : Type 0} (p : A → Bool) (f : ℕ → A) (count a n : ℕ) (t : Bool) → ltb a count ≡ t → p (f a) ≡ t →
    filter p (map f (range_with_len (a + 1) n)) ≡ map f (range_with_len (a + 1) (min n (count - (a + 1)))) →
    filter p (map f (range_with_len a (suc n))) ≡ map f (range_with_len a (min (suc n) (count - a)))
filter-step p f count a n true h e rest =
    let more : suc (min n (count - (a + 1))) ≡ min (suc n) (count - a) = omega (arith, ltb-true a count h) in
    ap (λ (b : Bool). cond b (f a ∷ filter p (map f (range_with_len (a + 1) n)))
    (filter p (map f (range_with_len (a + 1) n)))) e ∙
    ap (λ xs. f a ∷ xs) rest ∙ ap (λ (m : ℕ). map f (range_with_len a m)) more
filter-step p f count a n false h e rest =
    let none : min n (count - (a + 1)) ≡ 0 = omega (arith, ltb-false a count h) in
    let none_here : 0 ≡ min (suc n) (count - a) = omega (arith, ltb-false a count h) in
    ap (λ (b : Bool). cond b (f a ∷ filter p (map f (range_with_len (a + 1) n)))
    (filter p (map f (range_with_len (a + 1) n)))) e ∙
    rest ∙ ap (λ (m : ℕ). map f (range_with_len (a + 1) m)) none ∙ ap (λ (m : ℕ). map f (range_with_len a m)) none_here

filter-range : {A : Type 0} (p : A → Bool) (f : ℕ → A) (count a n : ℕ) → ((k : ℕ) → p (f k) ≡ ltb k count) →
    filter p (map f (range_with_len a n)) ≡ map f (range_with_len a (min n (count - a)))
filter-range p f count a zero e = let none : 0 ≡ min 0 (count - a) = omega arith in
    ap (λ (m : ℕ). map f (range_with_len a m)) none
filter-range p f count a (suc n) e =
    filter-step p f count a n (ltb a count) refl (e a) (filter-range p f count (a + 1) n e)

pub first-ones : {A : Type 0} (p : A → Bool) (f : ℕ → A) (count n : ℕ) → count ≤ n → ((k : ℕ) → p (f k) ≡ ltb k count) →
    filter p (map f (range_with_len 0 n)) ≡ map f (range_with_len 0 count)
first-ones p f count n h e =
    let all : min n (count - 0) ≡ count = omega arith in
    filter-range p f count 0 n e ∙ ap (λ (m : ℕ). map f (range_with_len 0 m)) all

same-tests : (a b : Bool) → (T a → T b) → (T b → T a) → a ≡ b
same-tests true true f g = refl
same-tests true false f g = absurd (f tt)
same-tests false true f g = absurd (g tt)
same-tests false false f g = refl

positive : (m : ℕ) → ltb 0 (suc m) ≡ true
positive m = same-tests (ltb 0 (suc m)) true (λ h. tt) (λ h. lt→ltb 0 (suc m) (omega arith))

before-rising : (start stop : ℤ) (m count d k : ℕ) → IsDistance start stop d → ((k < count) ↔ (k * suc m < d)) →
    is_before (pos (suc m)) stop (after_steps start (pos (suc m)) k) ≡ ltb k count
before-rising start stop m count d k dist steps =
    ap (λ (b : Bool). cond b (lt_z (after_steps start (pos (suc m)) k) stop)
    (lt_z stop (after_steps start (pos (suc m)) k))) (positive m) ∙
    same-tests (lt_z (after_steps start (pos (suc m)) k) stop) (ltb k count)
    (λ h.
    let before : (start +ℤ pos (k * suc m)) <ℤ stop = record { lt = h } in
    let ahead : start <ℤ stop = omega (arith, ints, before) in
    let near : k * suc m < d = omega (arith, ints, before, dist.past ahead) in
    lt→ltb k count (steps.1 near))
    (λ h.
    let near : k * suc m < d = steps.0 (ltb→lt k count h) in
    let some : 0 < d = omega arith in
    let ahead : start <ℤ stop = not_behind some in
    let before : (start +ℤ pos (k * suc m)) <ℤ stop = omega (arith, ints, near, dist.past ahead) in
    before.lt)
  where
    not_behind : 0 < d → start <ℤ stop
    not_behind some = by_test (lt_z start stop) refl
      where
        by_test : (t : Bool) → lt_z start stop ≡ t → start <ℤ stop
        by_test true e = record { lt = subst T (sym e) tt }
        by_test false e = let behind : stop ≤ℤ start = omega (arith, ints, e) in
            absurd (omega (arith, dist.none behind))

before-falling : (start stop : ℤ) (m count d k : ℕ) → IsDistance stop start d → ((k < count) ↔ (k * suc m < d)) →
    is_before (negsuc m) stop (after_steps start (negsuc m) k) ≡ ltb k count
before-falling start stop m count d k dist steps =
    same-tests (lt_z stop (after_steps start (negsuc m) k)) (ltb k count)
    (λ h.
    let before : stop <ℤ (start +ℤ (pos k *ℤ negsuc m)) = record { lt = h } in
    let ahead : stop <ℤ start = omega (arith, ints, before) in
    let near : k * suc m < d = omega (arith, ints, before, dist.past ahead) in
    lt→ltb k count (steps.1 near))
    (λ h.
    let near : k * suc m < d = steps.0 (ltb→lt k count h) in
    let some : 0 < d = omega arith in
    let ahead : stop <ℤ start = not_behind some in
    let before : stop <ℤ (start +ℤ (pos k *ℤ negsuc m)) = omega (arith, ints, near, dist.past ahead) in
    before.lt)
  where
    not_behind : 0 < d → stop <ℤ start
    not_behind some = by_test (lt_z stop start) refl
      where
        by_test : (t : Bool) → lt_z stop start ≡ t → stop <ℤ start
        by_test true e = record { lt = subst T (sym e) tt }
        by_test false e = let behind : start ≤ℤ stop = omega (arith, ints, e) in
            absurd (omega (arith, dist.none behind))

pub rising-walk : (n : ℕ) (start stop step : ℤ) (count d : ℕ) → pos 0 <ℤ step → IsDistance start stop d →
    ((k : ℕ) → (k < count) ↔ (k * unsigned_abs step < d)) → count ≤ n →
    walk n start stop step ≡ map (after_steps start step) (range_with_len 0 count)
rising-walk n start stop (pos zero) count d h dist steps few = absurd (omega (arith, ints, h))
rising-walk n start stop (pos (suc m)) count d h dist steps few =
    first-ones (is_before (pos (suc m)) stop) (after_steps start (pos (suc m))) count n few
    (λ k. before-rising start stop m count d k dist (steps k))
rising-walk n start stop (negsuc m) count d h dist steps few = absurd (omega (arith, ints, h))

pub falling-walk : (n : ℕ) (start stop step : ℤ) (count d : ℕ) → step <ℤ pos 0 → IsDistance stop start d →
    ((k : ℕ) → (k < count) ↔ (k * unsigned_abs step < d)) → count ≤ n →
    walk n start stop step ≡ map (after_steps start step) (range_with_len 0 count)
falling-walk n start stop (pos m) count d h dist steps few = absurd (omega (arith, ints, h))
falling-walk n start stop (negsuc m) count d h dist steps few =
    first-ones (is_before (negsuc m) stop) (after_steps start (negsuc m)) count n few
    (λ k. before-falling start stop m count d k dist (steps k))

pub rising-inside : (start stop step : ℤ) (n count d k : ℕ) → pos 0 <ℤ step → IsDistance start stop d →
    ((k < count) ↔ (k * unsigned_abs step < d)) → pos 0 ≤ℤ start → stop ≤ℤ pos n → k < count →
    (pos 0 ≤ℤ after_steps start step k) × (after_steps start step k <ℤ pos n)
rising-inside start stop (pos m) n count d k h dist steps low high below =
    let near : k * m < d = steps.0 below in
    let some : 0 < d = omega arith in
    let ahead : start <ℤ stop = by_test start stop d dist some (lt_z start stop) refl in
    (omega (arith, ints, low), omega (arith, ints, near, high, dist.past ahead))
  where
    by_test : (start stop : ℤ) (d : ℕ) → IsDistance start stop d → 0 < d → (t : Bool) → lt_z start stop ≡ t →
        start <ℤ stop
    by_test start stop d dist some true e = record { lt = subst T (sym e) tt }
    by_test start stop d dist some false e = let behind : stop ≤ℤ start = omega (arith, ints, e) in
        absurd (omega (arith, dist.none behind))
rising-inside start stop (negsuc m) n count d k h dist steps low high below = absurd (omega (arith, ints, h))

pub falling-inside : (start stop step : ℤ) (n count d k : ℕ) → step <ℤ pos 0 → IsDistance stop start d →
    ((k < count) ↔ (k * unsigned_abs step < d)) → negsuc 0 ≤ℤ stop → start <ℤ pos n → k < count →
    (pos 0 ≤ℤ after_steps start step k) × (after_steps start step k <ℤ pos n)
falling-inside start stop (pos m) n count d k h dist steps low high below = absurd (omega (arith, ints, h))
falling-inside start stop (negsuc m) n count d k h dist steps low high below =
    let near : k * suc m < d = steps.0 below in
    let some : 0 < d = omega arith in
    let ahead : stop <ℤ start = by_test stop start d dist some (lt_z stop start) refl in
    (omega (arith, ints, near, low, dist.past ahead), omega (arith, ints, high))
  where
    by_test : (start stop : ℤ) (d : ℕ) → IsDistance start stop d → 0 < d → (t : Bool) → lt_z start stop ≡ t →
        start <ℤ stop
    by_test start stop d dist some true e = record { lt = subst T (sym e) tt }
    by_test start stop d dist some false e = let behind : stop ≤ℤ start = omega (arith, ints, e) in
        absurd (omega (arith, dist.none behind))

pub picks-rising : (n : ℕ) (s : Slice) (step : ℤ) → pos 0 <ℤ step →
    picks_by n s step ≡ Some (map unsigned_abs
    (walk n (bound n (pos 0) (pos n) (pos 0) s.start) (bound n (pos 0) (pos n) (pos n) s.stop) step))
picks-rising n s (pos zero) h = absurd (omega (arith, ints, h))
picks-rising n s (pos (suc k)) h = refl
picks-rising n s (negsuc k) h = absurd (omega (arith, ints, h))

pub picks-falling : (n : ℕ) (s : Slice) (step : ℤ) → step <ℤ pos 0 →
    picks_by n s step ≡ Some (map unsigned_abs
    (walk n (bound n (negsuc 0) (pos n -ℤ pos 1) (pos n -ℤ pos 1) s.start)
    (bound n (negsuc 0) (pos n -ℤ pos 1) (negsuc 0) s.stop) step))
picks-falling n s (pos k) h = absurd (omega (arith, ints, h))
picks-falling n s (negsuc k) h = refl

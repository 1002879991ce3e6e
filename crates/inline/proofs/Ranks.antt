-- In a program without a cycle of calls, each instance calls ones of a smaller rank alone.
use Rattle.std.proofs.Common.{arith, ◌≡◌, ◌+◌, ◌<◌, ◌≤◌, ap, refl, inl, inr, ℕ, zero, suc, Bool, true, false, List, []}
use Rattle.std.proofs.Common.{◌∷◌, map, length, ltb}
use Rattle.std.proofs.lemmas.Bool.{cases_lt}
use Rattle.std.proofs.lemmas.Bool.Decides.{nat_tests}
use Rattle.std.proofs.lemmas.List.FromFn.{length-map-range_with_len}
use Rattle.std.specs.Prelude.{◌⊎◌}
use Rattle.std.specs.List.{range_with_len}
use Rattle.eager_rules.specs.Sound.{HasNoCycle}
use Rattle.eager_rules.specs.declared.program.Instance.{Instance}

-- How many of a list's numbers are below one.
abbrev pub tick : Bool → ℕ → ℕ
tick true n = suc n
tick false n = n

abbrev pub below : ℕ → List ℕ → ℕ
below h [] = 0
below h (x ∷ xs) = tick (ltb x h) (below h xs)

abbrev Among : List ℕ → ℕ → Type 0
Among [] h = ⊥
Among (x ∷ xs) h = (x ≡ h) ⊎ Among xs h

tick_more : (x h k m n : ℕ) (a b : Bool) → h ≤ k → ltb x h ≡ a → ltb x k ≡ b → m ≤ n → tick a m ≤ tick b n
tick_more x h k m n true true le p q more = omega (arith, more)
tick_more x h k m n true false le p q more = absurd (grind (arith, nat_tests, le, p, q))
tick_more x h k m n false true le p q more = omega (arith, more)
tick_more x h k m n false false le p q more = more

below_more : (h k : ℕ) (xs : List ℕ) → h ≤ k → below h xs ≤ below k xs
below_more h k [] le = omega arith
below_more h k (x ∷ xs) le =
    tick_more x h k (below h xs) (below k xs) (ltb x h) (ltb x k) le refl refl (below_more h k xs le)

tick_here : (x h k m n : ℕ) (a b : Bool) → x ≡ h → h < k → ltb x h ≡ a → ltb x k ≡ b → m ≤ n → tick a m < tick b n
tick_here x h k m n true b same lt p q more = absurd (grind (arith, nat_tests, same, p))
tick_here x h k m n false true same lt p q more = omega (arith, more)
tick_here x h k m n false false same lt p q more = absurd (grind (arith, nat_tests, same, lt, q))

tick_later : (x h k m n : ℕ) (a b : Bool) → h < k → ltb x h ≡ a → ltb x k ≡ b → m < n → tick a m < tick b n
tick_later x h k m n true true lt p q more = omega (arith, more)
tick_later x h k m n true false lt p q more = absurd (grind (arith, nat_tests, lt, p, q))
tick_later x h k m n false true lt p q more = omega (arith, more)
tick_later x h k m n false false lt p q more = more

below_strict : (h k : ℕ) (xs : List ℕ) → h < k → Among xs h → below h xs < below k xs
below_strict h k [] lt in' = absurd in'
below_strict h k (x ∷ xs) lt (inl same) =
    tick_here x h k (below h xs) (below k xs) (ltb x h) (ltb x k) same lt refl refl (below_more h k xs (omega arith))
below_strict h k (x ∷ xs) lt (inr later) =
    tick_later x h k (below h xs) (below k xs) (ltb x h) (ltb x k) lt refl refl (below_strict h k xs lt later)

tick_most : (m n : ℕ) (a : Bool) → m ≤ n → tick a m ≤ suc n
tick_most m n true le = omega (arith, le)
tick_most m n false le = omega (arith, le)

below_most : (h : ℕ) (xs : List ℕ) → below h xs ≤ length xs
below_most h [] = omega arith
below_most h (x ∷ xs) = tick_most (below h xs) (length xs) (ltb x h) (below_most h xs)

tick_out : (x h m n : ℕ) (a : Bool) → x ≡ h → ltb x h ≡ a → m ≤ n → tick a m < suc n
tick_out x h m n true same p le = absurd (grind (arith, nat_tests, same, p))
tick_out x h m n false same p le = omega (arith, le)

tick_less : (m n : ℕ) (a : Bool) → m < n → tick a m < suc n
tick_less m n true lt = omega (arith, lt)
tick_less m n false lt = omega (arith, lt)

below_length : (h : ℕ) (xs : List ℕ) → Among xs h → below h xs < length xs
below_length h [] in' = absurd in'
below_length h (x ∷ xs) (inl same) =
    tick_out x h (below h xs) (length xs) (ltb x h) same refl (below_most h xs)
below_length h (x ∷ xs) (inr later) = tick_less (below h xs) (length xs) (ltb x h) (below_length h xs later)

among_place : (height : ℕ → ℕ) (a n i : ℕ) → a ≤ i →
    (a < i → Among (map height (range_with_len (a + 1) n)) (height i)) → (a < i) ⊎ (i ≤ a) →
    Among (map height (range_with_len a (suc n))) (height i)
among_place height a n i low later (inl past) = inr (later past)
among_place height a n i low later (inr here) =
    let same : a ≡ i = omega (arith, low, here) in
    inl (ap height same)

among_range : (height : ℕ → ℕ) (a n i : ℕ) → a ≤ i → i < a + n → Among (map height (range_with_len a n)) (height i)
among_range height a zero i low high = absurd (omega (arith, low, high))
among_range height a (suc n) i low high =
    among_place height a n i low
    (λ past. among_range height (a + 1) n i (omega (arith, past)) (omega (arith, high))) (cases_lt a i)

module _ (instances : List Instance) (cycle : HasNoCycle instances) where
  abbrev pub heights : List ℕ
  heights = map cycle.height (range_with_len 0 (length instances))

  abbrev pub rank : ℕ → ℕ
  rank i = below (cycle.height i) heights

  -- a callee's rank is smaller
  pub rank_falls : (i j : ℕ) → cycle.height j < cycle.height i → j < length instances → rank j < rank i
  rank_falls i j lower within =
      below_strict (cycle.height j) (cycle.height i) heights lower
      (among_range cycle.height 0 (length instances) j (omega arith) (omega (arith, within)))

  pub rank_low : (i : ℕ) → i < length instances → rank i < length instances
  rank_low i within =
      let counted : length heights ≡ length instances =
      length-map-range_with_len cycle.height 0 (length instances) in
      let low : rank i < length heights = below_length (cycle.height i) heights
      (among_range cycle.height 0 (length instances) i (omega arith) (omega (arith, within))) in
      omega (arith, low, counted)

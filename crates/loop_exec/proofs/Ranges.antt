-- The numbers of a range behind its next one.
use Rattle.std.proofs.lemmas.Int.{ints}
use Rattle.std.proofs.lemmas.Float.{T_from_true}
use Rattle.std.specs.Int.Signed.{lt_z_yes, lt_z_no}
use Rattle.std.specs.Prelude.{ltb}
use Rattle.std.proofs.lemmas.Bool.Decides.{nat_tests}
use Rattle.std.proofs.Common.{subst, arith, pos, negsuc, not, ◌<ℤ◌, ◌≤ℤ◌, int_lt, FitsSigned, w64, ◌≡◌, ◌-◌, ◌<◌}
use Rattle.std.proofs.Common.{ℕ, zero, suc, ℤ, ◌+ℤ◌, [], ◌∷◌, Bool, true, false, cond, ap, ◌∙◌, refl}
use Rattle.view_places.specs.Slice.{is_before}
use Rattle.eager_rules.specs.Works.{numbers_from}

-- a number that doesn't stand before the end ends the range
pub none_from : (n : ℕ) (i hi step : ℤ) → is_before step hi i ≡ false → numbers_from n i hi step ≡ []
none_from zero i hi step past = refl
none_from (suc n) i hi step past = by_test (is_before step hi i) past
  where
    by_test : (b : Bool) → b ≡ false → cond b (i ∷ numbers_from n (i +ℤ step) hi step) [] ≡ []
    by_test true past = absurd cc
    by_test false past = refl

-- one that does is followed by those from a step on
pub some_from : (n : ℕ) (i hi step : ℤ) → 0 < n → is_before step hi i ≡ true →
    numbers_from n i hi step ≡ i ∷ numbers_from (n - 1) (i +ℤ step) hi step
some_from zero i hi step some before = absurd (omega (arith, some))
some_from (suc n) i hi step some before =
    let below : n ≡ suc n - 1 = omega arith in
    ap (λ (b : Bool). cond b (i ∷ numbers_from n (i +ℤ step) hi step) []) before ∙
    ap (λ (m : ℕ). i ∷ numbers_from m (i +ℤ step) hi step) below

-- what lies between two words is a word
between : (a z b : ℤ) → int_lt a z ≡ true → int_lt z b ≡ true → FitsSigned w64 a → FitsSigned w64 b → FitsSigned w64 z
between a (pos n) (pos m) low high a_fits b_fits =
    let test : ltb n m ≡ true = high in
    let most : m < 9223372036854775808 = b_fits.sfits in
    record { sfits = grind (arith, nat_tests, test, most) }
between a (pos n) (negsuc m) low high a_fits b_fits = absurd cc
between (pos m) (negsuc n) b low high a_fits b_fits = absurd cc
between (negsuc m) (negsuc n) b low high a_fits b_fits =
    let test : ltb n m ≡ true = low in
    let most : m < 9223372036854775808 = a_fits.sfits in
    record { sfits = grind (arith, nat_tests, test, most) }

-- a step up leads up, and a step down leads down
rises : (i step : ℤ) → int_lt (pos 0) step ≡ true → int_lt i (i +ℤ step) ≡ true
rises i step up = by_test (int_lt i (i +ℤ step)) refl
  where
    by_test : (b : Bool) → int_lt i (i +ℤ step) ≡ b → b ≡ true
    by_test true e = refl
    by_test false e =
        let more : pos 0 <ℤ step = lt_z_yes (T_from_true (int_lt (pos 0) step) up) in
        let less : (i +ℤ step) ≤ℤ i = lt_z_no (T_from_true (not (int_lt i (i +ℤ step))) (ap not e)) in
        absurd (omega (arith, ints, more, less))

-- a sum past every word stands before no end
pub past_words : (i hi step : ℤ) → FitsSigned w64 i → FitsSigned w64 hi → (FitsSigned w64 (i +ℤ step) → ⊥) →
    is_before step hi (i +ℤ step) ≡ false
past_words i hi step i_fits hi_fits past = by_sign (int_lt (pos 0) step) refl
  where
    up_test : (b : Bool) → int_lt (pos 0) step ≡ true → int_lt (i +ℤ step) hi ≡ b → b ≡ false
    up_test true up e = absurd (past (between i (i +ℤ step) hi (rises i step up) e i_fits hi_fits))
    up_test false up e = refl

    down_from : (b : Bool) → int_lt (pos 0) step ≡ false → int_lt hi (i +ℤ step) ≡ true → int_lt (i +ℤ step) i ≡ b → ⊥
    down_from true down e low = past (between hi (i +ℤ step) i e low hi_fits i_fits)
    down_from false down e low =
        let less : step ≤ℤ pos 0 = lt_z_no (T_from_true (not (int_lt (pos 0) step)) (ap not down)) in
        let more : i ≤ℤ (i +ℤ step) = lt_z_no (T_from_true (not (int_lt (i +ℤ step) i)) (ap not low)) in
        let same : i ≡ i +ℤ step = omega (arith, ints, less, more) in
        past (subst (λ (z : ℤ). FitsSigned w64 z) same i_fits)

    down_test : (b : Bool) → int_lt (pos 0) step ≡ false → int_lt hi (i +ℤ step) ≡ b → b ≡ false
    down_test true down e = absurd (down_from (int_lt (i +ℤ step) i) down e refl)
    down_test false down e = refl

    by_sign : (b : Bool) → int_lt (pos 0) step ≡ b → is_before step hi (i +ℤ step) ≡ false
    by_sign true up =
        ap (λ (t : Bool). cond t (int_lt (i +ℤ step) hi) (int_lt hi (i +ℤ step))) up ∙
        up_test (int_lt (i +ℤ step) hi) up refl
    by_sign false down =
        ap (λ (t : Bool). cond t (int_lt (i +ℤ step) hi) (int_lt hi (i +ℤ step))) down ∙
        down_test (int_lt hi (i +ℤ step)) down refl

-- The greatest common divisor of the strides in use is that of the distances of the places.
use Rattle.std.proofs.Common.{◌≡◌, ℕ, zero, suc, ◌+◌, ◌-◌, ◌%◌, ◌<◌, ◌≤◌, List, [], ◌∷◌, ◌++◌, Bool, true, false}
use Rattle.std.proofs.Common.{cond, eqb, ltb, refl, subst, ◌∙◌, arith, eqb-true, ltb-true}
use Rattle.std.proofs.Common.{ltb-false, ℤ, pos, negsuc, ◌+ℤ◌, ◌-ℤ◌, unsigned_abs}
use native.Mathlib.Nat.{dvd-add, dvd-sub}
use Rattle.std.specs.Int.{IsGcd, ◌∣◌}
use Rattle.std.specs.List.{AllByRecursion}
use Rattle.std.proofs.lemmas.Int.{ints}
use Rattle.std.proofs.lemmas.Nat.Gcd.{IsGcd-from_zero, IsGcd-from_mod, dvd_refl, dvd-zero, dvd_trans, dvd_antisymm}
use Rattle.view_places.specs.Rows.{turns, rows}
use Rattle.overlap.specs.Dimensions.{lacks}
use Rattle.overlap.specs.Divisors.{gcd, gcd_within}
use Rattle.overlap.specs.Lists.{divisor_from}
use Rattle.overlap.specs.Spans.{is_empty, first_of}
use Rattle.overlap.specs.Verdicts.{divisor}
use Rattle.overlap.proofs.SpanLemmas.{none-rows, first-rows}

within : (steps a b : ℕ) → b ≤ steps → IsGcd a b (gcd_within steps a b)
within zero a b h = IsGcd-from_zero a b (omega arith)
within (suc steps) a b h = by-test (eqb b 0) refl (λ some. within steps b (a % b) (omega arith))
  where
    above : (b : ℕ) → eqb b 0 ≡ false → 0 < b
    above zero e = cc
    above (suc b) e = omega arith

    by-test : (t : Bool) → eqb b 0 ≡ t → (0 < b → IsGcd b (a % b) (gcd_within steps b (a % b))) →
        IsGcd a b (cond t a (gcd_within steps b (a % b)))
    by-test true e next = IsGcd-from_zero a b (eqb-true b 0 e)
    by-test false e next = IsGcd-from_mod a b _ (next (above b e))

pub gcd-is : (a b : ℕ) → IsGcd a b (gcd a b)
unfolding gcd
gcd-is a b = within b a b (omega arith)

pub gcd-divided : (k a b : ℕ) → k ∣ a → k ∣ b → k ∣ gcd a b
gcd-divided k a b h m = (gcd-is a b).2 k h m

pub gcd-first : (k a b : ℕ) → k ∣ gcd a b → k ∣ a
gcd-first k a b h = dvd_trans k h (gcd-is a b).0

pub gcd-second : (k a b : ℕ) → k ∣ gcd a b → k ∣ b
gcd-second k a b h = dvd_trans k h (gcd-is a b).1

-- ---- sums of multiples
pub divides-sum : (k : ℕ) (a b : ℤ) → k ∣ unsigned_abs a → k ∣ unsigned_abs b → k ∣ unsigned_abs (a +ℤ b)
divides-sum k (pos a) (pos b) h m = dvd-add k h m
divides-sum k (pos a) (negsuc b) h m =
    let size : (a - suc b) + (suc b - a) ≡ unsigned_abs (pos a +ℤ negsuc b) = omega (arith, ints) in
    subst (λ (n : ℕ). k ∣ n) size (dvd-add k (dvd-sub k h m) (dvd-sub k m h))
divides-sum k (negsuc a) (pos b) h m =
    let size : (b - suc a) + (suc a - b) ≡ unsigned_abs (negsuc a +ℤ pos b) = omega (arith, ints) in
    subst (λ (n : ℕ). k ∣ n) size (dvd-add k (dvd-sub k m h) (dvd-sub k h m))
divides-sum k (negsuc a) (negsuc b) h m =
    let size : suc a + suc b ≡ unsigned_abs (negsuc a +ℤ negsuc b) = omega (arith, ints) in
    subst (λ (n : ℕ). k ∣ n) size (dvd-add k h m)

pub divides-negative : (k : ℕ) (a b : ℤ) → k ∣ unsigned_abs (a -ℤ b) → k ∣ unsigned_abs (b -ℤ a)
divides-negative k a b h =
    let size : unsigned_abs (a -ℤ b) ≡ unsigned_abs (b -ℤ a) = omega (arith, ints) in
    subst (λ (n : ℕ). k ∣ n) size h

pub divides-between : (k : ℕ) (a b p : ℤ) → k ∣ unsigned_abs (p -ℤ a) → k ∣ unsigned_abs (p -ℤ b) →
    k ∣ unsigned_abs (b -ℤ a)
divides-between k a b p h m =
    let way : (p -ℤ a) +ℤ (b -ℤ p) ≡ b -ℤ a = omega (arith, ints) in
    subst (λ (z : ℤ). k ∣ unsigned_abs z) way (divides-sum k (p -ℤ a) (b -ℤ p) h (divides-negative k p b m))

-- ---- distances within a list
abbrev pub Near : ℕ → ℤ → ℤ → Type 0
Near k q p = k ∣ unsigned_abs (p -ℤ q)

pub from-divides : (k : ℕ) (q : ℤ) (xs : List ℤ) → k ∣ divisor_from q xs → AllByRecursion (Near k q) xs
from-divides k q [] h = tt
from-divides k q (x ∷ xs) h = (
  gcd-second k (divisor_from q xs) _ h,
  from-divides k q xs
      (gcd-first k _ (unsigned_abs (x -ℤ q)) h),
)

pub divides-from : (k : ℕ) (q : ℤ) (xs : List ℤ) → AllByRecursion (Near k q) xs → k ∣ divisor_from q xs
divides-from k q [] h = dvd-zero k
divides-from k q (x ∷ xs) h = gcd-divided k (divisor_from q xs) _ (divides-from k q xs h.1) h.0

all-append : {A : Type 0} (P : A → Type 0) (xs ys : List A) → AllByRecursion P xs → AllByRecursion P ys →
    AllByRecursion P (xs ++ ys)
all-append P [] ys h k = k
all-append P (x ∷ xs) ys h k = (h.0, all-append P xs ys h.1 k)

all-left : {A : Type 0} (P : A → Type 0) (xs ys : List A) → AllByRecursion P (xs ++ ys) → AllByRecursion P xs
all-left P [] ys h = tt
all-left P (x ∷ xs) ys h = (h.0, all-left P xs ys h.1)

all-right : {A : Type 0} (P : A → Type 0) (xs ys : List A) → AllByRecursion P (xs ++ ys) → AllByRecursion P ys
all-right P [] ys h = h
all-right P (x ∷ xs) ys h = all-right P xs ys h.1

all-first : (P : ℤ → Type 0) (xs : List ℤ) → is_empty xs ≡ false → AllByRecursion P xs → P (first_of xs)
all-first P [] h k = cc
all-first P (x ∷ xs) h k = k.0

-- ---- strides in use
abbrev pub InUse : ℕ → List (ℕ × ℤ) → Type 0
InUse k [] = Unit {0}
InUse k (d ∷ ds) = (1 < d.0 → k ∣ unsigned_abs d.1) × InUse k ds

in_use-divide : (k : ℕ) (ds : List (ℕ × ℤ)) → InUse k ds → k ∣ divisor ds
in_use-divide k [] h = dvd-zero k
in_use-divide k (d ∷ ds) h = by-test (ltb 1 d.0) refl (in_use-divide k ds h.1)
  where
    by-test : (t : Bool) → ltb 1 d.0 ≡ t → k ∣ divisor ds →
        k ∣ cond t (gcd (divisor ds) (unsigned_abs d.1)) (divisor ds)
    by-test true e rest = gcd-divided k (divisor ds) (unsigned_abs d.1) rest (h.0 (ltb-true 1 d.0 e))
    by-test false e rest = rest

divide-in_use : (k : ℕ) (ds : List (ℕ × ℤ)) → k ∣ divisor ds → InUse k ds
divide-in_use k [] h = tt
divide-in_use k (d ∷ ds) h = by-test (ltb 1 d.0) refl h (λ m. divide-in_use k ds m)
  where
    by-test : (t : Bool) → ltb 1 d.0 ≡ t → k ∣ cond t (gcd (divisor ds) (unsigned_abs d.1)) (divisor ds) →
        (k ∣ divisor ds → InUse k ds) → InUse k (d ∷ ds)
    by-test true e m rest = (
      (λ _. gcd-second k (divisor ds) (unsigned_abs d.1) m),
      rest
          (gcd-first k (divisor ds) (unsigned_abs d.1) m),
    )
    by-test false e m rest = ((λ h. absurd (omega (arith, ltb-false 1 d.0 e))), rest m)

near-turns : (k : ℕ) (q : ℤ) (n : ℕ) (s : ℤ) (row : ℤ → List ℤ) (o : ℤ) → k ∣ unsigned_abs s →
    ((p : ℤ) → Near k q p → AllByRecursion (Near k q) (row p)) →
    Near k q o → AllByRecursion (Near k q) (turns n s row o)
near-turns k q zero s row o h each near = tt
near-turns k q (suc n) s row o h each near =
    let way : (o -ℤ q) +ℤ s ≡ (o +ℤ s) -ℤ q = omega (arith, ints) in
    let next : Near k q (o +ℤ s) = subst (λ (z : ℤ). k ∣ unsigned_abs z) way (divides-sum k (o -ℤ q) s near h) in
    all-append (Near k q) (row o) (turns n s row (o +ℤ s)) (each o near) (near-turns k q n s row (o +ℤ s) h each next)

near-rows : (k : ℕ) (q : ℤ) (ds : List (ℕ × ℤ)) (o : ℤ) → InUse k ds → Near k q o →
    AllByRecursion (Near k q) (rows ds o)
near-rows k q [] o h near = (near, tt)
near-rows k q ((zero, s) ∷ ds) o h near = tt
near-rows k q ((suc zero, s) ∷ ds) o h near = all-append (Near k q) (rows ds o) [] (near-rows k q ds o h.1 near) tt
near-rows k q ((suc (suc n), s) ∷ ds) o h near =
    near-turns k q (suc (suc n)) s (rows ds) o (h.0 (omega arith)) (λ p m. near-rows k q ds p h.1 m) near

rows-in_use : (k : ℕ) (ds : List (ℕ × ℤ)) (o : ℤ) → lacks ds ≡ false → AllByRecursion (Near k o) (rows ds o) →
    InUse k ds
rows-in_use k [] o some h = tt
rows-in_use k ((zero, s) ∷ ds) o some h = cc
rows-in_use k ((suc zero, s) ∷ ds) o some h =
    ((λ m. absurd (omega arith)), rows-in_use k ds o some (all-left (Near k o) (rows ds o) [] h))
rows-in_use k ((suc (suc n), s) ∷ ds) o some h =
    let rest : AllByRecursion (Near k o) (turns (suc n) s (rows ds) (o +ℤ s)) =
    all-right (Near k o) (rows ds o) (turns (suc n) s (rows ds) (o +ℤ s)) h in
    let second : AllByRecursion (Near k o) (rows ds (o +ℤ s)) =
    all-left (Near k o) (rows ds (o +ℤ s)) (turns n s (rows ds) ((o +ℤ s) +ℤ s)) rest in
    let start : Near k o (first_of (rows ds (o +ℤ s))) =
    all-first (Near k o) (rows ds (o +ℤ s)) (none-rows ds (o +ℤ s) ∙ some) second in
    let way : first_of (rows ds (o +ℤ s)) -ℤ o ≡ s = omega (arith, ints, first-rows ds (o +ℤ s) some) in (
      (λ _. subst (λ (z : ℤ). k ∣ unsigned_abs z) way start),
      rows-in_use k ds o some
          (all-left (Near k o) (rows ds o) (turns (suc n) s (rows ds) (o +ℤ s)) h),
    )

near-itself : (k : ℕ) (o : ℤ) → Near k o o
near-itself k o =
    let nothing : 0 ≡ unsigned_abs (o -ℤ o) = omega (arith, ints) in
    subst (λ (n : ℕ). k ∣ n) nothing (dvd-zero k)

-- the divisor of the strides in use is that of the distances from the first place
pub divisor-rows : (ds : List (ℕ × ℤ)) (o : ℤ) → lacks ds ≡ false → divisor ds ≡ divisor_from o (rows ds o)
divisor-rows ds o some =
    dvd_antisymm
    (divides-from (divisor ds) o (rows ds o) (near-rows (divisor ds) o ds o
    (divide-in_use (divisor ds) ds (dvd_refl (divisor ds))) (near-itself (divisor ds) o)))
    (in_use-divide (divisor_from o (rows ds o)) ds
    (rows-in_use (divisor_from o (rows ds o)) ds o some
    (from-divides (divisor_from o (rows ds o)) o (rows ds o) (dvd_refl (divisor_from o (rows ds o))))))

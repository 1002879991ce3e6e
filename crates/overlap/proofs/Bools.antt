-- Tests that are joined, and the first of three tests that holds.
use Rattle.std.proofs.Common.{◌≡◌, ◌≢◌, ◌⊎◌, inl, inr, Bool, true, false, not, ◌&&◌, ◌||◌, cond, refl, sym}
use Rattle.std.proofs.Common.{ℤ, ◌≤ℤ◌, ◌<ℤ◌, int_lt, int_le, arith}
use Rattle.std.proofs.lemmas.Int.{ints}
use Rattle.overlap.specs.declared.table.Verdict.{Verdict}
use Rattle.overlap.specs.declared.table.Verdict.TheVariants.{Apart, Same, Ahead, Clash}

pub and-first : (a b : Bool) → (a && b) ≡ true → a ≡ true
and-first true b h = refl
and-first false b h = h

pub and-second : (a b : Bool) → (a && b) ≡ true → b ≡ true
and-second true b h = h
and-second false b h = cc

pub and-both : (a b : Bool) → a ≡ true → b ≡ true → (a && b) ≡ true
and-both true b h k = k
and-both false b h k = h

pub or-second : (a b : Bool) → a ≡ false → (a || b) ≡ true → b ≡ true
or-second true b e h = cc
or-second false b e h = h

pub or-cases : (a b : Bool) → (a || b) ≡ true → (a ≡ true) ⊎ (b ≡ true)
or-cases true b h = inl refl
or-cases false b h = inr h

pub none-first : (a b : Bool) → (a || b) ≡ false → a ≡ false
none-first true b h = h
none-first false b h = refl

pub none-second : (a b : Bool) → (a || b) ≡ false → b ≡ false
none-second true b h = cc
none-second false b h = h

pub same-tests : (a b : Bool) → (a ≡ true → b ≡ true) → (b ≡ true → a ≡ true) → a ≡ b
same-tests true b f g = sym (f refl)
same-tests false true f g = g refl
same-tests false false f g = refl

pub or-same : (u v a b : Bool) → (u ≡ false → v ≡ false → a ≡ b) → ((u || v) || a) ≡ ((u || v) || b)
or-same true v a b h = refl
or-same false true a b h = refl
or-same false false a b h = h refl refl

pub and-true : (a b : Bool) → b ≡ true → a ≡ (a && b)
and-true true b h = sym h
and-true false b h = refl

pub not-true : (a : Bool) → not a ≡ true → a ≡ false
not-true true h = cc
not-true false h = refl

pub not-false : (a : Bool) → not a ≡ false → a ≡ true
not-false true h = refl
not-false false h = cc

pub never : (a : Bool) → (a ≡ true → ⊥) → not a ≡ true
never true h = absurd (h refl)
never false h = refl

-- ---- the first verdict that holds
pub kept : (t : Bool) (A x y : Verdict) → (t ≡ false → x ≡ y) → cond t A x ≡ cond t A y
kept true A x y h = refl
kept false A x y h = h refl

abbrev pub first_that_holds : Bool → Bool → Bool → Verdict
first_that_holds t u w = cond t Apart (cond u Same (cond w Ahead Clash))

pub where-apart : (t u w : Bool) → first_that_holds t u w ≡ Apart → t ≡ true
where-apart true u w h = refl
where-apart false true w h = cc
where-apart false false true h = cc
where-apart false false false h = cc

pub where-same : (t u w : Bool) → first_that_holds t u w ≡ Same → u ≡ true
where-same true u w h = cc
where-same false true w h = refl
where-same false false true h = cc
where-same false false false h = cc

pub where-ahead : (t u w : Bool) → first_that_holds t u w ≡ Ahead → w ≡ true
where-ahead true u w h = cc
where-ahead false true w h = cc
where-ahead false false true h = refl
where-ahead false false false h = cc

pub where-not_apart : (t u w : Bool) → first_that_holds t u w ≢ Apart → t ≡ false
where-not_apart true u w h = absurd (h refl)
where-not_apart false u w h = refl

pub where-not_clash : (t u w : Bool) → first_that_holds t u w ≢ Clash → (t ≡ true) ⊎ ((u ≡ true) ⊎ (w ≡ true))
where-not_clash true u w h = inl refl
where-not_clash false true w h = inr (inl refl)
where-not_clash false false true h = inr (inr refl)
where-not_clash false false false h = absurd (h refl)

-- ---- tests on whole numbers
pub lower : (a b : ℤ) → int_lt a b ≡ true → a <ℤ b
lower a b h = grind (arith, ints)

pub not-lower : (a b : ℤ) → int_le a b ≡ true → a ≤ℤ b
not-lower a b h = grind (arith, ints)

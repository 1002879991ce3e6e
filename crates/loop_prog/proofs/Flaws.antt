-- The first flaw of a list of entries, and walks over parts of it.
use Rattle.std.proofs.Common.{arith, length-append, ◌≡◌, ◌∙◌, ap, sym, ℕ, ◌+◌, List, [], ◌∷◌, ◌++◌, length}
use Rattle.std.proofs.Common.{Option, Some, None, Result, Ok, Err}
use Rattle.loop_prog.specs.Check.{first_broken, first_flaw, flaw_or}
use Rattle.loop_prog.specs.Judging.{Judged, Left}
use Rattle.loop_prog.specs.declared.invalid.CheckStop.{CheckStop}
use Rattle.loop_prog.specs.declared.invalid.CheckStop.TheVariants as stop
use Rattle.loop_prog.specs.declared.invalid.InvalidRule.{InvalidRule}
use Rattle.loop_prog.specs.declared.kept.Kept.{Kept}

abbrev Flaw : Type 0
Flaw = ℕ × InvalidRule

passes_on : (n : ℕ) (o : Option InvalidRule) (a b c : Option Flaw) → flaw_or n o a ≡ None → (a ≡ None → b ≡ c) →
    flaw_or n o b ≡ c
passes_on n None a b c h next = next h
passes_on n (Some r) a b c h next = absurd (let e : Some (n, r) ≡ None = h in cc)

keeps : (n : ℕ) (o : Option InvalidRule) (a b : Option Flaw) (p : Flaw) → flaw_or n o a ≡ Some p →
    (a ≡ Some p → b ≡ Some p) → flaw_or n o b ≡ Some p
keeps n None a b p h next = next h
keeps n (Some r) a b p h next = h

-- behind entries without a flaw the others decide
pub flaw_behind : (n : ℕ) (xs ys : List Kept) → first_flaw n xs ≡ None →
    first_flaw n (xs ++ ys) ≡ first_flaw (n + length xs) ys
flaw_behind n [] ys h = let e : n ≡ n + 0 = omega arith in ap (λ (k : ℕ). first_flaw k ys) e
flaw_behind n (x ∷ xs) ys h =
    let e : (n + 1) + length xs ≡ n + length (x ∷ xs) = omega arith in
    passes_on n (first_broken x) (first_flaw (n + 1) xs) (first_flaw (n + 1) (xs ++ ys))
    (first_flaw (n + length (x ∷ xs)) ys) h
    (λ none. flaw_behind (n + 1) xs ys none ∙ ap (λ (k : ℕ). first_flaw k ys) e)

-- a flaw stays the first one, whatever follows
pub flaw_first : (n : ℕ) (xs ys : List Kept) (p : Flaw) → first_flaw n xs ≡ Some p → first_flaw n (xs ++ ys) ≡ Some p
flaw_first n [] ys p h = absurd (let e : None ≡ Some p = h in cc)
flaw_first n (x ∷ xs) ys p h =
    keeps n (first_broken x) (first_flaw (n + 1) xs) (first_flaw (n + 1) (xs ++ ys)) p h (flaw_first (n + 1) xs ys p)

pub judged_then : (r : Result (Unit {0}) CheckStop) (n m last : ℕ) (xs ys : List Kept) → m ≡ n + length xs →
    first_flaw n xs ≡ None → Judged r m last ys → Judged r n last (xs ++ ys)
judged_then (Ok u) n m last xs ys at none (behind, flawless) =
    let size : length (xs ++ ys) ≡ length xs + length ys = length-append xs ys in
    let number : last ≡ n + length (xs ++ ys) = omega (arith, at, behind, size) in
    (number, flaw_behind n xs ys none ∙ (ap (λ (k : ℕ). first_flaw k ys) (sym at) ∙ flawless))
judged_then (Err (stop.Invalid k rule)) n m last xs ys at none h =
    flaw_behind n xs ys none ∙ (ap (λ (k : ℕ). first_flaw k ys) (sym at) ∙ h)
judged_then (Err stop.Memory) n m last xs ys at none h = h

pub judged_stops : (e : CheckStop) (n m last : ℕ) (xs ys : List Kept) →
    Judged (Err e) n m xs → Judged (Err e) n last (xs ++ ys)
judged_stops (stop.Invalid k rule) n m last xs ys h = flaw_first n xs ys (k, rule) h
judged_stops stop.Memory n m last xs ys h = h

pub left_more : (n m : ℕ) (xs ys : List Kept) (k : ℕ) (all : List Kept) → m ≡ n + length xs →
    first_flaw n xs ≡ None → Left n (xs ++ ys) k all → Left m ys k all
left_more n m xs ys k all at none (same, count) =
    let size : length (xs ++ ys) ≡ length xs + length ys = length-append xs ys in
    let number : m + length ys ≡ k + length all = omega (arith, at, count, size) in
    (ap (λ (j : ℕ). first_flaw j ys) at ∙ (sym (flaw_behind n xs ys none) ∙ same), number)

pub left_stops : (e : CheckStop) (n m last : ℕ) (xs ys : List Kept) (k : ℕ) (all : List Kept) →
    Judged (Err e) n m xs → Left n (xs ++ ys) k all → Judged (Err e) k last all
left_stops (stop.Invalid at rule) n m last xs ys k all h (same, count) =
    sym same ∙ flaw_first n xs ys (at, rule) h
left_stops stop.Memory n m last xs ys k all h left = h

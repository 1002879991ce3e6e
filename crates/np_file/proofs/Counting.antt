-- How many elements a shape has.
use Rattle.std.proofs.Common.{◌≡◌, ℕ, zero, suc, ◌+◌, ◌*◌, ◌<◌, min, List, [], ◌∷◌, ◌++◌, length, get_or, take, refl}
use Rattle.std.proofs.Common.{sym, ap, ◌∙◌, inl, inr, arith}
use Rattle.std.proofs.lemmas.Bool.{cases_lt}
use Rattle.std.proofs.lemmas.Grind.{take_at_read}
use Rattle.view_places.specs.Arrays.{element_count}

pub element_count-append : (ms ns : List ℕ) → element_count (ms ++ ns) ≡ element_count ms * element_count ns
element_count-append [] ns = omega arith
element_count-append (m ∷ ms) ns = ap (λ (x : ℕ). m * x) (element_count-append ms ns) ∙ omega arith

-- a product that is cut at a bound, and then taken on
large : (x n bound : ℕ) → bound < x → min (bound * n) bound ≡ min (x * n) bound
large x zero bound lt = omega arith
large x (suc n) bound lt = omega arith

capped : (x n bound : ℕ) → min (min x bound * n) bound ≡ min (x * n) bound
capped x n bound =
    elim (cases_lt bound x) [
      | inl lt ↦ let e : min x bound ≡ bound = omega arith in rw e (large x n bound lt)
      | inr le ↦ let e : min x bound ≡ x = omega arith in rw e refl
    ]

pub count_more : (bound : ℕ) (xs : List ℕ) (i : ℕ) → i < length xs →
    min (min (element_count (take i xs)) bound * get_or xs i 0) bound ≡ min (element_count (take (i + 1) xs)) bound
count_more bound xs i lt =
    let e = element_count-append (take i xs) (get_or xs i 0 ∷ []) in
    let t = (take_at_read xs i 0 lt).1 in
    capped (element_count (take i xs)) (get_or xs i 0) bound ∙
    ap (λ (y : ℕ). min y bound) (omega arith ∙ sym (ap element_count t ∙ e))

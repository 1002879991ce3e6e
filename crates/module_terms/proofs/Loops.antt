-- One turn of the loops over lists.
use Rattle.std.proofs.Common.{◌≡◌, ℕ, ◌+◌, ◌<◌, suc, List, [], ◌∷◌, ◌++◌, ap, sym, ◌∙◌, append_assoc, length, take}
use Rattle.std.proofs.Common.{drop, get_or, add-one}
use Rattle.std.proofs.Math.Seq.{drop-cons}
use Rattle.std.proofs.lemmas.List.{take_more}

pub item_here : {A : Type 0} (xs : List A) (at : ℕ) (x : A) → at < length xs → x ≡ get_or xs at x → drop at xs ≡ x
    ∷ drop (at + 1) xs
item_here xs at x lt is = rw add-one (drop-cons xs at x lt ∙ ap (λ y. y ∷ drop (suc at) xs) (sym is))

pub taken_here : {A : Type 0} (xs : List A) (at : ℕ) (x : A) → at < length xs → x ≡ get_or xs at x → take (at + 1) xs
    ≡ take at xs ++ x ∷ []
taken_here xs at x lt is = take_more xs at x lt ∙ ap (λ y. take at xs ++ y ∷ []) (sym is)

-- a list that grows by what the next of the rest gives
pub joins : {A B : Type 0} (h : List A → List B) (rest more : List A) (x : A) (ys out new whole : List B)
    → rest ≡ x ∷ more → h (x ∷ more) ≡ ys ++ h more → out ++ h rest ≡ whole → new ≡ out ++ ys
    → new ++ h more ≡ whole
joins h rest more x ys out new whole here first so_far is =
    ap (λ l. l ++ h more) is
    ∙ (append_assoc out ys (h more)
    ∙ (ap (λ l. out ++ l) (sym first) ∙ (sym (ap (λ l. out ++ h l) here) ∙ so_far)))

-- a value that changes with the next of the rest
pub goes : {A S R : Type 0} (h : S → List A → R) (rest more : List A) (x : A) (old new : S) (whole : R)
    → rest ≡ x ∷ more → h new more ≡ h old (x ∷ more) → h old rest ≡ whole → h new more ≡ whole
goes h rest more x old new whole here step so_far = step ∙ (sym (ap (h old) here) ∙ so_far)

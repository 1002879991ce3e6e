-- One turn of the loops over lists.
use Rattle.std.proofs.Common.{◌≡◌, ℕ, ◌+◌, ◌<◌, suc, Bool, true, false, ◌||◌, List, [], ◌∷◌, ◌++◌, refl, ap, sym, ◌∙◌}
use Rattle.std.proofs.Common.{append_assoc, Option, length, take, drop, get_or, add-one, flat_map}
use Rattle.std.proofs.Math.Seq.{drop-cons}
use Rattle.std.proofs.lemmas.List.{take_more}
use Rattle.std.proofs.lemmas.List.Folds.{list_any-append}
use Rattle.std.specs.List.{list_any}
use Rattle.krn_base.specs.declared.place.Loc.{Loc}
use Rattle.module_names.specs.Places.{sooner, soonest, in_turn}
use Rattle.module_names.specs.Sets.{Holds, holds}
use Rattle.module_names.specs.Words.{Bytes}
use Rattle.module_names.specs.declared.set.NameSet.{NameSet}
use Rattle.std.specs.Str.{bytes_eq}

pub item_here : {A : Type 0} (xs : List A) (at : ℕ) (x : A) → at < length xs → x ≡ get_or xs at x → drop at xs ≡ x
    ∷ drop (at + 1) xs
item_here xs at x lt is = rw add-one (drop-cons xs at x lt ∙ ap (λ y. y ∷ drop (suc at) xs) (sym is))

pub taken_here : {A : Type 0} (xs : List A) (at : ℕ) (x : A) → at < length xs → x ≡ get_or xs at x → take (at + 1) xs
    ≡ take at xs ++ x ∷ []
taken_here xs at x lt is = take_more xs at x lt ∙ ap (λ y. take at xs ++ y ∷ []) (sym is)

-- a list that grows by what each of the rest gives
pub grows : {A N : Type 0} (f : A → List N) (rest more : List A) (x : A) (out new whole : List N)
    → rest ≡ x ∷ more → out ++ flat_map f rest ≡ whole → new ≡ out ++ f x → new ++ flat_map f more ≡ whole
grows f rest more x out new whole here so_far is =
    ap (λ l. l ++ flat_map f more) is ∙ (append_assoc out (f x) (flat_map f more)
    ∙ (sym (ap (λ l. out ++ flat_map f l) here) ∙ so_far))

-- marks in a row
pub soonest_append : (a : List (Option Loc)) (first : Option Loc) (b : List (Option Loc)) → soonest first (a ++ b)
    ≡ soonest (soonest first a) b
soonest_append [] first b = refl
soonest_append (x ∷ a) first b = soonest_append a (sooner first x) b

-- the first of what each of the rest gives
pub nears : {A : Type 0} (f : A → List (Option Loc)) (rest more : List A) (x : A) (first new whole : Option Loc)
    → rest ≡ x ∷ more → soonest first (flat_map f rest) ≡ whole → new ≡ soonest first (f x)
    → soonest new (flat_map f more) ≡ whole
nears f rest more x first new whole here so_far is =
    ap (λ o. soonest o (flat_map f more)) is
    ∙ (sym (soonest_append (f x) first (flat_map f more)) ∙ (sym (ap (λ l. soonest first (flat_map f l)) here)
    ∙ so_far))

-- the same of each with those before it
pub nears_in_turn : {A : Type 0} (f : List A → A → List (Option Loc)) (before front rest more : List A) (x : A)
    (first new whole : Option Loc)
    → front ≡ before ++ x ∷ [] → rest ≡ x ∷ more → soonest first (in_turn f before rest) ≡ whole → new
    ≡ soonest first (f before x)
    → soonest new (in_turn f front more) ≡ whole
nears_in_turn f before front rest more x first new whole turn here so_far is =
    ap (λ l. soonest new (in_turn f l more)) turn
    ∙ (ap (λ o. soonest o (in_turn f (before ++ x ∷ []) more)) is
    ∙ (sym (soonest_append (f before x) first (in_turn f (before ++ x ∷ []) more))
    ∙ (sym (ap (λ l. soonest first (in_turn f before l)) here) ∙ so_far)))

or_false : (b : Bool) → b ≡ (b || false)
or_false true = refl
or_false false = refl

-- a set that holds the names of some things, and one more thing
pub holds_more : {A : Type 0} (test : Bytes → A → Bool) (old new : NameSet) (before : List A) (x : A) (name : Bytes)
    → Holds test old before → ((other : Bytes) → holds new other ≡ (holds old other || bytes_eq name other))
    → ((other : Bytes) → test other x ≡ bytes_eq name other) → Holds test new (before ++ x ∷ [])
holds_more test old new before x name h others is = λ q.
    others q ∙ (ap (λ b. b || bytes_eq name q) (h q)
    ∙ (ap (λ b. list_any (test q) before || b) (or_false (bytes_eq name q) ∙ ap (λ b. b || false) (sym (is q)))
    ∙ sym (list_any-append (test q) before (x ∷ []))))

pub holds_same : {A : Type 0} (test : Bytes → A → Bool) (old : NameSet) (before : List A) (x : A)
    → Holds test old before → ((other : Bytes) → test other x ≡ false) → Holds test old (before ++ x ∷ [])
holds_same test old before x h is = λ q.
    h q ∙ (or_false (list_any (test q) before) ∙ (ap (λ b. list_any (test q) before || (b || false)) (sym (is q))
    ∙ sym (list_any-append (test q) before (x ∷ []))))

-- One turn of the loops over items.
use Rattle.std.proofs.Common.{◌≡◌, ℕ, ◌+◌, ◌<◌, Bool, true, false, cond, ◌||◌, List, [], ◌∷◌, ◌++◌, refl, ap, sym}
use Rattle.std.proofs.Common.{◌∙◌, append_assoc, Option, Some, None, Result, Ok, Err, length, take, drop, get_or}
use Rattle.std.proofs.Common.{add-one, suc}
use Rattle.std.proofs.Math.Seq.{drop-cons}
use Rattle.std.proofs.lemmas.List.{take_more}
use Rattle.std.proofs.lemmas.List.Folds.{list_any-append}
use Rattle.std.proofs.lemmas.Map.Text.{btree_map_updates_str}
use Rattle.std.specs.BTreeMap.{BTreeMap, get_by, UpdatesBy}
use Rattle.std.specs.Cmp.Lexicographic.{slice_cmp}
use Rattle.std.specs.List.{list_any}
use Rattle.std.specs.Option.{is_some}
use Rattle.std.specs.Ordering.{nat_cmp}
use Rattle.std.specs.Result.{OnOk}
use Rattle.std.specs.Str.{bytes_eq}
use Rattle.call_binding.specs.Parameters.{has, has_name, HasNames}
use Rattle.call_binding.specs.Reading.{item, read_next, read_from}
use Rattle.call_binding.specs.Tests.{is_same, is_again, is_among}
use Rattle.call_binding.specs.declared.items.Item.{Item}
use denote.Ref.{Bor}

-- the items so far, and what is read behind them
abbrev pub following : List Item → Result (List Item) ℕ → Result (List Item) ℕ
following items (Err n) = Err n
following items (Ok rest) = Ok (items ++ rest)

pub following_more : (items : List Item) (n : ℕ) (x : Item) (rest : Result (List Item) ℕ)
    → following items (read_next n (Some x) rest) ≡ following (items ++ x ∷ []) rest
following_more items n x (Err m) = refl
following_more items n x (Ok xs) = ap Ok (sym (append_assoc items (x ∷ []) xs))

pub item_here : {A : Type 0} (xs : List A) (at : ℕ) (x : A) → at < length xs → x ≡ get_or xs at x
    → drop at xs ≡ x ∷ drop (at + 1) xs
item_here xs at x lt is = rw add-one (drop-cons xs at x lt ∙ ap (λ y. y ∷ drop (suc at) xs) (sym is))

pub taken_here : {A : Type 0} (xs : List A) (at : ℕ) (x : A) → at < length xs → x ≡ get_or xs at x
    → take (at + 1) xs ≡ take at xs ++ x ∷ []
taken_here xs at x lt is = take_more xs at x lt ∙ ap (λ y. take at xs ++ y ∷ []) (sym is)

-- one more item that is read
pub read_more : (items : List Item) (texts : List (List ℕ)) (at : ℕ) (text : List ℕ) (x : Item)
    (whole : Result (List Item) ℕ)
    → following items (read_from (at + 1) (text ∷ texts)) ≡ whole → Some x ≡ item text
    → following (items ++ x ∷ []) (read_from (at + 1 + 1) texts) ≡ whole
read_more items texts at text x whole left e =
    sym (following_more items (at + 1) x (read_from (at + 1 + 1) texts))
    ∙ (ap (λ o. following items (read_next (at + 1) o (read_from (at + 1 + 1) texts))) e ∙ left)

-- ---- the maps of names

met : {A : Type 0} (b : Bool) (x : A) (o : Option A) → is_some (cond b (Some x) o) ≡ (is_some o || b)
met true x None = refl
met true x (Some y) = refl
met false x None = refl
met false x (Some y) = refl

-- after the insertion of p
pub has_more : {A : Type 0} (p : List ℕ) (x : A) (old new : BTreeMap (Bor (List ℕ)) A)
    → UpdatesBy (λ a b. slice_cmp nat_cmp a.now b.now) (λ k. slice_cmp nat_cmp p k.now) old new (Some x)
    → (q : List ℕ) → has new q ≡ (has old q || bytes_eq p q)
has_more p x old new h q = ap is_some (btree_map_updates_str p old new (Some x) h q)
    ∙ met (bytes_eq p q) x (get_by (λ k. slice_cmp nat_cmp q k.now) old)

pub or_false : (b : Bool) → b ≡ (b || false)
or_false true = refl
or_false false = refl

module _ {A : Type 0} (name_of : Item
    → Option (List ℕ)) (old new : BTreeMap (Bor (List ℕ)) A) (before : List Item) (x : Item)
    (h : HasNames name_of old before) where
  pub again_by : (o : Option (List ℕ)) → has_name old o ≡ is_among name_of before o
  again_by None = refl
  again_by (Some q) = h q

  pub names_more : ((q : List ℕ) → has new q ≡ (has old q || is_same (name_of x) q))
      → HasNames name_of new (before ++ x ∷ [])
  names_more e q =
      e q ∙ (ap (λ b. b || is_same (name_of x) q) (h q)
      ∙ (ap (λ b. list_any (λ y. is_same (name_of y) q) before || b) (or_false (is_same (name_of x) q))
      ∙ sym (list_any-append (λ y. is_same (name_of y) q) before (x ∷ []))))

pub on_ok : {T E : Type 0} (r : Result T E) (P Q : Type 0) → (P → Q) → OnOk r P → OnOk r Q
on_ok (Ok x) P Q f h = f h
on_ok (Err e) P Q f h = tt

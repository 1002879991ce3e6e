-- An index of functions by their names, with one more function before those that it has.
use Rattle.std.proofs.Common.{arith, add-one, ◌≡◌, ℕ, suc, ◌+◌, ◌-◌, ◌<◌, ◌≤◌, Bool}
use Rattle.std.proofs.Common.{true, false, cond, List, ◌∷◌, length, get_or, drop}
use Rattle.std.proofs.Common.{refl, sym, ap, subst, ◌∙◌, Option, Some}
use Rattle.std.specs.Borrow.{Bor}
use Rattle.std.specs.HashMap.{HashMap, UpdatesBy}
use Rattle.std.specs.Str.{bytes_eq}
use Rattle.std.proofs.Math.Seq.{drop-cons}
use Rattle.std.proofs.lemmas.Map.Text.{hash_map_updates_str}
use Rattle.py_parse.specs.declared.tree.Function.{Function}
use Rattle.export_sig.specs.Counts.{HoldsNumbers}
use Rattle.export_sig.specs.Exports.{parameter_count}
use Rattle.export_sig.proofs.Tools.{text_is, same_text}

one_way : (p q : Bool) → (p ≡ true → q ≡ true) → (q ≡ true → p ≡ true) → p ≡ q
one_way true q f g = sym (f refl)
one_way false true f g = g refl
one_way false false f g = refl

either_way : (a b : List ℕ) → bytes_eq a b ≡ true → bytes_eq b a ≡ true
either_way a b e = subst (λ (t : List ℕ). bytes_eq t a ≡ true) (text_is a b e) (same_text a)

turned : (a b : List ℕ) → bytes_eq a b ≡ bytes_eq b a
turned a b = one_way (bytes_eq a b) (bytes_eq b a) (either_way a b) (either_way b a)

pub holds_one_more : {S : Type 0} (f : Function) (fs : List Function) (name : List ℕ) (count : ℕ)
    (old new : HashMap (Bor (List ℕ)) ℕ S) → name ≡ f.name.text → count ≡ length f.params → HoldsNumbers fs old
    → UpdatesBy (λ a b. bytes_eq a.now b.now) (λ k. bytes_eq name k.now) old new (Some count)
    → HoldsNumbers (f ∷ fs) new
holds_one_more f fs name count old new named counted h u other =
    hash_map_updates_str name old new (Some count) u other
    ∙ ap (λ (o : Option ℕ). cond (bytes_eq name other) (Some count) o) (h other)
    ∙ ap (λ (t : Bool). cond t (Some count) (parameter_count fs other)) (turned name other)
    ∙ ap (λ (n : List ℕ). cond (bytes_eq other n) (Some count) (parameter_count fs other)) named
    ∙ ap (λ (n : ℕ). cond (bytes_eq other f.name.text) (Some n) (parameter_count fs other)) counted

item_here : {A : Type 0} (xs : List A) (at : ℕ) (x : A) → at < length xs → x ≡ get_or xs at x
    → drop at xs ≡ x ∷ drop (at + 1) xs
item_here xs at x lt is = rw add-one (drop-cons xs at x lt ∙ ap (λ y. y ∷ drop (suc at) xs) (sym is))

next : (left : ℕ) → 0 < left → left - 1 + 1 ≡ left
next left some = omega arith

-- the items from the one before this on
pub drop_before : {A : Type 0} (xs : List A) (left : ℕ) (x : A) → 0 < left → left ≤ length xs
    → x ≡ get_or xs (left - 1) x → drop (left - 1) xs ≡ x ∷ drop left xs
drop_before xs left x some within is =
    item_here xs (left - 1) x (omega arith) is
    ∙ ap (λ (n : ℕ). x ∷ drop n xs) (next left some)

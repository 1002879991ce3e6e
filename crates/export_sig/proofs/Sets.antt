-- Names and places by sets.
use Rattle.std.proofs.Common.{◌≡◌, ℕ, ◌+◌, ◌<◌, Bool, true, false, cond, not, ◌&&◌, ◌||◌, List, [], ◌∷◌, ◌++◌}
use Rattle.std.proofs.Common.{length, get_or, drop, map, refl, sym, ap, ◌∙◌, add-one, drop-cons}
use Rattle.std.specs.Prelude.{nat_eq}
use Rattle.std.specs.List.{list_any}
use Rattle.std.specs.Str.{bytes_eq}
use Rattle.std.proofs.lemmas.Bool.{eqb-true}
use Rattle.std.proofs.lemmas.List.Folds.{list_any-append}
use Rattle.krn_base.specs.declared.operation.Join.{Join}
use Rattle.py_parse.specs.declared.tree.Name.{Name}
use Rattle.export_sig.specs.Listing.{are_apart, texts}
use Rattle.export_sig.proofs.Tools.{both_true}

list_any_map : {K : Type 0} (now : K → List ℕ) (w : List ℕ) (ks : List K) → list_any
    (λ k. bytes_eq w (now k)) ks ≡ list_any (bytes_eq w) (map now ks)
list_any_map now w [] = refl
list_any_map now w (k ∷ ks) = ap (λ (t : Bool). bytes_eq w (now k) || t) (list_any_map now w ks)

map_push : {K : Type 0} (now : K → List ℕ) (ks : List K) (k : K) → map now (ks ++ k ∷ []) ≡ map now ks ++ now k ∷ []
map_push now [] k = refl
map_push now (x ∷ ks) k = ap (λ (us : List (List ℕ)). now x ∷ us) (map_push now ks k)

seen_by : (t : Bool) (rest : Bool) → t ≡ true → (not t && rest) ≡ false
seen_by t rest e = ap (λ (x : Bool). not x && rest) e

new_by : (t : Bool) (rest : Bool) → t ≡ false → (not t && rest) ≡ rest
new_by t rest e = ap (λ (x : Bool). not x && rest) e

module _ {K : Type 0} (now : K → List ℕ) (pairs : List (Join × Name)) (i : ℕ) (pair : Join × Name) (keys : List K)
    (k : K) (whole : Bool)
    (within : i < length pairs) (item : pair ≡ get_or pairs i pair) (key : now k ≡ pair.1.text)
    (so : are_apart (map now keys) (texts (drop i pairs)) ≡ whole) where
  step : texts (drop i pairs) ≡ now k ∷ texts (drop (i + 1) pairs)
  step =
      let d : drop i pairs ≡ get_or pairs i pair ∷ drop (i + 1) pairs = rw (add-one, drop-cons pairs i pair) refl in
      ap texts d ∙ ap (λ (p : Join × Name). p.1.text ∷ texts (drop (i + 1) pairs)) (sym item) ∙ ap
      (λ (w : List ℕ). w ∷ texts (drop (i + 1) pairs)) (sym key)

  -- a name that was seen
  pub stands_twice : list_any (λ x. bytes_eq (now k) (now x)) keys ≡ true → false ≡ whole
  stands_twice e =
      sym (ap (are_apart (map now keys)) step ∙ seen_by (list_any (bytes_eq (now k)) (map now keys)) _
      (sym (list_any_map now (now k) keys) ∙ e)) ∙ so

  -- a name that is new, and is seen from here on
  pub goes_on : list_any (λ x. bytes_eq (now k) (now x)) keys ≡ false → are_apart (map now (keys ++ k ∷ []))
      (texts (drop (i + 1) pairs)) ≡ whole
  goes_on e =
      ap (λ (us : List (List ℕ)). are_apart us (texts (drop (i + 1) pairs))) (map_push now keys k)
      ∙ sym (ap (are_apart (map now keys)) step ∙ new_by (list_any (bytes_eq (now k)) (map now keys)) _
      (sym (list_any_map now (now k) keys) ∙ e)) ∙ so

-- ---- places

found_by : {K : Type 0} (eq : K → Bool) (q : K → Bool) (x k : K) (xs : List K) (t : Bool) → eq x ≡ t →
    (eq x ≡ true → q x ≡ q k) → q k ≡ true
    → (list_any eq xs ≡ true → list_any q xs ≡ true) → (t || list_any eq xs) ≡ true → (q x || list_any q xs) ≡ true
found_by eq q x k xs true e same here again h = ap (λ (t : Bool). t || list_any q xs) (same e ∙ here)
found_by eq q x k xs false e same here again h = ap (λ (t : Bool). q x || t) (again h) ∙ or_true (q x)
  where
    or_true : (t : Bool) → (t || true) ≡ true
    or_true true = refl
    or_true false = refl

found : {K : Type 0} (eq : K → Bool) (q : K → Bool) (k : K) (xs : List K)
    → ((x : K) → eq x ≡ true → q x ≡ q k) → q k ≡ true → list_any eq xs ≡ true → list_any q xs ≡ true
found eq q k [] same here h = absurd cc
found eq q k (x ∷ xs) same here h = found_by eq q x k xs (eq x) refl (same x) here (λ g. found eq q k xs same here g) h

or_same : (a b : Bool) → (b ≡ true → a ≡ true) → a ≡ (a || b)
or_same true b h = refl
or_same false true h = absurd (let e : false ≡ true = h refl in cc)
or_same false false h = refl

pub or_end : (a b : Bool) → (a || (b || false)) ≡ (a || b)
or_end true b = refl
or_end false true = refl
or_end false false = refl

pub inserted : {K : Type 0} (eq : K → Bool) (q : K → Bool) (k : K) (xs : List K)
    → ((x : K) → eq x ≡ true → q x ≡ q k) → list_any q (cond (list_any eq xs) xs (xs ++ k ∷ [])) ≡ (list_any q xs
    || q k)
inserted eq q k xs same = by (list_any eq xs) refl
  where
    by : (t : Bool) → list_any eq xs ≡ t → list_any q (cond t xs (xs ++ k ∷ [])) ≡ (list_any q xs || q k)
    by true e = or_same (list_any q xs) (q k) (λ here. found eq q k xs same here e)
    by false e = list_any-append q xs (k ∷ []) ∙ or_end (list_any q xs) (q k)

pub same_pair : (p k : ℕ × ℕ) → (nat_eq p.0 k.0 && nat_eq p.1 k.1) ≡ true → k ≡ p
same_pair p k h =
    let t = both_true (nat_eq p.0 k.0) (nat_eq p.1 k.1) h in
    let a : p.0 ≡ k.0 = eqb-true p.0 k.0 t.0 in
    let b : p.1 ≡ k.1 = eqb-true p.1 k.1 t.1 in
    sym (ap (λ (x : ℕ). (x, p.1)) a ∙ ap (λ (x : ℕ). (k.0, x)) b)

pub kept_keys : {K : Type 0} (t : Bool) (a b : List K) → t ≡ false → cond t a b ≡ b
kept_keys t a b e = ap (λ (x : Bool). cond x a b) e

pub flipped : (r t : Bool) → r ≡ not t → r ≡ false → t ≡ true
flipped r true e f = refl
flipped r false e f = absurd cc

pub kept : (r t : Bool) → r ≡ not t → r ≡ true → t ≡ false
kept r true e f = absurd cc
kept r false e f = refl

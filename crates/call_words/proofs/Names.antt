-- What a word has in front of its first `=` (61), and behind it.
use Rattle.std.proofs.Common.{◌≡◌, ℕ, suc, Bool, true, false, not, ◌==◌, cond, [], ◌∷◌, ◌++◌}
use Rattle.std.proofs.Common.{refl, sym, ap, ◌∙◌, Some, None, arith, take}
use Rattle.std.specs.List.{before_first, prefix_len}
use Rattle.std.specs.Str.{bytes_eq}
use Rattle.std.proofs.lemmas.Bool.{eqb-true}
use Rattle.clap.proofs.CutLemmas.{Lacks}
use Rattle.call_words.specs.Request.{Text, after_name}

-- the word is the name
pub named : (name text : Text) → after_name name text ≡ Some None → text ≡ name
named [] [] h = refl
named [] (c ∷ rest) h = by_test (c == 61) h
  where
    by_test : (b : Bool) → cond b (Some (Some rest)) None ≡ Some None → c ∷ rest ≡ []
    by_test true e = absurd cc
    by_test false e = absurd cc
named (n ∷ name) [] h = absurd cc
named (n ∷ name) (c ∷ rest) h = by_test (n == c) refl h (named name rest)
  where
    by_test : (b : Bool) → (n == c) ≡ b → cond b (after_name name rest) None ≡ Some None
        → (after_name name rest ≡ Some None → rest ≡ name) → c ∷ rest ≡ n ∷ name
    by_test true is e less = ap (λ (x : ℕ). x ∷ rest) (sym (eqb-true n c is)) ∙ ap (λ (xs : Text). n ∷ xs) (less e)
    by_test false is e less = absurd cc

-- the word is the name, `=` and the value
pub valued : (name text value : Text) → after_name name text ≡ Some (Some value) → text ≡ name ++ 61 ∷ value
valued [] [] value h = absurd cc
valued [] (c ∷ rest) value h = by_test (c == 61) refl h
  where
    by_test : (b : Bool) → (c == 61) ≡ b → cond b (Some (Some rest)) None ≡ Some (Some value) → c ∷ rest ≡ 61 ∷ value
    by_test true is e =
        let same : rest ≡ value = cc in
        ap (λ (x : ℕ). x ∷ rest) (eqb-true c 61 is) ∙ ap (λ (xs : Text). 61 ∷ xs) same
    by_test false is e = absurd cc
valued (n ∷ name) [] value h = absurd cc
valued (n ∷ name) (c ∷ rest) value h = by_test (n == c) refl h (valued name rest value)
  where
    by_test : (b : Bool) → (n == c) ≡ b → cond b (after_name name rest) None ≡ Some (Some value)
        → (after_name name rest ≡ Some (Some value) → rest ≡ name ++ 61 ∷ value)
        → c ∷ rest ≡ n ∷ (name ++ 61 ∷ value)
    by_test true is e less = ap (λ (x : ℕ). x ∷ rest) (sym (eqb-true n c is)) ∙ ap (λ (xs : Text). n ∷ xs) (less e)
    by_test false is e less = absurd cc

abbrev front : Text → Text
front text = before_first (λ x. x == 61) text

-- what stands before the first `=` of a text, by its first byte
front_more : (c : ℕ) (rest : Text) → (c == 61) ≡ false → front (c ∷ rest) ≡ c ∷ front rest
front_more c rest e =
    let at : prefix_len (λ x. not (x == 61)) (c ∷ rest) ≡ suc (prefix_len (λ x. not (x == 61)) rest) =
    rw e (omega arith) in
    ap (λ (n : ℕ). take n (c ∷ rest)) at

front_none : (c : ℕ) (rest : Text) → (c == 61) ≡ true → front (c ∷ rest) ≡ []
front_none c rest e = rw e refl

-- the word has another name
pub renamed : (name text : Text) → Lacks 61 name → after_name name text ≡ None → bytes_eq name (front text) ≡ false
renamed [] [] lacks h = absurd cc
renamed [] (c ∷ rest) lacks h = by_test (c == 61) refl h
  where
    by_test : (b : Bool) → (c == 61) ≡ b → cond b (Some (Some rest)) None ≡ None
        → bytes_eq [] (front (c ∷ rest)) ≡ false
    by_test true is e = absurd cc
    by_test false is e = ap (bytes_eq []) (front_more c rest is)
renamed (n ∷ name) [] lacks h = refl
renamed (n ∷ name) (c ∷ rest) lacks h = by_first (c == 61) refl (renamed name rest tail)
  where
    tail : Lacks 61 name
    tail i lt = lacks (suc i) (omega (arith, lt))

    by_test : (b : Bool) → (n == c) ≡ b → cond b (after_name name rest) None ≡ None
        → (after_name name rest ≡ None → bytes_eq name (front rest) ≡ false)
        → bytes_eq (n ∷ name) (c ∷ front rest) ≡ false
    by_test true is e less = rw is (less e)
    by_test false is e less = rw is refl

    by_first : (b : Bool) → (c == 61) ≡ b → (after_name name rest ≡ None → bytes_eq name (front rest) ≡ false)
        → bytes_eq (n ∷ name) (front (c ∷ rest)) ≡ false
    by_first true is less = ap (bytes_eq (n ∷ name)) (front_none c rest is)
    by_first false is less = ap (bytes_eq (n ∷ name)) (front_more c rest is) ∙ by_test (n == c) refl h less

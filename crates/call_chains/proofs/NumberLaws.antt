-- The numbers of functions by name.
use Rattle.std.proofs.Common.{◌≡◌, ℕ, ◌+◌, ◌<◌, Bool, true, false, cond, List, [], ◌∷◌, ◌++◌, length, get_or, take}
use Rattle.std.proofs.Common.{map, flat_map, Option, Some, None, refl, ap, sym, subst, ◌∙◌, arith, append-nil}
use Rattle.std.proofs.lemmas.Grind.{flat_map-append}
use Rattle.std.proofs.lemmas.List.{take_more, map-append}
use Rattle.module_names.specs.declared.node.Node.{Node}
use Rattle.std.specs.Str.{bytes_eq}
use Rattle.std.proofs.lemmas.Slice.Eq.{bytes_eq-Decides}
use Rattle.module_names.specs.Words.{Bytes, is_called}
use Rattle.py_parse.specs.declared.tree.Function.{Function}
use Rattle.call_chains.specs.Calls.{number_from, number_of}
use Rattle.call_chains.specs.Numbers.{found, AreOf}
use Rattle.call_chains.specs.declared.graph.Numbers.{Numbers}

-- the first of two
abbrev pub earlier : Option ℕ → Option ℕ → Option ℕ
earlier (Some n) later = Some n
earlier None later = later

abbrev here : Bool → ℕ → Option ℕ
here test n = cond test (Some n) None

none_later : (o : Option ℕ) → earlier o None ≡ o
none_later (Some n) = refl
none_later None = refl

number_append : (n : ℕ) (before : List Function) (f : Function) (text : Bytes)
    → number_from n (before ++ f ∷ []) text ≡ earlier (number_from n before text) (here (is_called text f) (n
    + length before))
number_append n [] f text = ap (here (is_called text f)) (omega arith)
number_append n (g ∷ before) f text = by_test (is_called text g) (number_append (n + 1) before f text)
  where
    by_test : (t : Bool) → number_from (n + 1) (before ++ f ∷ []) text
        ≡ earlier (number_from (n + 1) before text) (here (is_called text f) (n + 1 + length before))
        → cond t (Some n) (number_from (n + 1) (before ++ f ∷ []) text)
        ≡ earlier (cond t (Some n) (number_from (n + 1) before text)) (here (is_called text f) (n
        + length (g ∷ before)))
    by_test true rest = refl
    by_test false rest =
        let count : n + 1 + length before ≡ n + length (g ∷ before) = omega arith in
        rest ∙ ap (λ m. earlier (number_from (n + 1) before text) (here (is_called text f) m)) count

module _ (old new : Numbers) (before : List Function) (f : Function) (are : AreOf old before) where
  at_end : (text : Bytes) → number_of (before ++ f ∷ []) text ≡ earlier (found old text) (here (is_called text f)
      (length before))
  at_end text =
      let count : 0 + length before ≡ length before = omega arith in
      number_append 0 before f text
      ∙ ap (λ m. earlier (number_of before text) (here (is_called text f) m)) count
      ∙ ap (λ o. earlier o (here (is_called text f) (length before))) (sym (are text))

  same_text : (text : Bytes) → is_called text f ≡ true → found old text ≡ found old f.name.text
  same_text text e = ap (found old) (sym ((bytes_eq-Decides f.name.text text).0 e))

  pub added : found old f.name.text ≡ None
      → ((text : Bytes) → found new text ≡ cond (is_called text f) (Some (length before)) (found old text))
      → AreOf new (before ++ f ∷ [])
  added none is text = is text ∙ (by_test (is_called text f) refl ∙ sym (at_end text))
    where
      by_test : (t : Bool) → is_called text f ≡ t → cond (is_called text f) (Some (length before)) (found old text)
          ≡ earlier (found old text) (here (is_called text f) (length before))
      by_test true e =
          ap (λ t. cond t (Some (length before)) (found old text)) e
          ∙ (ap (λ o. earlier o (Some (length before))) (sym (same_text text e ∙ none))
          ∙ ap (λ t. earlier (found old text) (here t (length before))) (sym e))
      by_test false e =
          ap (λ t. cond t (Some (length before)) (found old text)) e
          ∙ (sym (none_later (found old text)) ∙ ap (λ t. earlier (found old text) (here t (length before))) (sym e))

  pub known : (number : ℕ) → found old f.name.text ≡ Some number → AreOf old (before ++ f ∷ [])
  known number some text = by_test (is_called text f) refl ∙ sym (at_end text)
    where
      by_test : (t : Bool) → is_called text f ≡ t → found old text
          ≡ earlier (found old text) (here (is_called text f) (length before))
      by_test true e =
          let is : found old text ≡ Some number = same_text text e ∙ some in
          is ∙ ap (λ o. earlier o (here (is_called text f) (length before))) (sym is)
      by_test false e =
          sym (none_later (found old text)) ∙ ap (λ t. earlier (found old text) (here t (length before))) (sym e)

-- the calls of one more node, and of one more function
pub nodes_more : {A N : Type 0} (f : N → List A) (s : Node → N) (nodes : List Node) (at : ℕ) (x : Node)
    (calls more : List A) → at < length nodes → x ≡ get_or nodes at x → calls ≡ flat_map f (map s (take at nodes))
    → more ≡ calls ++ f (s x) → more ≡ flat_map f (map s (take (at + 1) nodes))
nodes_more f s nodes at x calls more lt here so_far is =
    is
    ∙ (ap (λ l. l ++ f (s x)) so_far
    ∙ sym (ap (λ l. flat_map f (map s l)) (take_more nodes at x lt ∙ ap (λ y. take at nodes ++ y ∷ []) (sym here))
    ∙ (ap (flat_map f) (map-append s (take at nodes) (x ∷ []))
    ∙ (flat_map-append f (map s (take at nodes)) (s x ∷ [])
    ∙ ap (λ l. flat_map f (map s (take at nodes)) ++ l) (append-nil (f (s x)))))))

-- A list of numbered texts with one more.
use Rattle.std.proofs.Common.{◌≡◌, ℕ, Bool, true, false, cond, List, [], ◌∷◌, ◌++◌, Option, Some, None, ap, ◌∙◌, sym}
use Rattle.std.proofs.Common.{refl, subst}
use Rattle.std.specs.Global.{Vec}
use Rattle.std.specs.Map.{lookup}
use Rattle.std.specs.Option.{is_some}
use Rattle.std.specs.Str.{bytes_eq}
use Rattle.std.proofs.lemmas.Slice.Eq.{bytes_eq-Decides}
use Rattle.array_types.specs.Find.{find, given_by}

abbrev Numbered : Type 0
Numbered = List (List ℕ × ℕ)

abbrev pub or_later : Option ℕ → Option ℕ → Option ℕ
or_later (Some x) later = Some x
or_later None later = later

later_given : (b : Bool) (x : ℕ) (o later : Option ℕ) → given_by b x (or_later o later) ≡
    or_later (given_by b x o) later
later_given true x o later = refl
later_given false x o later = refl

find_append : (q : List ℕ) (xs : Numbered) (text : List ℕ) (n : ℕ) →
    find q (xs ++ (text, n) ∷ []) ≡ or_later (find q xs) (given_by (bytes_eq text q) n None)
find_append q [] text n = refl
find_append q (e ∷ xs) text n =
    ap (given_by (bytes_eq e.0 q) e.1) (find_append q xs text n)
    ∙ later_given (bytes_eq e.0 q) e.1 (find q xs) (given_by (bytes_eq text q) n None)

pub or_nothing : (o : Option ℕ) → or_later o None ≡ o
or_nothing None = refl
or_nothing (Some x) = refl

pub or_some : (o later : Option ℕ) → is_some o ≡ true → or_later o later ≡ o
or_some None later h = absurd (let e : false ≡ true = h in cc)
or_some (Some x) later h = refl

-- what a text had before counts
kept_by : (b : Bool) (n : ℕ) (text q : List ℕ) (xs : Numbered) → bytes_eq text q ≡ b →
    is_some (find text xs) ≡ true → or_later (find q xs) (given_by b n None) ≡ find q xs
kept_by false n text q xs is there = or_nothing (find q xs)
kept_by true n text q xs is there =
    or_some (find q xs) (Some n)
    (subst (λ (t : List ℕ). is_some (find t xs) ≡ true) ((bytes_eq-Decides text q).0 is) there)

pub kept : (xs : Numbered) (text : List ℕ) (n : ℕ) → is_some (find text xs) ≡ true → (q : List ℕ) →
    find q xs ≡ find q (xs ++ (text, n) ∷ [])
kept xs text n there q =
    sym (find_append q xs text n ∙ kept_by (bytes_eq text q) n text q xs refl there)

bytes_sym_by : (a b : List ℕ) (p r : Bool) → bytes_eq a b ≡ p → bytes_eq b a ≡ r → p ≡ r
bytes_sym_by a b true true h k = refl
bytes_sym_by a b false false h k = refl
bytes_sym_by a b true false h k = sym ((bytes_eq-Decides b a).1 (sym ((bytes_eq-Decides a b).0 h))) ∙ k
bytes_sym_by a b false true h k = sym h ∙ (bytes_eq-Decides a b).1 (sym ((bytes_eq-Decides b a).0 k))

bytes_sym : (a b : List ℕ) → bytes_eq a b ≡ bytes_eq b a
bytes_sym a b = bytes_sym_by a b (bytes_eq a b) (bytes_eq b a) refl refl

later_cond : (b : Bool) (x : ℕ) (o later : Option ℕ) → cond b (Some x) (or_later o later) ≡
    or_later (cond b (Some x) o) later
later_cond true x o later = refl
later_cond false x o later = refl

given_cond : (b : Bool) (n : ℕ) → cond b (Some n) None ≡ given_by b n None
given_cond true n = refl
given_cond false n = refl

pub lookup_append : (es : List (Vec ℕ × ℕ)) (key : Vec ℕ) (n : ℕ) (q : List ℕ) →
    lookup (λ k. bytes_eq q k.items) (es ++ (key, n) ∷ []) ≡
    or_later (lookup (λ k. bytes_eq q k.items) es) (cond (bytes_eq q key.items) (Some n) None)
lookup_append [] key n q = refl
lookup_append (e ∷ es) key n q =
    ap (cond (bytes_eq q e.0.items) (Some e.1)) (lookup_append es key n q)
    ∙ later_cond (bytes_eq q e.0.items) e.1 (lookup (λ k. bytes_eq q k.items) es)
    (cond (bytes_eq q key.items) (Some n) None)

-- one more entry behind an index that has the numbers of a list
pub last : (es : List (Vec ℕ × ℕ)) (xs : Numbered) (key : Vec ℕ) (n : ℕ) (q : List ℕ) →
    lookup (λ k. bytes_eq q k.items) es ≡ find q xs →
    lookup (λ k. bytes_eq q k.items) (es ++ (key, n) ∷ []) ≡ find q (xs ++ (key.items, n) ∷ [])
last es xs key n q same =
    lookup_append es key n q
    ∙ ap (λ (o : Option ℕ). or_later o (cond (bytes_eq q key.items) (Some n) None)) same
    ∙ ap (or_later (find q xs)) (ap (λ (b : Bool). cond b (Some n) None) (bytes_sym q key.items)
    ∙ given_cond (bytes_eq key.items q) n)
    ∙ sym (find_append q xs key.items n)

pub absent : (o : Option ℕ) → is_some o ≡ false → o ≡ None
absent None h = refl
absent (Some x) h = absurd (let e : true ≡ false = h in cc)

-- Lists with commas are read as the grammar gives them, for any item that is read before a comma and before what ends
-- the list.
use Rattle.std.proofs.Common.{◌≡◌, ◌≢◌, ℕ, zero, suc, ◌<◌, false, List, [], ◌∷◌, ◌++◌, length, length-append}
use Rattle.std.proofs.Common.{append_assoc, append-nil, Ok, inl, inr, ◌⊎◌, refl, ap, sym, ◌∙◌, arith}
use Rattle.py_parse.specs.declared.terminal.Terminal.{Terminal}
use Rattle.py_parse.specs.declared.terminal.Terminal.TheVariants as t
use Rattle.py_parse.specs.Grammar as g
use Rattle.py_parse.specs.Lexemes.{Lexeme, Lexemes, same}
use Rattle.py_parse.specs.Parser.{kind, Parser, name, behind_comma, some_from, some, more}
use Rattle.py_parse.proofs.ReadSteps.{split, same_self, not_same, name_takes, comma_takes, no_comma}

-- what stands behind an item
abbrev pub Ends : Terminal → Terminal → Type 0
Ends close k = (k ≡ t.Comma) ⊎ (k ≡ close)

-- an item is read as the grammar gives it, before a comma and before `close`, and doesn't begin with `close`
pub record Item {A : Type 0} (close : Terminal) (item : Parser A) (R : g.Grammar A) : Type 0 where
  pub read : (x : A) (used rest : Lexemes) → R x used → Ends close (kind rest) → item (used ++ rest) ≡ Ok (x, rest)
  pub begins : (x : A) (used rest : Lexemes) → R x used → same (kind (used ++ rest)) close ≡ false
  pub apart : same close t.Comma ≡ false

at_close : {A : Type 0} (close : Terminal) (again : List A → Parser (List A)) (found : List A) (ts : Lexemes)
    → kind ts ≡ close → behind_comma close again found ts ≡ Ok (found, ts)
at_close close again found ts closes = rw (closes, same_self close) refl

goes_on : {A : Type 0} (close : Terminal) (again : List A → Parser (List A)) (found : List A) (ts : Lexemes)
    → same (kind ts) close ≡ false → behind_comma close again found ts ≡ again found ts
goes_on close again found ts other = rw other refl

pub some_from_read : {A : Type 0} (close : Terminal) (item : Parser A) (R : g.Grammar A) → Item close item R
    → (n : ℕ) (found : List A) (x : A) (xs : List A) (a b rest : Lexemes) → R x a → g.rest R xs b → kind rest ≡ close
    → length (a ++ (b ++ rest)) < n → some_from close item n found (a ++ (b ++ rest)) ≡ Ok (found ++ x ∷ xs, rest)
unfolding some_from
some_from_read close item R can zero found x xs a b rest is others closes turns = absurd (omega arith)
some_from_read close item R can (suc n) found x [] a b rest is (inl none) closes turns =
    rw (none, can.read x a rest is (inr closes), no_comma rest (rw closes can.apart)) refl
some_from_read close item R can (suc n) found x [] a b rest is (inr (at, (text, tok))) closes turns =
    rw (
      tok,
      can.read x a (record { kind = t.Comma; loc = at; text = text } ∷ rest) is (inl refl),
      comma_takes at text rest,
    )
    (at_close close (some_from close item n) (found ++ x ∷ []) rest closes)
some_from_read {A = A} close item R can (suc n) found x (y ∷ ys) a b rest is (
  at,
  c,
  d,
  e,
  parts,
  (text, tok),
  is_y,
  others,
) closes turns =
    let comma_is : Lexeme = record { kind = t.Comma; loc = at; text = text } in
    let b_is : b ++ rest ≡ comma_is ∷ (d ++ (e ++ rest)) = split b c (d ++ e) rest parts
    ∙ (rw tok (ap (λ (us : Lexemes). comma_is ∷ us) (append_assoc d e rest))) in
    let fewer : length (d ++ (e ++ rest)) < n = omega (arith, length-append a (b ++ rest), ap length b_is) in
    rw (b_is, can.read x a (comma_is ∷ (d ++ (e ++ rest))) is (inl refl), comma_takes at text (d ++ (e ++ rest)))
    (goes_on close (some_from close item n) (found ++ x ∷ []) (d ++ (e ++ rest)) (can.begins y d (e ++ rest) is_y)
    ∙ (some_from_read close item R can n (found ++ x ∷ []) y ys d e rest is_y others closes fewer
    ∙ ap (λ (zs : List A). Ok (zs, rest)) (append_assoc found (x ∷ []) (y ∷ ys))))

pub some_read : {A : Type 0} (close : Terminal) (item : Parser A) (R : g.Grammar A) → Item close item R
    → (found xs : List A) (used rest : Lexemes) → g.some R xs used → kind rest ≡ close
    → some close item found (used ++ rest) ≡ Ok (found ++ xs, rest)
unfolding some
some_read close item R can found [] used rest is closes = absurd is
some_read close item R can found (x ∷ xs) used rest (a, b, parts, is_x, others) closes =
    rw (split used a b rest parts)
    (some_from_read close item R can (suc (length (a ++ (b ++ rest)))) found x xs a b rest is_x others closes
    (omega arith))

some_begins : {A : Type 0} (close : Terminal) (item : Parser A) (R : g.Grammar A) → Item close item R
    → (xs : List A) (used rest : Lexemes) → g.some R xs used → same (kind (used ++ rest)) close ≡ false
some_begins close item R can [] used rest is = absurd is
some_begins close item R can (x ∷ xs) used rest (a, b, parts, is_x, others) =
    rw (split used a b rest parts) (can.begins x a (b ++ rest) is_x)

-- a list that may be empty
pub listed_read : {A : Type 0} (close : Terminal) (item : Parser A) (R : g.Grammar A) → Item close item R
    → (found xs : List A) (used rest : Lexemes) → g.listed R xs used → kind rest ≡ close
    → more close item found (used ++ rest) ≡ Ok (found ++ xs, rest)
unfolding more
listed_read {A = A} close item R can found xs used rest (inl (none, empty)) closes =
    rw (none, empty) (at_close close (some close item) found rest closes
    ∙ ap (λ (zs : List A). Ok (zs, rest)) (sym (append-nil found)))
listed_read close item R can found xs used rest (inr is) closes =
    goes_on close (some close item) found (used ++ rest) (some_begins close item R can xs used rest is)
    ∙ some_read close item R can found xs used rest is closes

-- names with commas between them
pub name_item : (close : Terminal) → close ≢ t.Name → close ≢ t.Comma → Item close name g.name
name_item close other apart = record {
  read = λ x used rest is ends. rw is (name_takes x.loc x.text rest);
  begins = λ x used rest is. rw is (not_same t.Name close (λ e. other (sym e)));
  apart = not_same close t.Comma apart;
}

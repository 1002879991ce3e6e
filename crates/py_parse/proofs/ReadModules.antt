-- Modules are read: what the grammar gives of them, which is one tree at most.
use Rattle.std.proofs.Common.{◌≡◌, ℕ, zero, suc, ◌-◌, ◌<◌, ◌≤◌, List, [], ◌∷◌, ◌++◌, length, length-append, Ok, inl}
use Rattle.std.proofs.Common.{inr, refl, ap, sym, ◌∙◌, append_assoc, append-nil, arith}
use Rattle.py_parse.specs.declared.terminal.Terminal.{Terminal}
use Rattle.py_parse.specs.declared.terminal.Terminal.TheVariants as t
use Rattle.py_parse.specs.declared.tree.Name.{Name}
use Rattle.py_parse.specs.declared.tree.Import.{Import}
use Rattle.py_parse.specs.declared.tree.Function.{Function}
use Rattle.py_parse.specs.declared.tree.Stmt.{Stmt}
use Rattle.py_parse.specs.Blocks.{alias_by, imported, defined, weighed, function, block, Parts, part_by, parts_n}
use Rattle.py_parse.specs.Blocks.{parts}
use Rattle.py_parse.specs.Grammar as g
use Rattle.py_parse.specs.Grammar.{Grammar, ◌>>=◌, Part, Imported, Defined, Said, imports_of, functions_of}
use Rattle.py_parse.specs.Lexemes.{Lexeme, Lexemes}
use Rattle.py_parse.specs.Parsed.{Halves, IsModule}
use Rattle.py_parse.specs.Parser.{pure, kind, expect, name, more}
use Rattle.py_parse.proofs.ReadSteps.{seq, split, shift, only}
use Rattle.py_parse.proofs.ReadLists.{listed_read, name_item}
use Rattle.py_parse.proofs.ReadLines.{lex, finish, front, expected, named}
use Rattle.py_parse.proofs.ReadBlocks.{block_read}

-- ---- imports

abbrev Plain : Grammar Import
Plain = do
  _ ← g.token t.Import
  x ← g.name
  _ ← g.token t.Newline
  g.gives (record { «module» = x; alias = x })

abbrev Renamed : Grammar Import
Renamed = do
  _ ← g.token t.Import
  x ← g.name
  _ ← g.token t.As
  y ← g.name
  _ ← g.token t.Newline
  g.gives (record { «module» = x; alias = y })

plain_read : (y : Import) (used rest : Lexemes) → Plain y used → imported (used ++ rest) ≡ Ok (y, rest)
unfolding imported
plain_read y used rest (at, a, b, p1, (text, tok), (x, c, d, p2, isx, (at2, e, f, p3, (text2, tok2), (y_is, f_is)))) =
    ap imported (shift used a b rest (lex t.Import at text) p1 tok)
    ∙ seq (name (b ++ rest)) _ x (d ++ rest) _ (named b c d rest x p2 isx)
    (ap (λ (k : Terminal). alias_by x k (d ++ rest)) (front d e f rest t.Newline at2 text2 p3 tok2)
    ∙ seq (expect t.Newline (d ++ rest)) _ at2 (f ++ rest) _ (expected t.Newline d e f rest at2 text2 p3 tok2)
    (finish (record { «module» = x; alias = x }) y f rest y_is f_is))

renamed_read : (y : Import) (used rest : Lexemes) → Renamed y used → imported (used ++ rest) ≡ Ok (y, rest)
unfolding imported
renamed_read y used rest (
  at,
  a,
  b,
  p1,
  (text, tok),
  (
    x,
    c,
    d,
    p2,
    isx,
    (
      at2,
      e,
      f,
      p3,
      (text2, tok2),
      (z, i, j, p4, isz, (at3, k, l, p5, (text3, tok3), (y_is, l_is))),
    ),
  ),
) =
    ap imported (shift used a b rest (lex t.Import at text) p1 tok)
    ∙ seq (name (b ++ rest)) _ x (d ++ rest) _ (named b c d rest x p2 isx)
    (ap (λ (us : Lexemes). alias_by x (kind us) us) (shift d e f rest (lex t.As at2 text2) p3 tok2)
    ∙ seq (name (f ++ rest)) _ z (j ++ rest) _ (named f i j rest z p4 isz)
    (seq (expect t.Newline (j ++ rest)) _ at3 (l ++ rest) _ (expected t.Newline j k l rest at3 text3 p5 tok3)
    (finish (record { «module» = x; alias = z }) y l rest y_is l_is)))

pub imported_read : (y : Import) (used rest : Lexemes) → g.imported y used → imported (used ++ rest) ≡ Ok (y, rest)
imported_read y used rest (inl is) = plain_read y used rest is
imported_read y used rest (inr is) = renamed_read y used rest is

imported_kind : (y : Import) (used rest : Lexemes) → g.imported y used → kind (used ++ rest) ≡ t.Import
imported_kind y used rest (inl (at, a, b, p1, (text, tok), more)) = front used a b rest t.Import at text p1 tok
imported_kind y used rest (inr (at, a, b, p1, (text, tok), more)) = front used a b rest t.Import at text p1 tok

token_length : (used a b : Lexemes) (x : Lexeme) → used ≡ a ++ b → a ≡ x ∷ [] → 1 ≤ length used
token_length used a b x p1 tok = omega (arith, ap length p1, length-append a b, ap length tok)

shorter : (used a b : Lexemes) → used ≡ a ++ b → 1 ≤ length a → 1 ≤ length used
shorter used a b p1 le = omega (arith, ap length p1, length-append a b)

imported_length : (y : Import) (used : Lexemes) → g.imported y used → 1 ≤ length used
imported_length y used (inl (at, a, b, p1, (text, tok), more)) = token_length used a b (lex t.Import at text) p1 tok
imported_length y used (inr (at, a, b, p1, (text, tok), more)) = token_length used a b (lex t.Import at text) p1 tok

-- ---- functions

names_read : (xs : List Name) (used rest : Lexemes) → g.listed g.name xs used → kind rest ≡ t.CloseParen
    → more t.CloseParen name [] (used ++ rest) ≡ Ok (xs, rest)
names_read xs used rest are ends =
    listed_read t.CloseParen name g.name
    (name_item t.CloseParen (λ is. absurd cc) (λ is. absurd cc)) [] xs used rest are ends

pub defined_read : (depth : ℕ) (y : Name × List Name × List Stmt) (used rest : Lexemes) → g.defined depth y used
    → defined depth (used ++ rest) ≡ Ok (y, rest)
unfolding defined
defined_read depth y used rest (
  at,
  a,
  b,
  p1,
  (text, tok),
  (
    called,
    c,
    d,
    p2,
    isc,
    (
      at2,
      e,
      f,
      p3,
      (text2, tok2),
      (
        params,
        i,
        j,
        p4,
        isp,
        (at3, k, l, p5, (text3, tok3), (at4, m, n, p6, (text4, tok4), (body, o, q, p7, isb, (y_is, q_is)))),
      ),
    ),
  ),
) =
    ap (defined depth) (shift used a b rest (lex t.Def at text) p1 tok)
    ∙ seq (name (b ++ rest)) _ called (d ++ rest) _ (named b c d rest called p2 isc)
    (seq (expect t.OpenParen (d ++ rest)) _ at2 (f ++ rest) _ (expected t.OpenParen d e f rest at2 text2 p3 tok2)
    (seq (more t.CloseParen name [] (f ++ rest)) _ params (j ++ rest) _
    (ap (more t.CloseParen name []) (split f i j rest p4)
    ∙ names_read params i (j ++ rest) isp (front j k l rest t.CloseParen at3 text3 p5 tok3))
    (seq (expect t.CloseParen (j ++ rest)) _ at3 (l ++ rest) _ (expected t.CloseParen j k l rest at3 text3 p5 tok3)
    (seq (expect t.Colon (l ++ rest)) _ at4 (n ++ rest) _ (expected t.Colon l m n rest at4 text4 p6 tok4)
    (seq (block depth (n ++ rest)) _ body (q ++ rest) _ (ap (block depth) (split n o q rest p7)
    ∙ block_read depth body o (q ++ rest) isb)
    (finish (called, params, body) y q rest y_is q_is))))))

defined_kind : (depth : ℕ) (y : Name × List Name × List Stmt) (used rest : Lexemes) → g.defined depth y used
    → kind (used ++ rest) ≡ t.Def
defined_kind depth y used rest (at, a, b, p1, (text, tok), more) = front used a b rest t.Def at text p1 tok

defined_length : (depth : ℕ) (y : Name × List Name × List Stmt) (used : Lexemes) → g.defined depth y used
    → 1 ≤ length used
defined_length depth y used (at, a, b, p1, (text, tok), more) = token_length used a b (lex t.Def at text) p1 tok

-- what was taken is what the list has lost
taken : (used rest : Lexemes) → length (used ++ rest) - length rest ≡ length used
taken used rest = omega (arith, length-append used rest)

pub function_read : (depth : ℕ) (y : Function) (used rest : Lexemes) → g.function depth y used
    → function depth (used ++ rest) ≡ Ok (y, rest)
unfolding function
function_read depth y used rest (is, weight) =
    seq (defined depth (used ++ rest)) _ (y.name, y.params, y.body) rest _
    (defined_read depth (y.name, y.params, y.body) used rest is)
    (ap (λ (n : ℕ). pure (weighed (y.name, y.params, y.body) n) rest) (taken used rest ∙ sym weight))

-- ---- the parts of a module

part_length : (depth : ℕ) (y : Part) (used : Lexemes) → g.part depth y used → 1 ≤ length used
part_length depth y used (inl (x, a, b, p1, is, more)) = shorter used a b p1 (imported_length x a is)
part_length depth y used (inr (inl (x, a, b, p1, (is, weight), more))) =
    shorter used a b p1 (defined_length depth (x.name, x.params, x.body) a is)
part_length depth y used (inr (inr (at, a, b, p1, (text, tok), more))) =
    token_length used a b (lex t.Text at text) p1 tok

-- the parts so far with those of one more part, or of a list
abbrev added : Parts → Part → Parts
added found (Imported x) = (found.0 ++ x ∷ [], found.1)
added found (Defined x) = (found.0, found.1 ++ x ∷ [])
added found Said = found

abbrev gathered : Parts → List Part → Parts
gathered found xs = (found.0 ++ imports_of xs, found.1 ++ functions_of xs)

one_more : (found : Parts) (x : Part) (xs : List Part) → gathered (added found x) xs ≡ gathered found (x ∷ xs)
one_more found (Imported x) xs = ap (λ (z : List Import). (z, found.1 ++ functions_of xs))
    (append_assoc found.0 (x ∷ []) (imports_of xs))
one_more found (Defined x) xs = ap (λ (z : List Function). (found.0 ++ imports_of xs, z))
    (append_assoc found.1 (x ∷ []) (functions_of xs))
one_more found Said xs = refl

part_step : (depth n : ℕ) (found : Parts) (y : Part) (used rest : Lexemes) → g.part depth y used
    → parts_n depth (suc n) found (used ++ rest) ≡ parts_n depth n (added found y) rest
unfolding parts_n
part_step depth n found y used rest (inl (x, a, b, p1, is, (y_is, b_is))) =
    ap (λ (z : Lexemes). parts_n depth (suc n) found (z ++ rest)) (only used a b p1 b_is)
    ∙ (ap (λ (k : Terminal). part_by depth (parts_n depth n) found k (a ++ rest)) (imported_kind x a rest is)
    ∙ (seq (imported (a ++ rest)) _ x rest _ (imported_read x a rest is) refl
    ∙ ap (λ (z : Part). parts_n depth n (added found z) rest) (sym y_is)))
part_step depth n found y used rest (inr (inl (x, a, b, p1, (is, weight), (y_is, b_is)))) =
    ap (λ (z : Lexemes). parts_n depth (suc n) found (z ++ rest)) (only used a b p1 b_is)
    ∙ (ap (λ (k : Terminal). part_by depth (parts_n depth n) found k (a ++ rest))
    (defined_kind depth (x.name, x.params, x.body) a rest is)
    ∙ (seq (function depth (a ++ rest)) _ x rest _ (function_read depth x a rest (is, weight)) refl
    ∙ ap (λ (z : Part). parts_n depth n (added found z) rest) (sym y_is)))
part_step depth n found y used rest
    (inr (inr (at, a, b, p1, (text, tok), (at2, c, d, p2, (text2, tok2), (y_is, d_is))))) =
    ap (parts_n depth (suc n) found) (shift used a b rest (lex t.Text at text) p1 tok)
    ∙ (seq (expect t.Newline (b ++ rest)) _ at2 (d ++ rest) _ (expected t.Newline b c d rest at2 text2 p2 tok2) refl
    ∙ (ap (λ (z : Lexemes). parts_n depth n found (z ++ rest)) d_is
    ∙ ap (λ (z : Part). parts_n depth n (added found z) rest) (sym y_is)))

gathered_read : (depth n : ℕ) (found : Parts) (xs : List Part) (used rest : Lexemes) → g.many (g.part depth) xs used
    → kind rest ≡ t.End
    → length (used ++ rest) < n → parts_n depth n found (used ++ rest) ≡ Ok (gathered found xs, rest)
unfolding parts_n
gathered_read depth zero found xs used rest are ends turns = absurd (omega arith)
gathered_read depth (suc n) found [] used rest are ends turns =
    ap (λ (z : Lexemes). parts_n depth (suc n) found (z ++ rest)) are
    ∙ (ap (λ (k : Terminal). part_by depth (parts_n depth n) found k rest) ends
    ∙ (ap (λ (z : List Import). pure (z, found.1) rest) (sym (append-nil found.0))
    ∙ ap (λ (z : List Function). pure (found.0 ++ [], z) rest) (sym (append-nil found.1))))
gathered_read depth (suc n) found (x ∷ xs) used rest (a, b, p1, isx, are) ends turns =
    let len : length (b ++ rest) < n =
    omega (arith, part_length depth x a isx, ap length (split used a b rest p1), length-append a (b ++ rest)) in
    ap (parts_n depth (suc n) found) (split used a b rest p1)
    ∙ (part_step depth n found x a (b ++ rest) isx
    ∙ (gathered_read depth n (added found x) xs b rest are ends len
    ∙ ap (λ (z : Parts). pure z rest) (one_more found x xs)))

-- The descent reads each module that the grammar gives.
pub parts_read : (depth : ℕ) (halves : Halves) (used rest : Lexemes) → g.parts depth halves used → kind rest ≡ t.End
    → parts depth (used ++ rest) ≡ Ok (halves, rest)
unfolding parts
parts_read depth halves used rest (xs, a, b, p1, are, (halves_is, b_is)) ends =
    ap (λ (z : Lexemes). parts depth (z ++ rest)) (only used a b p1 b_is)
    ∙ (gathered_read depth (suc (length (a ++ rest))) ([], []) xs a rest are ends (omega arith)
    ∙ ap (λ (z : Parts). pure z rest) (sym halves_is))

pub reads : (depth : ℕ) (halves : Halves) (ts : Lexemes) → IsModule depth halves ts
    → (rest : Lexemes) × (parts depth ts ≡ Ok (halves, rest))
reads depth halves ts (used, last, p1, is, ends) =
    (last ∷ [], ap (parts depth) p1 ∙ parts_read depth halves used (last ∷ []) is ends)

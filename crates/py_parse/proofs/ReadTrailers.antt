-- Trailers are read as the grammar gives them.
use Rattle.std.proofs.Common.{◌≡◌, ℕ, zero, suc, ◌<◌, ◌≤◌, List, [], ◌∷◌, ◌++◌, length, length-append, append_assoc}
use Rattle.std.proofs.Common.{append-nil, Some, None, Ok, inl, inr, refl, ap, ◌∙◌, arith}
use Rattle.krn_base.specs.declared.place.Loc.{Loc}
use Rattle.py_lex.specs.Bytes.{Bytes}
use Rattle.py_parse.specs.declared.terminal.Terminal.{Terminal}
use Rattle.py_parse.specs.declared.terminal.Terminal.TheVariants as t
use Rattle.py_parse.specs.declared.tree.Expr.{Expr}
use Rattle.py_parse.specs.declared.tree.Trailer.{Trailer}
use Rattle.py_parse.specs.declared.tree.Trailer.TheVariants as trailer
use Rattle.py_parse.specs.Descent.{Inner, arg, subscript, call, pick, attribute, trailers_by, trailers_from, trailers}
use Rattle.py_parse.specs.Grammar as g
use Rattle.py_parse.specs.Grammar.{◌>>=◌}
use Rattle.py_parse.specs.Lexemes.{Lexemes}
use Rattle.py_parse.specs.Parser.{kind, Parser}
use Rattle.py_parse.proofs.ReadSteps.{split, shift, closed, expect_takes, name_takes, loose}
use Rattle.py_parse.proofs.ReadLists.{some_read, listed_read}
use Rattle.py_parse.proofs.ReadBrackets.{IsRead, Begins, Level, arg_item, subscript_item}

-- what stands behind the opening token
abbrev CallOf : g.Grammar Expr → Loc → g.Grammar Trailer
CallOf R at = do
  args ← g.listed (g.arg R)
  _ ← g.token t.CloseParen
  g.gives (trailer.Call at args)

abbrev PickOf : g.Grammar Expr → Loc → g.Grammar Trailer
PickOf R at = do
  subs ← g.some (g.subscript R)
  _ ← g.token t.CloseBracket
  g.gives (trailer.Pick at subs)

abbrev AttrOf : g.Grammar Trailer
AttrOf = do
  x ← g.name
  g.gives (trailer.Attr x)

call_read : (p : Parser Expr) (R : g.Grammar Expr) → IsRead p R → Begins R
    → (at : Loc) (text : Bytes) (x : Trailer) (used rest : Lexemes) → CallOf R at x used
    → call p (record { kind = t.OpenParen; loc = at; text = text } ∷ (used ++ rest)) ≡ Ok (x, rest)
unfolding call
call_read p R read begins at text x used rest
    (args, a, b, parts, are, (at2, c, d, b_parts, (text2, tok), (x_is, empty))) =
    let close_is : b ++ rest ≡ record { kind = t.CloseParen; loc = at2; text = text2 } ∷ rest =
    closed t.CloseParen at2 text2 b d rest c b_parts tok empty in
    let closes : kind (b ++ rest) ≡ t.CloseParen = rw close_is refl in
    rw (
      split used a b rest parts,
      x_is,
      listed_read t.CloseParen (arg p) (g.arg R) (arg_item p R read begins) [] args a (b ++ rest) are closes,
      close_is,
      expect_takes t.CloseParen at2 text2 rest,
    ) refl

pick_read : (p : Parser Expr) (R : g.Grammar Expr) → IsRead p R → Begins R
    → (at : Loc) (text : Bytes) (x : Trailer) (used rest : Lexemes) → PickOf R at x used
    → pick p (record { kind = t.OpenBracket; loc = at; text = text } ∷ (used ++ rest)) ≡ Ok (x, rest)
unfolding pick
pick_read p R read begins at text x used rest
    (subs, a, b, parts, are, (at2, c, d, b_parts, (text2, tok), (x_is, empty))) =
    let close_is : b ++ rest ≡ record { kind = t.CloseBracket; loc = at2; text = text2 } ∷ rest =
    closed t.CloseBracket at2 text2 b d rest c b_parts tok empty in
    let closes : kind (b ++ rest) ≡ t.CloseBracket = rw close_is refl in
    rw (
      split used a b rest parts,
      x_is,
      some_read t.CloseBracket (subscript p) (g.subscript R) (subscript_item p R read begins) [] subs a
          (b ++ rest) are closes,
      close_is,
      expect_takes t.CloseBracket at2 text2 rest,
    ) refl

attribute_read : (at : Loc) (text : Bytes) (x : Trailer) (used rest : Lexemes) → AttrOf x used
    → attribute (record { kind = t.Dot; loc = at; text = text } ∷ (used ++ rest)) ≡ Ok (x, rest)
unfolding attribute
attribute_read at text x used rest (y, a, b, parts, tok, (x_is, empty)) =
    rw (closed t.Name y.loc y.text used b rest a parts tok empty, x_is, name_takes y.loc y.text rest) refl

-- a trailer is read, and those behind it by `again`
trailer_read : (depth : ℕ) (inner : Inner) (R : g.Grammar Expr) → Level depth inner R
    → (again : List Trailer → Parser (List Trailer)) (found : List Trailer) (x : Trailer) (used rest : Lexemes)
    → g.trailer_at depth R x used
    → trailers_by inner again found (kind (used ++ rest)) (used ++ rest) ≡ again (found ++ x ∷ []) rest
trailer_read zero inner R can again found x used rest (inl is) = absurd is
trailer_read zero inner R can again found x used rest (inr (inl is)) = absurd is
trailer_read zero inner R can again found x used rest (inr (inr (at, a, b, parts, (text, tok), is))) =
    rw (
      shift used a b rest (record { kind = t.Dot; loc = at; text = text }) parts tok,
      attribute_read at text x b rest is,
    ) refl
trailer_read (suc depth) None R can again found x used rest is = absurd can.inside
trailer_read (suc depth) (Some p) R can again found x used rest (inl (at, a, b, parts, (text, tok), is)) =
    rw (
      shift used a b rest (record { kind = t.OpenParen; loc = at; text = text }) parts tok,
      call_read p R can.inside can.begins at text x b rest is,
    ) refl
trailer_read (suc depth) (Some p) R can again found x used rest (inr (inl (at, a, b, parts, (text, tok), is))) =
    rw (
      shift used a b rest (record { kind = t.OpenBracket; loc = at; text = text }) parts tok,
      pick_read p R can.inside can.begins at text x b rest is,
    ) refl
trailer_read (suc depth) (Some p) R can again found x used rest (inr (inr (at, a, b, parts, (text, tok), is))) =
    rw (
      shift used a b rest (record { kind = t.Dot; loc = at; text = text }) parts tok,
      attribute_read at text x b rest is,
    ) refl

-- a trailer takes a lexeme at least
trailer_some : (depth : ℕ) (R : g.Grammar Expr) (x : Trailer) (used : Lexemes) → g.trailer_at depth R x used
    → 1 ≤ length used
trailer_some zero R x used (inl is) = absurd is
trailer_some zero R x used (inr (inl is)) = absurd is
trailer_some zero R x used (inr (inr (at, a, b, parts, (text, tok), is))) = rw (parts, tok) (omega arith)
trailer_some (suc depth) R x used (inl (at, a, b, parts, (text, tok), is)) = rw (parts, tok) (omega arith)
trailer_some (suc depth) R x used (inr (inl (at, a, b, parts, (text, tok), is))) = rw (parts, tok) (omega arith)
trailer_some (suc depth) R x used (inr (inr (at, a, b, parts, (text, tok), is))) = rw (parts, tok) (omega arith)

no_trailer : (inner : Inner) (again : List Trailer → Parser (List Trailer)) (found : List Trailer) (k : Terminal)
    (ts : Lexemes) → 1 < loose k → trailers_by inner again found k ts ≡ Ok (found, ts)
no_trailer inner again found t.OpenParen ts far = absurd (omega arith)
no_trailer inner again found t.OpenBracket ts far = absurd (omega arith)
no_trailer inner again found t.Dot ts far = absurd (omega arith)
no_trailer inner again found _ ts far = refl

trailers_from_read : (depth : ℕ) (inner : Inner) (R : g.Grammar Expr) → Level depth inner R
    → (n : ℕ) (found xs : List Trailer) (used rest : Lexemes) → g.many (g.trailer_at depth R) xs used
    → 1 < loose (kind rest) → length (used ++ rest) ≤ n
    → trailers_from inner n found (used ++ rest) ≡ Ok (found ++ xs, rest)
unfolding trailers_from
trailers_from_read depth inner R can zero found [] used rest empty far turns = rw (empty, append-nil found) refl
trailers_from_read depth inner R can (suc n) found [] used rest empty far turns =
    rw (empty, append-nil found) (no_trailer inner (trailers_from inner n) found (kind rest) rest far)
trailers_from_read depth inner R can zero found (x ∷ xs) used rest (a, b, parts, is, are) far turns =
    absurd (omega (
      arith,
      trailer_some depth R x a is,
      ap length (split used a b rest parts),
      length-append a (b ++ rest),
    ))
trailers_from_read depth inner R can (suc n) found (x ∷ xs) used rest (a, b, parts, is, are) far turns =
    let used_is : used ++ rest ≡ a ++ (b ++ rest) = split used a b rest parts in
    let fewer : length (b ++ rest) ≤ n =
    omega (arith, trailer_some depth R x a is, ap length used_is, length-append a (b ++ rest)) in
    rw used_is (trailer_read depth inner R can (trailers_from inner n) found x a (b ++ rest) is
    ∙ (trailers_from_read depth inner R can n (found ++ x ∷ []) xs b rest are far fewer
    ∙ ap (λ (ys : List Trailer). Ok (ys, rest)) (append_assoc found (x ∷ []) xs)))

pub trailers_read : (depth : ℕ) (inner : Inner) (R : g.Grammar Expr) → Level depth inner R
    → (xs : List Trailer) (used rest : Lexemes) → g.many (g.trailer_at depth R) xs used → 1 < loose (kind rest)
    → trailers inner (used ++ rest) ≡ Ok (xs, rest)
unfolding trailers
trailers_read depth inner R can xs used rest are far =
    trailers_from_read depth inner R can (length (used ++ rest)) [] xs used rest are far (omega arith)

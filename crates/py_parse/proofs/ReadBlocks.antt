-- Blocks and statements are read: what the grammar gives of them.
use Rattle.std.proofs.Common.{◌≡◌, ◌≢◌, ℕ, zero, suc, ◌<◌, ◌≤◌, List, [], ◌∷◌, ◌++◌, length, length-append, Option}
use Rattle.std.proofs.Common.{Some, None, Ok, inl, inr, refl, ap, sym, subst, ◌∙◌, append_assoc, append-nil, arith}
use Rattle.krn_base.specs.declared.place.Loc.{Loc}
use Rattle.py_parse.specs.declared.terminal.Terminal.{Terminal}
use Rattle.py_parse.specs.declared.terminal.Terminal.TheVariants as t
use Rattle.py_parse.specs.declared.tree.Expr.{Expr}
use Rattle.py_parse.specs.declared.tree.Stmt.{Stmt}
use Rattle.py_parse.specs.declared.tree.Stmt.TheVariants as s
use Rattle.py_parse.specs.Blocks as b
use Rattle.py_parse.specs.Blocks.{Arms, line, statements, one, block_by, block_with, arm, otherwise, tail_by, tail_with}
use Rattle.py_parse.specs.Blocks.{elif_with, looped, stmt_by, stmt_with}
use Rattle.py_parse.specs.Descent.{expr}
use Rattle.py_parse.specs.Grammar as g
use Rattle.py_parse.specs.Grammar.{Grammar, ◌>>=◌}
use Rattle.py_parse.specs.Lexemes.{Lexemes}
use Rattle.py_parse.specs.Parser.{Parser, and_then, pure, kind, expect, name, until_n, until}
use Rattle.py_parse.proofs.ReadSteps.{seq, split, shift, only, same_self, not_same}
use Rattle.py_parse.proofs.ReadLines.{lex, finish, front, expected, named, before, class, Starts, starts_token}
use Rattle.py_parse.proofs.ReadLines.{starts_front, starts_wider, starts_low, starts_high, starts_length, line_starts}
use Rattle.py_parse.proofs.ReadLines.{line_read}

-- ---- what is asked of the parsers of statements, blocks and the rest of an `if`, that they read what a rule gives

pub record StatementsRead (item : Parser Stmt) (R : Grammar Stmt) : Type 0 where
  pub reads : (x : Stmt) (used rest : Lexemes) → R x used → class (kind rest) < 3 → item (used ++ rest) ≡ Ok (x, rest)
  pub starts : (x : Stmt) (used : Lexemes) → R x used → Starts 3 used

pub record BlocksRead (block : Parser (List Stmt)) (R : Grammar (List Stmt)) : Type 0 where
  pub reads : (xs : List Stmt) (used rest : Lexemes) → R xs used → block (used ++ rest) ≡ Ok (xs, rest)

abbrev pub Tail : Type 0
Tail = Arms × List Stmt

pub record TailsRead (tail : Arms → Parser Stmt) (R : Grammar Tail) : Type 0 where
  pub reads : (arms : Arms) (more : Tail) (used rest : Lexemes) → R more used → class (kind rest) < 3
      → tail arms (used ++ rest) ≡ Ok (s.If (arms ++ more.0) more.1, rest)

-- ---- statements up to a Dedent

until_ends : (item : Parser Stmt) (n : ℕ) (found : List Stmt) (ts : Lexemes) → kind ts ≡ t.Dedent
    → until_n t.Dedent item (suc n) found ts ≡ Ok (found, ts)
unfolding until_n
until_ends item n found ts is = rw is (rw (same_self t.Dedent) refl)

until_goes : (item : Parser Stmt) (n : ℕ) (found : List Stmt) (ts : Lexemes) → kind ts ≢ t.Dedent
    → until_n t.Dedent item (suc n) found ts ≡ and_then (item ts)
    (λ x us. until_n t.Dedent item n (found ++ x ∷ []) us)
unfolding until_n
until_goes item n found ts differs = rw (not_same (kind ts) t.Dedent differs) refl

no_dedent : (k : Terminal) → 1 ≤ class k → k ≢ t.Dedent
no_dedent k low is = omega (arith, ap class is)

-- between statements stands no `elif` and no `else`
between : (item : Parser Stmt) (R : Grammar Stmt) → StatementsRead item R → (xs : List Stmt) (used rest : Lexemes)
    → g.many R xs used
    → kind rest ≡ t.Dedent → class (kind (used ++ rest)) < 3
between item R h [] used rest is ends = subst (λ (z : Lexemes). class (kind (z ++ rest)) < 3) (sym is)
    (omega (arith, ap class ends))
between item R h (x ∷ xs) used rest (a, b, parts, isx, are) ends =
    starts_high 3 used rest (starts_front 3 used a b parts (h.starts x a isx))

until_read : (item : Parser Stmt) (R : Grammar Stmt) → StatementsRead item R
    → (xs : List Stmt) (n : ℕ) (found : List Stmt) (used rest : Lexemes)
    → g.many R xs used → kind rest ≡ t.Dedent → length (used ++ rest) < n
    → until_n t.Dedent item n found (used ++ rest) ≡ Ok (found ++ xs, rest)
until_read item R h xs zero found used rest are ends turns = absurd (omega arith)
until_read item R h [] (suc n) found used rest are ends turns =
    ap (λ (z : Lexemes). until_n t.Dedent item (suc n) found (z ++ rest)) are
    ∙ (until_ends item n found rest ends ∙ ap (λ (z : List Stmt). pure z rest) (sym (append-nil found)))
until_read item R h (x ∷ xs) (suc n) found used rest (a, b, parts, isx, are) ends turns =
    let starts = h.starts x a isx in
    let len : length (b ++ rest) < n =
    omega (arith, starts_length 3 a starts, ap length (split used a b rest parts), length-append a (b ++ rest)) in
    ap (until_n t.Dedent item (suc n) found) (split used a b rest parts)
    ∙ (until_goes item n found (a ++ (b ++ rest))
    (no_dedent (kind (a ++ (b ++ rest))) (starts_low 3 a (b ++ rest) starts))
    ∙ seq (item (a ++ (b ++ rest))) _ x (b ++ rest) _
    (h.reads x a (b ++ rest) isx (between item R h xs b rest are ends))
    (until_read item R h xs n (found ++ x ∷ []) b rest are ends len
    ∙ ap (λ (z : List Stmt). pure z rest) (append_assoc found (x ∷ []) xs)))

abbrev Indented : Grammar Stmt → Grammar (List Stmt)
Indented R = do
  _ ← g.token t.Indent
  first ← R
  more ← g.many R
  _ ← g.token t.Dedent
  g.gives (first ∷ more)

statements_read : (item : Parser Stmt) (R : Grammar Stmt) → StatementsRead item R
    → (xs : List Stmt) (used rest : Lexemes) → Indented R xs used
    → statements item (used ++ rest) ≡ Ok (xs, rest)
unfolding statements until
statements_read item R h xs used rest (
  at,
  a,
  b,
  parts,
  (text, tok),
  (first, c, d, p2, isf, (more, e, f, p3, are, (at2, i, j, p4, (text2, tok2), (xs_is, j_is)))),
) =
    let dedent : kind (f ++ rest) ≡ t.Dedent = front f i j rest t.Dedent at2 text2 p4 tok2 in
    seq (expect t.Indent (used ++ rest)) _ at (b ++ rest) _ (expected t.Indent used a b rest at text parts tok)
    (seq (item (b ++ rest)) _ first (d ++ rest) _
    (ap item (split b c d rest p2)
    ∙ h.reads first c (d ++ rest) isf (subst (λ (z : Lexemes). class (kind z) < 3) (sym (split d e f rest p3))
    (between item R h more e (f ++ rest) are dedent)))
    (seq (until t.Dedent item (first ∷ []) (d ++ rest)) _ (first ∷ more) (f ++ rest) _
    (ap (until t.Dedent item (first ∷ [])) (split d e f rest p3)
    ∙ until_read item R h more (suc (length (e ++ (f ++ rest)))) (first ∷ []) e (f ++ rest) are dedent (omega arith))
    (seq (expect t.Dedent (f ++ rest)) _ at2 (j ++ rest) _ (expected t.Dedent f i j rest at2 text2 p4 tok2)
    (finish (first ∷ more) xs j rest xs_is j_is))))

-- ---- blocks

abbrev pub InnerReads : ℕ → Option (Parser Stmt) → Grammar Stmt → Type 0
InnerReads zero inner R = Unit {0}
InnerReads (suc depth) None R = ⊥
InnerReads (suc depth) (Some item) R = StatementsRead item R

block_line : (depth : ℕ) (inner : Option (Parser Stmt)) (k : Terminal) (ts : Lexemes) → 1 ≤ class k
    → block_by depth inner k ts ≡ and_then (line depth ts) (λ x. pure (one x))
block_line depth inner t.Newline ts low = absurd (omega arith)
block_line depth inner _ ts low = refl

block_newline : (depth : ℕ) (inner : Option (Parser Stmt)) (R : Grammar Stmt) → InnerReads depth inner R
    → (xs : List Stmt) (used rest : Lexemes)
    → g.opened depth (g.token t.Newline >>= (λ _. Indented R)) xs used
    → block_with depth inner (used ++ rest) ≡ Ok (xs, rest)
unfolding block_with
block_newline zero inner R h xs used rest is = absurd is
block_newline (suc depth) None R h xs used rest is = absurd h
block_newline (suc depth) (Some item) R h xs used rest (at, a, b, parts, (text, tok), is) =
    ap (block_with (suc depth) (Some item)) (shift used a b rest (lex t.Newline at text) parts tok)
    ∙ statements_read item R h xs b rest is

blocks_read : (depth : ℕ) (inner : Option (Parser Stmt)) (R : Grammar Stmt) → InnerReads depth inner R
    → (xs : List Stmt) (used rest : Lexemes)
    → g.block_with depth R xs used → block_with depth inner (used ++ rest) ≡ Ok (xs, rest)
unfolding block_with
blocks_read depth inner R h xs used rest (inl (x, a, b, parts, is, (xs_is, b_is))) =
    block_line depth inner (kind (used ++ rest)) (used ++ rest)
    (starts_low 2 used rest (starts_front 2 used a b parts (line_starts depth x a is)))
    ∙ seq (line depth (used ++ rest)) _ x (b ++ rest) _ (ap (line depth) (split used a b rest parts)
    ∙ line_read depth x a (b ++ rest) is)
    (finish (x ∷ []) xs b rest xs_is b_is)
blocks_read depth inner R h xs used rest (inr is) = block_newline depth inner R h xs used rest is

pub block_with_read : (depth : ℕ) (inner : Option (Parser Stmt)) (R : Grammar Stmt) → InnerReads depth inner R
    → BlocksRead (block_with depth inner) (g.block_with depth R)
block_with_read depth inner R h = record { reads = blocks_read depth inner R h }

-- ---- arms

arm_kind : (word : Terminal) (depth : ℕ) (R : Grammar (List Stmt)) (x : Loc × Expr × List Stmt) (used rest : Lexemes)
    → g.arm word depth R x used
    → kind (used ++ rest) ≡ word
arm_kind word depth R x used rest (at, a, b, parts, (text, tok), more) = front used a b rest word at text parts tok

arm_starts : (word : Terminal) (limit : ℕ) (depth : ℕ) (R : Grammar (List Stmt)) (x : Loc × Expr × List Stmt)
    (used : Lexemes) → g.arm word depth R x used
    → 1 ≤ class word → class word < limit → Starts limit used
arm_starts word limit depth R x used (at, a, b, parts, (text, tok), more) low high =
    starts_token limit used a b (lex word at text) parts tok low high

arm_read : (word : Terminal) (depth : ℕ) (block : Parser (List Stmt)) (R : Grammar (List Stmt)) → BlocksRead block R
    → (x : Loc × Expr × List Stmt)
    (used rest : Lexemes) → g.arm word depth R x used → arm depth block (used ++ rest) ≡ Ok (x, rest)
unfolding arm
arm_read word depth block R h x used rest (
  at,
  a,
  b,
  parts,
  (text, tok),
  (cond, c, d, p2, isc, (at2, e, f, p3, (text2, tok2), (body, i, j, p4, isb, (x_is, j_is)))),
) =
    ap (arm depth block) (shift used a b rest (lex word at text) parts tok)
    ∙ seq (expr depth (b ++ rest)) _ cond (d ++ rest) _
    (ap (expr depth) (split b c d rest p2) ∙ before depth cond c d e f rest t.Colon at2 text2 isc p3 tok2 (omega arith))
    (seq (expect t.Colon (d ++ rest)) _ at2 (f ++ rest) _ (expected t.Colon d e f rest at2 text2 p3 tok2)
    (seq (block (f ++ rest)) _ body (j ++ rest) _ (ap block (split f i j rest p4) ∙ h.reads body i (j ++ rest) isb)
    (finish (at, cond, body) x j rest x_is j_is)))

-- ---- the rest of an `if`

-- an `elif` and what follows it, which no level may open or which are read
pub record ElifsRead (elif : Arms → Parser Stmt) (R : Grammar Tail) : Type 0 where
  pub reads : TailsRead elif R
  pub front : (more : Tail) (used rest : Lexemes) → R more used → kind (used ++ rest) ≡ t.Elif

abbrev pub ElifReads : Option (Arms → Parser Stmt) → Grammar Tail → Type 0
ElifReads None R = (more : Tail) (used : Lexemes) → R more used → ⊥
ElifReads (Some elif) R = ElifsRead elif R

tail_ends : (elif : Option (Arms → Parser Stmt)) (block : Parser (List Stmt)) (arms : Arms) (k : Terminal)
    (ts : Lexemes) → class k < 3
    → tail_by elif block arms k ts ≡ Ok (s.If arms [], ts)
tail_ends elif block arms t.Elif ts lt = absurd (omega arith)
tail_ends elif block arms t.Else ts lt = absurd (omega arith)
tail_ends elif block arms _ ts lt = refl

-- an `if` with what follows its arms so far
abbrev whole : Arms → Tail → Stmt
whole arms more = s.If (arms ++ more.0) more.1

last_arms : (arms : Arms) (body : List Stmt) → s.If arms body ≡ s.If (arms ++ []) body
last_arms arms body = ap (λ (z : Arms). s.If z body) (sym (append-nil arms))

tail_none : (elif : Option (Arms → Parser Stmt)) (block : Parser (List Stmt)) (arms : Arms) (more : Tail)
    (used rest : Lexemes)
    → g.gives ([], []) more used → class (kind rest) < 3
    → tail_with elif block arms (used ++ rest) ≡ Ok (whole arms more, rest)
unfolding tail_with
tail_none elif block arms more used rest (more_is, used_is) lt =
    ap (λ (z : Lexemes). tail_with elif block arms (z ++ rest)) used_is
    ∙ (tail_ends elif block arms (kind rest) rest lt
    ∙ (ap (λ (z : Stmt). pure z rest) (last_arms arms []) ∙ ap (λ (z : Tail). pure (whole arms z) rest) (sym more_is)))

abbrev Else : Grammar (List Stmt) → Grammar Tail
Else R = do
  _ ← g.token t.Else
  _ ← g.token t.Colon
  body ← R
  g.gives ([], body)

tail_else : (elif : Option (Arms → Parser Stmt)) (block : Parser (List Stmt)) (R : Grammar (List Stmt))
    → BlocksRead block R → (arms : Arms) (more : Tail)
    (used rest : Lexemes) → Else R more used → tail_with elif block arms (used ++ rest) ≡ Ok (whole arms more, rest)
unfolding tail_with otherwise
tail_else elif block R h arms more used rest
    (at, a, b, parts, (text, tok), (at2, c, d, p2, (text2, tok2), (body, e, f, p3, isb, (more_is, f_is)))) =
    ap (tail_with elif block arms) (shift used a b rest (lex t.Else at text) parts tok)
    ∙ seq (expect t.Colon (b ++ rest)) _ at2 (d ++ rest) _ (expected t.Colon b c d rest at2 text2 p2 tok2)
    (seq (block (d ++ rest)) _ body (f ++ rest) _ (ap block (split d e f rest p3) ∙ h.reads body e (f ++ rest) isb)
    (ap (λ (z : Stmt). pure z (f ++ rest)) (last_arms arms body)
    ∙ finish (whole arms ([], body)) (whole arms more) f rest (ap (whole arms) more_is) f_is))

tail_elif : (elif : Option (Arms → Parser Stmt)) (block : Parser (List Stmt)) (R : Grammar Tail) → ElifReads elif R
    → (arms : Arms) (more : Tail)
    (used rest : Lexemes) → R more used → class (kind rest) < 3
    → tail_with elif block arms (used ++ rest) ≡ Ok (whole arms more, rest)
unfolding tail_with
tail_elif None block R h arms more used rest is lt = absurd (h more used is)
tail_elif (Some elif) block R h arms more used rest is lt =
    ap (λ (k : Terminal). tail_by (Some elif) block arms k (used ++ rest)) (h.front more used rest is)
    ∙ h.reads.reads arms more used rest is lt

tails_read : (elif : Option (Arms → Parser Stmt)) (E : Grammar Tail) (block : Parser (List Stmt))
    (R : Grammar (List Stmt)) → ElifReads elif E → BlocksRead block R
    → (arms : Arms) (more : Tail) (used rest : Lexemes) → g.tail_with E R more used → class (kind rest) < 3
    → tail_with elif block arms (used ++ rest) ≡ Ok (whole arms more, rest)
tails_read elif E block R he hb arms more used rest (inl is) lt = tail_none elif block arms more used rest is lt
tails_read elif E block R he hb arms more used rest (inr (inl is)) lt = tail_else elif block R hb arms more used rest is
tails_read elif E block R he hb arms more used rest (inr (inr is)) lt =
    tail_elif elif block E he arms more used rest is lt

pub tail_with_read : (elif : Option (Arms → Parser Stmt)) (E : Grammar Tail) (block : Parser (List Stmt))
    (R : Grammar (List Stmt))
    → ElifReads elif E → BlocksRead block R → TailsRead (tail_with elif block) (g.tail_with E R)
tail_with_read elif E block R he hb = record { reads = tails_read elif E block R he hb }

elifs_read : (depth : ℕ) (block : Parser (List Stmt)) (R : Grammar (List Stmt)) (tail : Arms
    → Parser Stmt) (E : Grammar Tail) → BlocksRead block R
    → TailsRead tail E → (arms : Arms) (more : Tail) (used rest : Lexemes) → g.elif_with depth R E more used
    → class (kind rest) < 3
    → elif_with depth block tail arms (used ++ rest) ≡ Ok (whole arms more, rest)
unfolding elif_with
elifs_read depth block R tail E hb ht arms more used rest
    (x, a, b, parts, isx, (later, c, d, p2, isl, (more_is, d_is))) lt =
    seq (arm depth block (used ++ rest)) _ x (b ++ rest) _
    (ap (arm depth block) (split used a b rest parts) ∙ arm_read t.Elif depth block R hb x a (b ++ rest) isx)
    (ap (λ (z : Lexemes). tail (arms ++ x ∷ []) (z ++ rest)) (only b c d p2 d_is)
    ∙ (ht.reads (arms ++ x ∷ []) later c rest isl lt
    ∙ (ap (λ (z : Arms). pure (s.If z later.1) rest) (append_assoc arms (x ∷ []) later.0)
    ∙ ap (λ (z : Tail). pure (whole arms z) rest) (sym more_is))))

elif_front : (depth : ℕ) (R : Grammar (List Stmt)) (E : Grammar Tail) (more : Tail) (used rest : Lexemes)
    → g.elif_with depth R E more used
    → kind (used ++ rest) ≡ t.Elif
elif_front depth R E more used rest (x, a, b, parts, isx, later) = ap kind (split used a b rest parts)
    ∙ arm_kind t.Elif depth R x a (b ++ rest) isx

pub elif_with_read : (depth : ℕ) (block : Parser (List Stmt)) (R : Grammar (List Stmt)) (tail : Arms
    → Parser Stmt) (E : Grammar Tail)
    → BlocksRead block R → TailsRead tail E → ElifsRead (elif_with depth block tail) (g.elif_with depth R E)
elif_with_read depth block R tail E hb ht =
    record { reads = record { reads = elifs_read depth block R tail E hb ht }; front = elif_front depth R E }

-- ---- statements

abbrev For : ℕ → Grammar (List Stmt) → Grammar Stmt
For depth R = do
  at ← g.token t.For
  variable ← g.name
  _ ← g.token t.In
  x ← g.expr depth
  _ ← g.token t.Colon
  body ← R
  g.gives (s.For at variable x body)

looped_read : (depth : ℕ) (block : Parser (List Stmt)) (R : Grammar (List Stmt)) → BlocksRead block R
    → (y : Stmt) (used rest : Lexemes) → For depth R y used
    → looped depth block (used ++ rest) ≡ Ok (y, rest)
unfolding looped
looped_read depth block R h y used rest (
  at,
  a,
  b,
  parts,
  (text, tok),
  (
    variable,
    c,
    d,
    p2,
    isv,
    (
      at2,
      e,
      f,
      p3,
      (text2, tok2),
      (x, i, j, p4, isx, (at3, k, l, p5, (text3, tok3), (body, m, n, p6, isb, (y_is, n_is)))),
    ),
  ),
) =
    ap (looped depth block) (shift used a b rest (lex t.For at text) parts tok)
    ∙ seq (name (b ++ rest)) _ variable (d ++ rest) _ (named b c d rest variable p2 isv)
    (seq (expect t.In (d ++ rest)) _ at2 (f ++ rest) _ (expected t.In d e f rest at2 text2 p3 tok2)
    (seq (expr depth (f ++ rest)) _ x (j ++ rest) _
    (ap (expr depth) (split f i j rest p4) ∙ before depth x i j k l rest t.Colon at3 text3 isx p5 tok3 (omega arith))
    (seq (expect t.Colon (j ++ rest)) _ at3 (l ++ rest) _ (expected t.Colon j k l rest at3 text3 p5 tok3)
    (seq (block (l ++ rest)) _ body (n ++ rest) _ (ap block (split l m n rest p6) ∙ h.reads body m (n ++ rest) isb)
    (finish (s.For at variable x body) y n rest y_is n_is)))))

stmt_line : (depth : ℕ) (block : Parser (List Stmt)) (tail : Arms → Parser Stmt) (k : Terminal) (ts : Lexemes)
    → class k < 2
    → stmt_by depth block tail k ts ≡ line depth ts
stmt_line depth block tail t.If ts lt = absurd (omega arith)
stmt_line depth block tail t.For ts lt = absurd (omega arith)
stmt_line depth block tail _ ts lt = refl

stmts_read : (depth : ℕ) (block : Parser (List Stmt)) (R : Grammar (List Stmt)) (tail : Arms
    → Parser Stmt) (E : Grammar Tail) → BlocksRead block R
    → TailsRead tail E → (y : Stmt) (used rest : Lexemes) → g.stmt_with depth R E y used → class (kind rest) < 3
    → stmt_with depth block tail (used ++ rest) ≡ Ok (y, rest)
unfolding stmt_with
stmts_read depth block R tail E hb ht y used rest (inl is) lt =
    stmt_line depth block tail (kind (used ++ rest)) (used ++ rest)
    (starts_high 2 used rest (line_starts depth y used is)) ∙ line_read depth y used rest is
stmts_read depth block R tail E hb ht y used rest
    (inr (inl (x, a, b, parts, isx, (more, c, d, p2, ism, (y_is, d_is))))) lt =
    ap (λ (k : Terminal). stmt_by depth block tail k (used ++ rest)) (ap kind (split used a b rest parts)
    ∙ arm_kind t.If depth R x a (b ++ rest) isx)
    ∙ seq (arm depth block (used ++ rest)) _ x (b ++ rest) _
    (ap (arm depth block) (split used a b rest parts) ∙ arm_read t.If depth block R hb x a (b ++ rest) isx)
    (ap (λ (z : Lexemes). tail (x ∷ []) (z ++ rest)) (only b c d p2 d_is)
    ∙ (ht.reads (x ∷ []) more c rest ism lt ∙ ap (λ (z : Stmt). pure z rest) (sym y_is)))
stmts_read depth block R tail E hb ht y used rest (inr (inr (at, a, b, parts, (text, tok), more))) lt =
    ap (λ (k : Terminal). stmt_by depth block tail k (used ++ rest)) (front used a b rest t.For at text parts tok)
    ∙ looped_read depth block R hb y used rest (at, a, b, parts, (text, tok), more)

stmts_start : (depth : ℕ) (R : Grammar (List Stmt)) (E : Grammar Tail) (y : Stmt) (used : Lexemes)
    → g.stmt_with depth R E y used → Starts 3 used
stmts_start depth R E y used (inl is) = starts_wider 2 3 used (omega arith) (line_starts depth y used is)
stmts_start depth R E y used (inr (inl (x, a, b, parts, isx, more))) =
    starts_front 3 used a b parts (arm_starts t.If 3 depth R x a isx (omega arith) (omega arith))
stmts_start depth R E y used (inr (inr (at, a, b, parts, (text, tok), more))) =
    starts_token 3 used a b (lex t.For at text) parts tok (omega arith) (omega arith)

pub stmt_with_read : (depth : ℕ) (block : Parser (List Stmt)) (R : Grammar (List Stmt)) (tail : Arms
    → Parser Stmt) (E : Grammar Tail)
    → BlocksRead block R → TailsRead tail E → StatementsRead (stmt_with depth block tail) (g.stmt_with depth R E)
stmt_with_read depth block R tail E hb ht =
    record { reads = stmts_read depth block R tail E hb ht; starts = stmts_start depth R E }

-- ---- blocks and the rest of an `if`, at each level

pub record Level (depth : ℕ) : Type 0 where
  pub block : BlocksRead (b.block depth) (g.block depth)
  pub tail : TailsRead (b.tail depth) (g.tail depth)

nothing : (more : Tail) (used : Lexemes) → g.never {A = Tail} more used → ⊥
nothing more used is = is

within : (depth : ℕ) → Level depth → StatementsRead (stmt_with depth (b.block depth) (b.tail depth)) (g.stmt depth)
within depth h = stmt_with_read depth (b.block depth) (g.block depth) (b.tail depth) (g.tail depth) h.block h.tail

further : (depth : ℕ) → Level depth
    → BlocksRead (block_with (suc depth) (Some (stmt_with depth (b.block depth) (b.tail depth))))
    (g.block_with (suc depth) (g.stmt depth))
further depth h = block_with_read (suc depth) (Some (stmt_with depth (b.block depth) (b.tail depth))) (g.stmt depth)
    (within depth h)

pub level_reads : (depth : ℕ) → Level depth
unfolding b.block b.tail g.block g.tail
level_reads zero = record {
  block = block_with_read zero None g.never tt;
  tail = tail_with_read None g.never (block_with zero None) (g.block_with zero g.never) nothing
      (block_with_read zero None g.never tt);
}
level_reads (suc depth) = record {
  block = further depth (level_reads depth);
  tail = tail_with_read (Some (elif_with depth (b.block depth) (b.tail depth)))
      (g.elif_with depth (g.block depth) (g.tail depth))
      (block_with (suc depth) (Some (stmt_with depth (b.block depth) (b.tail depth))))
      (g.block_with (suc depth) (g.stmt depth))
      (elif_with_read depth (b.block depth) (g.block depth) (b.tail depth) (g.tail depth) (level_reads depth).block
      (level_reads depth).tail)
      (further depth (level_reads depth));
}

pub block_read : (depth : ℕ) (xs : List Stmt) (used rest : Lexemes) → g.block depth xs used
    → b.block depth (used ++ rest) ≡ Ok (xs, rest)
block_read depth xs used rest is = (level_reads depth).block.reads xs used rest is

pub stmt_read : (depth : ℕ) (x : Stmt) (used rest : Lexemes) → g.stmt depth x used → class (kind rest) < 3
    → b.stmt depth (used ++ rest) ≡ Ok (x, rest)
unfolding b.stmt
stmt_read depth x used rest is lt = (within depth (level_reads depth)).reads x used rest is lt

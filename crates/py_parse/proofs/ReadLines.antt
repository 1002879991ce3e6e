-- Lines are read: what the grammar gives of a statement on one line.
use Rattle.std.proofs.Common.{◌≡◌, ℕ, ◌<◌, ◌≤◌, List, [], ◌∷◌, ◌++◌, length, Option, Some, Ok, inl, inr, refl, ap, sym}
use Rattle.std.proofs.Common.{subst, ◌∙◌, arith}
use Rattle.krn_base.specs.declared.place.Loc.{Loc}
use Rattle.krn_base.specs.declared.operation.BinOp.{BinOp}
use Rattle.py_lex.specs.Bytes.{Bytes}
use Rattle.py_parse.specs.declared.terminal.Terminal.{Terminal}
use Rattle.py_parse.specs.declared.terminal.Terminal.TheVariants as t
use Rattle.py_parse.specs.declared.tree.Name.{Name}
use Rattle.py_parse.specs.declared.tree.Expr.{Expr}
use Rattle.py_parse.specs.declared.tree.Stmt.{Stmt}
use Rattle.py_parse.specs.declared.tree.Stmt.TheVariants as s
use Rattle.py_parse.specs.Blocks.{stored_by, augmented_by, stored, returned, simple_by, simple, line}
use Rattle.py_parse.specs.Descent.{expr, inside, trailers}
use Rattle.py_parse.specs.Grammar as g
use Rattle.py_parse.specs.Grammar.{Grammar, ◌>>=◌}
use Rattle.py_parse.specs.Lexemes.{Lexeme, Lexemes}
use Rattle.py_parse.specs.Parser.{Parser, pure, kind, place, expect, name, more}
use Rattle.py_parse.specs.Trees.{augmented}
use Rattle.py_parse.proofs.ReadSteps.{seq, split, shift, only, not_same, expect_takes, name_takes, loose}
use Rattle.py_parse.proofs.ReadLists.{listed_read}
use Rattle.py_parse.proofs.ReadExpr.{expr_read, target_trailers_read, exprs_item}

-- ---- steps

abbrev pub lex : Terminal → Loc → Bytes → Lexeme
lex k at text = record { kind = k; loc = at; text = text }

-- a rule's end, which takes nothing
pub finish : {A : Type 0} (x y : A) (b rest : Lexemes) → y ≡ x → b ≡ [] → pure x (b ++ rest) ≡ pure y rest
finish {A = A} x y b rest y_is b_is = ap (λ (z : Lexemes). pure {A = A} x (z ++ rest)) b_is
    ∙ ap (λ (z : A). pure {A = A} z rest) (sym y_is)

-- the terminal that a part of a rule begins with
pub front : (b c d rest : Lexemes) (k : Terminal) (at : Loc) (text : Bytes) → b ≡ c ++ d → c ≡ lex k at text ∷ []
    → kind (b ++ rest) ≡ k
front b c d rest k at text parts tok = ap kind (shift b c d rest (lex k at text) parts tok)

pub expected : (k : Terminal) (b c d rest : Lexemes) (at : Loc) (text : Bytes) → b ≡ c ++ d → c ≡ lex k at text ∷ []
    → expect k (b ++ rest) ≡ Ok (at, d ++ rest)
expected k b c d rest at text parts tok = ap (expect k) (shift b c d rest (lex k at text) parts tok)
    ∙ expect_takes k at text (d ++ rest)

pub named : (b c d rest : Lexemes) (x : Name) → b ≡ c ++ d → g.name x c → name (b ++ rest) ≡ Ok (x, d ++ rest)
named b c d rest x parts tok = ap name (shift b c d rest (lex t.Name x.loc x.text) parts tok)
    ∙ name_takes x.loc x.text (d ++ rest)

-- before a terminal that goes on with no expression
pub before : (depth : ℕ) (x : Expr) (used b c d rest : Lexemes) (k : Terminal) (at : Loc) (text : Bytes)
    → g.expr depth x used → b ≡ c ++ d → c ≡ lex k at text ∷ [] → 11 < loose k
    → expr depth (used ++ (b ++ rest)) ≡ Ok (x, b ++ rest)
before depth x used b c d rest k at text is parts tok lt =
    expr_read depth x used (b ++ rest) is
    (subst (λ (z : Terminal). 11 < loose z) (sym (front b c d rest k at text parts tok)) lt)

-- ---- what a statement begins with: a line (1) or a block (2); and what goes on with an `if` (3)

abbrev pub class : Terminal → ℕ
class t.Text = 1
class t.Pass = 1
class t.Return = 1
class t.Name = 1
class t.If = 2
class t.For = 2
class t.Elif = 3
class t.Else = 3
class _ = 0

-- the first lexeme is of a class below a limit, and not 0
pub record Starts (limit : ℕ) (used : Lexemes) : Type 0 where
  pub first : Lexeme
  pub more : Lexemes
  pub is : used ≡ first ∷ more
  pub low : 1 ≤ class first.kind
  pub high : class first.kind < limit

pub starts_token : (limit : ℕ) (used a b : Lexemes) (x : Lexeme) → used ≡ a ++ b → a ≡ x ∷ [] → 1 ≤ class x.kind
    → class x.kind < limit → Starts limit used
starts_token limit used a b x parts tok low high = record {
  first = x;
  more = b;
  is = parts ∙ ap (λ (z : Lexemes). z ++ b) tok;
  low = low;
  high = high;
}

pub starts_front : (limit : ℕ) (used a b : Lexemes) → used ≡ a ++ b → Starts limit a → Starts limit used
starts_front limit used a b parts h = record {
  first = h.first;
  more = h.more ++ b;
  is = parts ∙ ap (λ (z : Lexemes). z ++ b) h.is;
  low = h.low;
  high = h.high;
}

pub starts_wider : (n m : ℕ) (used : Lexemes) → n ≤ m → Starts n used → Starts m used
starts_wider n m used le h =
    record { first = h.first; more = h.more; is = h.is; low = h.low; high = omega (arith, h.high) }

pub starts_low : (limit : ℕ) (used rest : Lexemes) → Starts limit used → 1 ≤ class (kind (used ++ rest))
starts_low limit used rest h = subst (λ (z : Lexemes). 1 ≤ class (kind (z ++ rest))) (sym h.is) h.low

pub starts_high : (limit : ℕ) (used rest : Lexemes) → Starts limit used → class (kind (used ++ rest)) < limit
starts_high limit used rest h = subst (λ (z : Lexemes). class (kind (z ++ rest)) < limit) (sym h.is) h.high

pub starts_length : (limit : ℕ) (used : Lexemes) → Starts limit used → 1 ≤ length used
starts_length limit used h = subst (λ (z : Lexemes). 1 ≤ length z) (sym h.is) (omega arith)

-- ---- targets and assignments

last_loose : (b rest : Lexemes) → b ≡ [] → kind rest ≡ t.Newline → 11 < loose (kind (b ++ rest))
last_loose b rest b_is ends =
    subst (λ (z : Lexemes). 11 < loose (kind (z ++ rest))) (sym b_is)
    (subst (λ (z : Terminal). 11 < loose z) (sym ends) (omega arith))

augmented_loose : (k : Terminal) (op : BinOp) → augmented k ≡ Some op → loose k ≡ 12
augmented_loose t.PlusAssign op is = refl
augmented_loose t.MinusAssign op is = refl
augmented_loose t.StarAssign op is = refl
augmented_loose t.DoubleSlashAssign op is = refl
augmented_loose t.PercentAssign op is = refl
augmented_loose t.ShiftLeftAssign op is = refl
augmented_loose t.ShiftRightAssign op is = refl
augmented_loose t.AmpersandAssign op is = refl
augmented_loose t.BarAssign op is = refl
augmented_loose t.CaretAssign op is = refl
augmented_loose _ op is = absurd cc

stored_augmented : (value : Parser Expr) (target : Expr) (loc : Loc) (k : Terminal) (op : BinOp) (ts : Lexemes)
    → augmented k ≡ Some op
    → stored_by value target loc k ts ≡ augmented_by value target loc (Some op) ts
stored_augmented value target loc t.Assign op ts is = absurd cc
stored_augmented value target loc k op ts is = ap (λ (o : Option BinOp). augmented_by value target loc o ts) is

target_read : (depth : ℕ) (x : Expr) (used rest : Lexemes) → g.target depth x used → 1 < loose (kind rest)
    → stored depth (used ++ rest) ≡ stored_by (expr depth) x (place rest) (kind rest) rest
unfolding stored
target_read depth x used rest (first, a, b, parts, tok, (xs, c, d, p2, are, (x_is, d_is))) lt =
    ap (stored depth) (shift used a b rest (lex t.Name first.loc first.text) parts tok)
    ∙ (seq (trailers (inside depth) (b ++ rest)) _ xs rest _
    (ap (λ (z : Lexemes). trailers (inside depth) (z ++ rest)) (only b c d p2 d_is)
    ∙ target_trailers_read depth xs c rest are lt)
    (ap (λ (z : Expr). stored_by (expr depth) z (place rest) (kind rest) rest) (sym x_is)))

-- ---- the alternatives of a simple statement, each up to its Newline

alone_read : (depth : ℕ) (y : Stmt) (used rest : Lexemes) → (g.target depth >>= (λ x. g.gives (s.Alone x))) y used
    → kind rest ≡ t.Newline
    → stored depth (used ++ rest) ≡ Ok (y, rest)
alone_read depth y used rest (x, a, b, parts, is, (y_is, b_is)) ends =
    ap (λ (z : Lexemes). stored depth (z ++ rest)) (only used a b parts b_is)
    ∙ (target_read depth x a rest is (subst (λ (z : Terminal). 1 < loose z) (sym ends) (omega arith))
    ∙ (ap (λ (z : Terminal). stored_by (expr depth) x (place rest) z rest) ends
    ∙ ap (λ (z : Stmt). pure z rest) (sym y_is)))

assigned_read : (depth : ℕ) (y : Stmt) (used rest : Lexemes)
    → (g.target depth >>=
    (λ x. g.token t.Assign >>= (λ at. g.expr depth >>= (λ value. g.gives (s.Assign x at value))))) y used
    → kind rest ≡ t.Newline → stored depth (used ++ rest) ≡ Ok (y, rest)
assigned_read depth y used rest
    (x, a, b, parts, is, (at, c, d, p2, (text, tok), (value, h, i, p3, isv, (y_is, i_is)))) ends =
    ap (stored depth) (split used a b rest parts)
    ∙ (target_read depth x a (b ++ rest) is
    (subst (λ (z : Terminal). 1 < loose z) (sym (front b c d rest t.Assign at text p2 tok)) (omega arith))
    ∙ (ap (λ (z : Lexemes). stored_by (expr depth) x (place z) (kind z) z)
    (shift b c d rest (lex t.Assign at text) p2 tok)
    ∙ seq (expr depth (d ++ rest)) _ value (i ++ rest) _
    (ap (expr depth) (split d h i rest p3) ∙ expr_read depth value h (i ++ rest) isv (last_loose i rest i_is ends))
    (finish (s.Assign x at value) y i rest y_is i_is)))

augmented_read : (depth : ℕ) (y : Stmt) (used rest : Lexemes)
    → (g.target depth >>=
    (λ x. g.operator augmented >>= (λ op. g.expr depth >>= (λ value. g.gives (s.Augment x op.0 op.1 value))))) y
    used
    → kind rest ≡ t.Newline → stored depth (used ++ rest) ≡ Ok (y, rest)
augmented_read depth y used rest
    (x, a, b, parts, is, (op, c, d, p2, (k, isop, (text, tok)), (value, h, i, p3, isv, (y_is, i_is)))) ends =
    ap (stored depth) (split used a b rest parts)
    ∙ (target_read depth x a (b ++ rest) is
    (omega (arith, ap loose (front b c d rest k op.1 text p2 tok), augmented_loose k op.0 isop))
    ∙ (ap (λ (z : Lexemes). stored_by (expr depth) x (place z) (kind z) z) (shift b c d rest (lex k op.1 text) p2 tok)
    ∙ (stored_augmented (expr depth) x op.1 k op.0 (lex k op.1 text ∷ (d ++ rest)) isop
    ∙ seq (expr depth (d ++ rest)) _ value (i ++ rest) _
    (ap (expr depth) (split d h i rest p3) ∙ expr_read depth value h (i ++ rest) isv (last_loose i rest i_is ends))
    (finish (s.Augment x op.0 op.1 value) y i rest y_is i_is))))

-- the values of a `return`
values_read : (depth : ℕ) (xs : List Expr) (used rest : Lexemes) → g.listed (g.expr depth) xs used
    → kind rest ≡ t.Newline
    → more t.Newline (expr depth) [] (used ++ rest) ≡ Ok (xs, rest)
values_read depth xs used rest are ends =
    listed_read t.Newline (expr depth) (g.expr depth)
    (exprs_item depth t.Newline refl (omega arith) (not_same t.Newline t.Comma (λ is. absurd cc)))
    [] xs used rest are ends

returned_read : (depth : ℕ) (y : Stmt) (used rest : Lexemes)
    → (g.token t.Return >>= (λ at. g.listed (g.expr depth) >>= (λ xs. g.gives (s.Return at xs)))) y used
    → kind rest ≡ t.Newline → returned depth (used ++ rest) ≡ Ok (y, rest)
unfolding returned
returned_read depth y used rest (at, a, b, parts, (text, tok), (xs, c, d, p2, are, (y_is, d_is))) ends =
    ap (returned depth) (shift used a b rest (lex t.Return at text) parts tok)
    ∙ seq (more t.Newline (expr depth) [] (b ++ rest)) _ xs rest _
    (ap (λ (z : Lexemes). more t.Newline (expr depth) [] (z ++ rest)) (only b c d p2 d_is)
    ∙ values_read depth xs c rest are ends)
    (ap (λ (z : Stmt). pure z rest) (sym y_is))

-- ---- lines

target_starts : (depth : ℕ) (x : Expr) (used : Lexemes) → g.target depth x used → Starts 2 used
target_starts depth x used (first, a, b, parts, tok, more) =
    starts_token 2 used a b (lex t.Name first.loc first.text) parts tok (omega arith) (omega arith)

target_kind : (depth : ℕ) (x : Expr) (used rest : Lexemes) → g.target depth x used → kind (used ++ rest) ≡ t.Name
target_kind depth x used rest (first, a, b, parts, tok, more) =
    front used a b rest t.Name first.loc first.text parts tok

simple_starts : (depth : ℕ) (x : Stmt) (used : Lexemes) → g.simple depth x used → Starts 2 used
simple_starts depth x used (inl (at, a, b, parts, (text, tok), more)) =
    starts_token 2 used a b (lex t.Text at text) parts tok (omega arith) (omega arith)
simple_starts depth x used (inr (inl (at, a, b, parts, (text, tok), more))) =
    starts_token 2 used a b (lex t.Pass at text) parts tok (omega arith) (omega arith)
simple_starts depth x used (inr (inr (inl (at, a, b, parts, (text, tok), more)))) =
    starts_token 2 used a b (lex t.Return at text) parts tok (omega arith) (omega arith)
simple_starts depth x used (inr (inr (inr (inl (y, a, b, parts, is, more))))) =
    starts_front 2 used a b parts (target_starts depth y a is)
simple_starts depth x used (inr (inr (inr (inr (inl (y, a, b, parts, is, more)))))) =
    starts_front 2 used a b parts (target_starts depth y a is)
simple_starts depth x used (inr (inr (inr (inr (inr (y, a, b, parts, is, more)))))) =
    starts_front 2 used a b parts (target_starts depth y a is)

-- a sequence that begins with a target
simple_stored : (depth : ℕ) (used a b rest : Lexemes) (x : Expr) → used ≡ a ++ b → g.target depth x a
    → simple depth (used ++ rest) ≡ stored depth (used ++ rest)
unfolding simple
simple_stored depth used a b rest x parts is =
    ap (λ (k : Terminal). simple_by depth k (used ++ rest)) (ap kind (split used a b rest parts)
    ∙ target_kind depth x a (b ++ rest) is)

simple_read : (depth : ℕ) (x : Stmt) (used rest : Lexemes) → g.simple depth x used → kind rest ≡ t.Newline
    → simple depth (used ++ rest) ≡ Ok (x, rest)
unfolding simple
simple_read depth x used rest (inl (at, a, b, parts, (text, tok), (x_is, b_is))) ends =
    ap (simple depth) (shift used a b rest (lex t.Text at text) parts tok) ∙ finish s.Doc x b rest x_is b_is
simple_read depth x used rest (inr (inl (at, a, b, parts, (text, tok), (x_is, b_is)))) ends =
    ap (simple depth) (shift used a b rest (lex t.Pass at text) parts tok) ∙ finish s.Pass x b rest x_is b_is
simple_read depth x used rest (inr (inr (inl (at, a, b, parts, (text, tok), xs)))) ends =
    ap (λ (k : Terminal). simple_by depth k (used ++ rest)) (front used a b rest t.Return at text parts tok)
    ∙ returned_read depth x used rest (at, a, b, parts, (text, tok), xs) ends
simple_read depth x used rest (inr (inr (inr (inl (y, a, b, parts, is, more))))) ends =
    simple_stored depth used a b rest y parts is ∙ alone_read depth x used rest (y, a, b, parts, is, more) ends
simple_read depth x used rest (inr (inr (inr (inr (inl (y, a, b, parts, is, more)))))) ends =
    simple_stored depth used a b rest y parts is ∙ assigned_read depth x used rest (y, a, b, parts, is, more) ends
simple_read depth x used rest (inr (inr (inr (inr (inr (y, a, b, parts, is, more)))))) ends =
    simple_stored depth used a b rest y parts is ∙ augmented_read depth x used rest (y, a, b, parts, is, more) ends

pub line_starts : (depth : ℕ) (x : Stmt) (used : Lexemes) → g.line depth x used → Starts 2 used
line_starts depth x used (y, a, b, parts, is, more) = starts_front 2 used a b parts (simple_starts depth y a is)

pub line_read : (depth : ℕ) (x : Stmt) (used rest : Lexemes) → g.line depth x used
    → line depth (used ++ rest) ≡ Ok (x, rest)
unfolding line
line_read depth x used rest (y, a, b, parts, is, (at, c, d, p2, (text, tok), (x_is, d_is))) =
    ap (line depth) (split used a b rest parts)
    ∙ seq (simple depth (a ++ (b ++ rest))) _ y (b ++ rest) _
    (simple_read depth y a (b ++ rest) is (front b c d rest t.Newline at text p2 tok))
    (seq (expect t.Newline (b ++ rest)) _ at (d ++ rest) _ (expected t.Newline b c d rest at text p2 tok)
    (finish y x d rest x_is d_is))

-- Arguments, subscripts and trailers are read as the grammar gives them.
use Rattle.std.proofs.Common.{◌≡◌, ℕ, zero, suc, ◌<◌, ◌≤◌, false, ◌∷◌, ◌++◌, Option, Some, None, Ok, inl, inr, ◌⊎◌}
use Rattle.std.proofs.Common.{refl, ◌∙◌, arith}
use Rattle.py_parse.specs.declared.terminal.Terminal.{Terminal}
use Rattle.py_parse.specs.declared.terminal.Terminal.TheVariants as t
use Rattle.py_parse.specs.declared.tree.Expr.{Expr}
use Rattle.py_parse.specs.declared.tree.Arg.{Arg, roll-Arg}
use Rattle.py_parse.specs.declared.tree.Sub.{Sub}
use Rattle.py_parse.specs.declared.tree.Sub.TheVariants as sub
use Rattle.py_parse.specs.Descent.{Inner, arg, arg_by, bound, bound_by, step, step_by, cut, cut_by, subscript}
use Rattle.py_parse.specs.Descent.{subscript_by, subscript_from}
use Rattle.py_parse.specs.Grammar as g
use Rattle.py_parse.specs.Grammar.{◌>>=◌}
use Rattle.py_parse.specs.Lexemes.{Lexeme, Lexemes, same}
use Rattle.py_parse.specs.Parser.{kind, Parser, and_then, pure}
use Rattle.py_parse.proofs.ReadSteps.{split, shift, only, not_same, expect_takes, loose, begin, begins_not}
use Rattle.py_parse.proofs.ReadLists.{Ends, Item}

-- a parser of expressions reads what the grammar gives, before what no expression goes on with
abbrev pub IsRead : Parser Expr → g.Grammar Expr → Type 0
IsRead p R = (x : Expr) (used rest : Lexemes) → R x used → 11 < loose (kind rest) → p (used ++ rest) ≡ Ok (x, rest)

abbrev pub Begins : g.Grammar Expr → Type 0
Begins R = (x : Expr) (used rest : Lexemes) → R x used → 1 ≤ begin (kind (used ++ rest))

abbrev pub Inside : ℕ → Inner → g.Grammar Expr → Type 0
Inside zero inner R = (x : Expr) (used : Lexemes) → R x used → ⊥
Inside (suc depth) None R = ⊥
Inside (suc depth) (Some p) R = IsRead p R

-- what stands one level further in, where so many levels may still open
pub record Level (depth : ℕ) (inner : Inner) (R : g.Grammar Expr) : Type 0 where
  pub inside : Inside depth inner R
  pub begins : Begins R

-- ---- arguments

paren_loose : (k : Terminal) → Ends t.CloseParen k → 11 < loose k
paren_loose k (inl e) = rw e (omega arith)
paren_loose k (inr e) = rw e (omega arith)

bracket_loose : (k : Terminal) → Ends t.CloseBracket k → 11 < loose k
bracket_loose k (inl e) = rw e (omega arith)
bracket_loose k (inr e) = rw e (omega arith)

no_key : (p : Parser Expr) (first : Expr) (k : Terminal) (ts : Lexemes) → Ends t.CloseParen k
    → arg_by p first k ts ≡ Ok (roll-Arg (record { key = None; value = first }), ts)
no_key p first k ts (inl e) = rw e refl
no_key p first k ts (inr e) = rw e refl

pub arg_read : (p : Parser Expr) (R : g.Grammar Expr) → IsRead p R → (x : Arg) (used rest : Lexemes) → g.arg R x used
    → Ends t.CloseParen (kind rest) → arg p (used ++ rest) ≡ Ok (x, rest)
unfolding arg
arg_read p R read x used rest (inl (y, a, b, parts, is_y, (x_is, b_is))) ends =
    rw (only used a b parts b_is, x_is, read y a rest is_y (paren_loose (kind rest) ends))
    (no_key p y (kind rest) rest ends)
arg_read p R read x used rest
    (inr (key, a, b, parts, is_key, (at, c, d, b_parts, (text, tok), (y, e, f, d_parts, is_y, (x_is, f_is))))) ends =
    let assign : Lexeme = record { kind = t.Assign; loc = at; text = text } in
    let far : 11 < loose (kind (assign ∷ (e ++ rest))) = omega arith in
    rw (
      split used a b rest parts,
      shift b c d rest assign b_parts tok,
      only d e f d_parts f_is,
      x_is,
      read key a (assign ∷ (e ++ rest)) is_key far,
      read y e rest is_y (paren_loose (kind rest) ends),
    ) refl

arg_begins : (R : g.Grammar Expr) → Begins R → (x : Arg) (used rest : Lexemes) → g.arg R x used
    → 1 ≤ begin (kind (used ++ rest))
arg_begins R begins x used rest (inl (y, a, b, parts, is_y, more)) =
    rw (split used a b rest parts) (begins y a (b ++ rest) is_y)
arg_begins R begins x used rest (inr (y, a, b, parts, is_y, more)) =
    rw (split used a b rest parts) (begins y a (b ++ rest) is_y)

pub arg_item : (p : Parser Expr) (R : g.Grammar Expr) → IsRead p R → Begins R → Item t.CloseParen (arg p) (g.arg R)
arg_item p R read begins = record {
  read = arg_read p R read;
  begins = λ x used rest is. begins_not (kind (used ++ rest)) t.CloseParen (arg_begins R begins x used rest is) refl;
  apart = not_same t.CloseParen t.Comma (λ e. absurd cc);
}

expr_close : (close : Terminal) → 11 < loose close → (k : Terminal) → Ends close k → 11 < loose k
expr_close close far k (inl e) = rw e (omega arith)
expr_close close far k (inr e) = rw e far

pub expr_item : (close : Terminal) (p : Parser Expr) (R : g.Grammar Expr) → begin close ≡ 0 → 11 < loose close
    → same close t.Comma ≡ false → IsRead p R → Begins R → Item close p R
expr_item close p R ends far apart read begins = record {
  read = λ x used rest is k. read x used rest is (expr_close close far (kind rest) k);
  begins = λ x used rest is. begins_not (kind (used ++ rest)) close (begins x used rest is) ends;
  apart = apart;
}

-- ---- subscripts

abbrev Stops : Terminal → Type 0
Stops k = (k ≡ t.Colon) ⊎ Ends t.CloseBracket k

stops_loose : (k : Terminal) → Stops k → 11 < loose k
stops_loose k (inl e) = rw e (omega arith)
stops_loose k (inr e) = bracket_loose k e

unbounded : (p : Parser Expr) (k : Terminal) (ts : Lexemes) → Stops k → bound_by p k ts ≡ Ok (None, ts)
unbounded p k ts (inl e) = rw e refl
unbounded p k ts (inr (inl e)) = rw e refl
unbounded p k ts (inr (inr e)) = rw e refl

bounded : (p : Parser Expr) (k : Terminal) (ts : Lexemes) → 1 ≤ begin k
    → bound_by p k ts ≡ and_then (p ts) (λ x. pure (Some x))
bounded p t.Colon ts starts = absurd (omega arith)
bounded p t.Comma ts starts = absurd (omega arith)
bounded p t.CloseBracket ts starts = absurd (omega arith)
bounded p _ ts starts = refl

bound_read : (p : Parser Expr) (R : g.Grammar Expr) → IsRead p R → Begins R → (x : Option Expr) (used rest : Lexemes)
    → g.maybe R x used → Stops (kind rest) → bound p (used ++ rest) ≡ Ok (x, rest)
unfolding bound
bound_read p R read begins None used rest empty stops = rw empty (unbounded p (kind rest) rest stops)
bound_read p R read begins (Some x) used rest is stops =
    bounded p (kind (used ++ rest)) (used ++ rest) (begins x used rest is)
    ∙ rw (read x used rest is (stops_loose (kind rest) stops)) refl

step_none : (p : Parser Expr) (k : Terminal) (ts : Lexemes) → Ends t.CloseBracket k → step_by p k ts ≡ Ok (None, ts)
step_none p k ts (inl e) = rw e refl
step_none p k ts (inr e) = rw e refl

step_read : (p : Parser Expr) (R : g.Grammar Expr) → IsRead p R → Begins R → (x : Option Expr) (used rest : Lexemes)
    → g.step R x used → Ends t.CloseBracket (kind rest) → step p (used ++ rest) ≡ Ok (x, rest)
unfolding step
step_read p R read begins x used rest (inl (x_is, empty)) ends = rw (empty, x_is) (step_none p (kind rest) rest ends)
step_read p R read begins x used rest (inr (at, a, b, parts, (text, tok), is)) ends =
    rw (shift used a b rest (record { kind = t.Colon; loc = at; text = text }) parts tok)
    (bound_read p R read begins x b rest is (inr ends))

step_next : (R : g.Grammar Expr) (x : Option Expr) (used rest : Lexemes) → g.step R x used
    → Ends t.CloseBracket (kind rest) → Stops (kind (used ++ rest))
step_next R x used rest (inl (x_is, empty)) ends = rw empty (inr ends)
step_next R x used rest (inr (at, a, b, parts, (text, tok), is)) ends =
    rw (shift used a b rest (record { kind = t.Colon; loc = at; text = text }) parts tok) (inl refl)

abbrev CutOf : g.Grammar Expr → Option Expr → g.Grammar Sub
CutOf R start = do
  _ ← g.token t.Colon
  stop ← g.maybe R
  by ← g.step R
  g.gives (sub.Cut start stop by)

cut_read : (p : Parser Expr) (R : g.Grammar Expr) → IsRead p R → Begins R
    → (start : Option Expr) (x : Sub) (used rest : Lexemes) → CutOf R start x used → Ends t.CloseBracket (kind rest)
    → cut p start (used ++ rest) ≡ Ok (x, rest)
unfolding cut
cut_read p R read begins start x used rest
    (at, a, b, parts, (text, tok), (stop, c, d, b_parts, is_stop, (by, e, f, d_parts, is_by, (x_is, f_is)))) ends =
    rw (
      shift used a b rest (record { kind = t.Colon; loc = at; text = text }) parts tok,
      expect_takes t.Colon at text (b ++ rest),
      split b c d rest b_parts,
      only d e f d_parts f_is,
      x_is,
      bound_read p R read begins stop c (e ++ rest) is_stop (step_next R by e rest is_by ends),
      step_read p R read begins by e rest is_by ends,
    ) refl

cut_kind : (R : g.Grammar Expr) (start : Option Expr) (x : Sub) (used rest : Lexemes) → CutOf R start x used
    → kind (used ++ rest) ≡ t.Colon
cut_kind R start x used rest (at, a, b, parts, (text, tok), more) =
    rw (shift used a b rest (record { kind = t.Colon; loc = at; text = text }) parts tok) refl

at_first : (p : Parser Expr) (k : Terminal) (ts : Lexemes) → 1 ≤ begin k → subscript_by p k ts ≡ subscript_from p ts
at_first p t.Colon ts starts = absurd (omega arith)
at_first p _ ts starts = refl

no_cut : (p : Parser Expr) (first : Expr) (k : Terminal) (ts : Lexemes) → Ends t.CloseBracket k
    → cut_by p first k ts ≡ Ok (sub.At first, ts)
no_cut p first k ts (inl e) = rw e refl
no_cut p first k ts (inr e) = rw e refl

pub subscript_read : (p : Parser Expr) (R : g.Grammar Expr) → IsRead p R → Begins R → (x : Sub) (used rest : Lexemes)
    → g.subscript R x used → Ends t.CloseBracket (kind rest) → subscript p (used ++ rest) ≡ Ok (x, rest)
unfolding subscript subscript_from
subscript_read p R read begins x used rest (inl (y, a, b, parts, is_y, (x_is, b_is))) ends =
    rw (only used a b parts b_is, x_is)
    (at_first p (kind (a ++ rest)) (a ++ rest) (begins y a rest is_y)
    ∙ rw (read y a rest is_y (bracket_loose (kind rest) ends)) (no_cut p y (kind rest) rest ends))
subscript_read p R read begins x used rest (inr (None, a, b, parts, empty, is)) ends =
    rw (split used a b rest parts, empty, cut_kind R None x b rest is) (cut_read p R read begins None x b rest is ends)
subscript_read p R read begins x used rest (inr (Some y, a, b, parts, is_y, is)) ends =
    let colon : kind (b ++ rest) ≡ t.Colon = cut_kind R (Some y) x b rest is in
    let far : 11 < loose (kind (b ++ rest)) = rw colon (omega arith) in
    rw (split used a b rest parts)
    (at_first p (kind (a ++ (b ++ rest))) (a ++ (b ++ rest)) (begins y a (b ++ rest) is_y)
    ∙ rw (read y a (b ++ rest) is_y far, colon) (cut_read p R read begins (Some y) x b rest is ends))

subscript_begins : (R : g.Grammar Expr) → Begins R → (x : Sub) (used rest : Lexemes) → g.subscript R x used
    → same (kind (used ++ rest)) t.CloseBracket ≡ false
subscript_begins R begins x used rest (inl (y, a, b, parts, is_y, more)) =
    rw (split used a b rest parts)
    (begins_not (kind (a ++ (b ++ rest))) t.CloseBracket (begins y a (b ++ rest) is_y) refl)
subscript_begins R begins x used rest (inr (None, a, b, parts, empty, is)) =
    rw (split used a b rest parts, empty, cut_kind R None x b rest is)
    (not_same t.Colon t.CloseBracket (λ e. absurd cc))
subscript_begins R begins x used rest (inr (Some y, a, b, parts, is_y, is)) =
    rw (split used a b rest parts)
    (begins_not (kind (a ++ (b ++ rest))) t.CloseBracket (begins y a (b ++ rest) is_y) refl)

pub subscript_item : (p : Parser Expr) (R : g.Grammar Expr) → IsRead p R → Begins R
    → Item t.CloseBracket (subscript p) (g.subscript R)
subscript_item p R read begins = record {
  read = subscript_read p R read begins;
  begins = subscript_begins R begins;
  apart = not_same t.CloseBracket t.Comma (λ e. absurd cc);
}

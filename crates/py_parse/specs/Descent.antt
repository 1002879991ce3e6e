-- Expressions, read by descent, one definition for each of the crate's own functions. The clauses of `parse` cite the
-- grammar and the stack.
--
-- A rule has the parser of expressions one level further in, for what stands inside brackets, and none where no bracket
-- may open. A row of `not` and signs counts too: the rules that may begin with one have the number of levels that may
-- still open in the row.
use Rattle.std.specs.Prelude.{ℕ, zero, suc, true, false, if◌then◌else◌, List, [], ◌∷◌, ◌++◌, length, Option, Some, None}
use Rattle.krn_base.specs.declared.place.Loc.{Loc}
use Rattle.krn_base.specs.declared.operation.BinOp.{BinOp}
use Rattle.py_parse.specs.declared.terminal.Terminal.{Terminal}
use Rattle.py_parse.specs.declared.terminal.Terminal.TheVariants as t
use Rattle.py_parse.specs.declared.tree.Expr.{Expr}
use Rattle.py_parse.specs.declared.tree.Expr.TheVariants as e
use Rattle.py_parse.specs.declared.tree.Trailer.{Trailer}
use Rattle.py_parse.specs.declared.tree.Trailer.TheVariants as trailer
use Rattle.py_parse.specs.declared.tree.Arg.{Arg, roll-Arg}
use Rattle.py_parse.specs.declared.tree.Sub.{Sub}
use Rattle.py_parse.specs.declared.tree.Sub.TheVariants as sub
use Rattle.py_parse.specs.Lexemes.{same}
use Rattle.py_parse.specs.Trees.{operator_at, levels_of_operators, comparison, sign, chained, joined, trailed}
use Rattle.py_parse.specs.Parser.{Parser, ◌>>=◌, pure, refuse, peek, take_place, take_name, take_value, here, expect}
use Rattle.py_parse.specs.Parser.{name, number, deeper, some, more}

abbrev pub Inner : Type 0
Inner = Option (Parser Expr)

-- ---- arguments and subscripts

abbrev pub arg_by : Parser Expr → Expr → Terminal → Parser Arg
arg_by expr first t.Assign = do
  _ ← take_place
  value ← expr
  pure (roll-Arg (record { key = Some first; value = value }))
arg_by expr first _ = pure (roll-Arg (record { key = None; value = first }))

unfoldable pub arg : Parser Expr → Parser Arg
arg expr = do
  first ← expr
  kind ← peek
  arg_by expr first kind

-- an expression, or none before what ends a bound
abbrev pub bound_by : Parser Expr → Terminal → Parser (Option Expr)
bound_by expr t.Colon = pure None
bound_by expr t.Comma = pure None
bound_by expr t.CloseBracket = pure None
bound_by expr _ = do
  x ← expr
  pure (Some x)

unfoldable pub bound : Parser Expr → Parser (Option Expr)
bound expr = do
  kind ← peek
  bound_by expr kind

abbrev pub step_by : Parser Expr → Terminal → Parser (Option Expr)
step_by expr t.Colon = do
  _ ← take_place
  bound expr
step_by expr _ = pure None

unfoldable pub step : Parser Expr → Parser (Option Expr)
step expr = do
  kind ← peek
  step_by expr kind

-- a slice from its first colon on
unfoldable pub cut : Parser Expr → Option Expr → Parser Sub
cut expr start = do
  _ ← expect t.Colon
  stop ← bound expr
  by ← step expr
  pure (sub.Cut start stop by)

abbrev pub cut_by : Parser Expr → Expr → Terminal → Parser Sub
cut_by expr first t.Colon = cut expr (Some first)
cut_by expr first _ = pure (sub.At first)

unfoldable pub subscript_from : Parser Expr → Parser Sub
subscript_from expr = do
  first ← expr
  kind ← peek
  cut_by expr first kind

abbrev pub subscript_by : Parser Expr → Terminal → Parser Sub
subscript_by expr t.Colon = cut expr None
subscript_by expr _ = subscript_from expr

unfoldable pub subscript : Parser Expr → Parser Sub
subscript expr = do
  kind ← peek
  subscript_by expr kind

-- ---- trailers

unfoldable pub call : Parser Expr → Parser Trailer
call expr = do
  loc ← take_place
  args ← more t.CloseParen (arg expr) []
  _ ← expect t.CloseParen
  pure (trailer.Call loc args)

unfoldable pub pick : Parser Expr → Parser Trailer
pick expr = do
  loc ← take_place
  subs ← some t.CloseBracket (subscript expr) []
  _ ← expect t.CloseBracket
  pure (trailer.Pick loc subs)

unfoldable pub attribute : Parser Trailer
attribute = do
  _ ← take_place
  attr ← name
  pure (trailer.Attr attr)

-- the trailer that begins with this token, and those behind it by `again`; none where none begins
abbrev pub trailers_by : Inner → (List Trailer → Parser (List Trailer)) → List Trailer → Terminal
    → Parser (List Trailer)
trailers_by inner again found t.OpenParen = deeper inner (λ expr. do x ← call expr; again (found ++ x ∷ []))
trailers_by inner again found t.OpenBracket = deeper inner (λ expr. do x ← pick expr; again (found ++ x ∷ []))
trailers_by inner again found t.Dot = do x ← attribute; again (found ++ x ∷ [])
trailers_by inner again found _ = pure found

unfoldable pub trailers_from : Inner → ℕ → List Trailer → Parser (List Trailer)
trailers_from inner zero found = pure found
trailers_from inner (suc n) found = do
  kind ← peek
  trailers_by inner (trailers_from inner n) found kind

unfoldable pub trailers : Inner → Parser (List Trailer)
trailers inner = λ ts. trailers_from inner (length ts) [] ts

-- ---- operands

-- what follows the first expression inside a parenthesis: a comma makes a tuple
abbrev pub parenthesis_by : Parser Expr → Loc → Expr → Terminal → Parser Expr
parenthesis_by expr loc first t.Comma = do
  _ ← take_place
  xs ← more t.CloseParen expr (first ∷ [])
  _ ← expect t.CloseParen
  pure (e.Tuple loc xs)
parenthesis_by expr loc first _ = do
  _ ← expect t.CloseParen
  pure first

unfoldable pub parenthesis : Parser Expr → Parser Expr
parenthesis expr = do
  loc ← take_place
  first ← expr
  kind ← peek
  parenthesis_by expr loc first kind

abbrev pub atom_by : Inner → Loc → Terminal → Parser Expr
atom_by inner loc t.Name = do x ← take_name; pure (e.Name x)
atom_by inner loc t.Number = do n ← take_value; pure (e.Int n loc)
atom_by inner loc t.True = do _ ← take_place; pure (e.Truth true loc)
atom_by inner loc t.False = do _ ← take_place; pure (e.Truth false loc)
atom_by inner loc t.OpenParen = deeper inner parenthesis
atom_by inner loc _ = refuse

unfoldable pub atom : Inner → Parser Expr
atom inner = do
  loc ← here
  kind ← peek
  atom_by inner loc kind

-- An operand and its trailers. `front` is for the parentheses that the operand may begin with, `inner` for the
-- trailers' brackets.
unfoldable pub primary : Inner → Inner → Parser Expr
primary front inner = do
  first ← atom front
  more ← trailers inner
  pure (trailed first more)

abbrev pub power_by : Expr → Terminal → Parser Expr
power_by base t.Power = do
  loc ← take_place
  exponent ← number
  pure (e.Power base loc exponent)
power_by base _ = pure base

unfoldable pub power : Inner → Inner → Parser Expr
power front inner = do
  base ← primary front inner
  kind ← peek
  power_by base kind

-- a sign before an operand, where the row may have one more
abbrev pub signed : Option (Parser Expr) → Parser Expr → Option ℕ → Parser Expr
signed again operand (Some byte) = deeper again (λ unary. do
  loc ← take_place
  x ← unary
  pure (e.Prefix byte loc x))
signed again operand None = operand

-- behind a row that has opened its last level no parenthesis may open
unfoldable pub unary : Inner → ℕ → Parser Expr
unary inner zero = do kind ← peek; signed None (power None inner) (sign kind)
unary inner (suc row) = do kind ← peek; signed (Some (unary inner row)) (power inner inner) (sign kind)

-- ---- operators; `whole` is the number of levels that may open in a row of its own, which a later operand begins

abbrev pub links_by : (List (BinOp × Loc × Expr) → Parser (List (BinOp × Loc × Expr))) → Parser Expr
    → List (BinOp × Loc × Expr) → Option BinOp → Parser (List (BinOp × Loc × Expr))
links_by again operand found (Some op) = do
  loc ← take_place
  x ← operand
  again (found ++ (op, loc, x) ∷ [])
links_by again operand found None = pure found

unfoldable pub links_n : ℕ → Parser Expr → ℕ → List (BinOp × Loc × Expr) → Parser (List (BinOp × Loc × Expr))
links_n level operand zero found = pure found
links_n level operand (suc n) found = do
  kind ← peek
  links_by (links_n level operand n) operand found (operator_at level kind)

unfoldable pub links : ℕ → Parser Expr → Parser (List (BinOp × Loc × Expr))
links level operand = λ ts. links_n level operand (length ts) [] ts

-- operands joined by the operators of a level and below
unfoldable pub chain : Inner → ℕ → ℕ → ℕ → Parser Expr
chain inner whole zero row = unary inner row
chain inner whole (suc level) row = do
  first ← chain inner whole level row
  more ← links (suc level) (chain inner whole level whole)
  pure (chained first more)

abbrev pub compared_by : Parser Expr → Expr → Loc → Option BinOp → Parser Expr
compared_by operand first loc (Some op) = do
  _ ← take_place
  second ← operand
  pure (e.Chain first ((op, loc, second) ∷ []))
compared_by operand first loc None = pure first

-- one comparison at most
unfoldable pub compared : Inner → ℕ → ℕ → Parser Expr
compared inner whole row = do
  first ← chain inner whole levels_of_operators row
  loc ← here
  kind ← peek
  compared_by (chain inner whole levels_of_operators whole) first loc (comparison kind)

abbrev pub inverted_by : Option (Parser Expr) → Parser Expr → Terminal → Parser Expr
inverted_by again operand t.Not = deeper again (λ inverted. do
  loc ← take_place
  x ← inverted
  pure (e.Not loc x))
inverted_by again operand _ = operand

unfoldable pub inverted : Inner → ℕ → ℕ → Parser Expr
inverted inner whole zero = do kind ← peek; inverted_by None (compared inner whole zero) kind
inverted inner whole (suc row) = do
  kind ← peek
  inverted_by (Some (inverted inner whole row)) (compared inner whole (suc row)) kind

abbrev pub joined_by : (List (Loc × Expr) → Parser (List (Loc × Expr))) → Parser Expr → List (Loc × Expr)
    → Parser (List (Loc × Expr))
joined_by again operand found = do
  loc ← take_place
  x ← operand
  again (found ++ (loc, x) ∷ [])

unfoldable pub joins_n : Terminal → Parser Expr → ℕ → List (Loc × Expr) → Parser (List (Loc × Expr))
joins_n word operand zero found = pure found
joins_n word operand (suc n) found = do
  kind ← peek
  if same kind word then joined_by (joins_n word operand n) operand found else pure found

unfoldable pub joins : Terminal → Parser Expr → Parser (List (Loc × Expr))
joins word operand = λ ts. joins_n word operand (length ts) [] ts

unfoldable pub conjunction : Inner → ℕ → Parser Expr
conjunction inner whole = do
  first ← inverted inner whole whole
  more ← joins t.And (inverted inner whole whole)
  pure (joined true first more)

unfoldable pub disjunction : Inner → ℕ → Parser Expr
disjunction inner whole = do
  first ← conjunction inner whole
  more ← joins t.Or (conjunction inner whole)
  pure (joined false first more)

-- an expression in which so many levels may still open
unfoldable pub expr : ℕ → Parser Expr
expr zero = disjunction None zero
expr (suc depth) = disjunction (Some (expr depth)) (suc depth)

-- what stands one level further in
abbrev pub inside : ℕ → Inner
inside zero = None
inside (suc depth) = Some (expr depth)

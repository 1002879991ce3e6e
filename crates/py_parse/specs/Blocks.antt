-- Statements and modules, read by descent, one definition for each of the crate's own functions. The clauses of `parse`
-- cite the grammar and the stack.
use Rattle.std.specs.Prelude.{ℕ, zero, suc, ◌-◌, List, [], ◌∷◌, ◌++◌, length, Option, Some, None, Ok}
use Rattle.krn_base.specs.declared.place.Loc.{Loc}
use Rattle.krn_base.specs.declared.operation.BinOp.{BinOp}
use Rattle.py_parse.specs.declared.terminal.Terminal.{Terminal}
use Rattle.py_parse.specs.declared.terminal.Terminal.TheVariants as t
use Rattle.py_parse.specs.declared.tree.Name.{Name}
use Rattle.py_parse.specs.declared.tree.Import.{Import}
use Rattle.py_parse.specs.declared.tree.Function.{Function}
use Rattle.py_parse.specs.declared.tree.Expr.{Expr}
use Rattle.py_parse.specs.declared.tree.Expr.TheVariants as e
use Rattle.py_parse.specs.declared.tree.Stmt.{Stmt}
use Rattle.py_parse.specs.declared.tree.Stmt.TheVariants as s
use Rattle.py_parse.specs.Trees.{augmented, trailed}
use Rattle.py_parse.specs.Parser.{Parser, ◌>>=◌, and_then, pure, refuse, peek, here, take_place, take_name, expect}
use Rattle.py_parse.specs.Parser.{name, deeper, more, until}
use Rattle.py_parse.specs.Descent.{expr, inside, trailers}

-- ---- lines

-- what may follow the target: `=` or an augmented assignment, and its value
abbrev pub augmented_by : Parser Expr → Expr → Loc → Option BinOp → Parser Stmt
augmented_by value target loc (Some op) = do
  _ ← take_place
  x ← value
  pure (s.Augment target op loc x)
augmented_by value target loc None = pure (s.Alone target)

abbrev pub stored_by : Parser Expr → Expr → Loc → Terminal → Parser Stmt
stored_by value target loc t.Assign = do
  _ ← take_place
  x ← value
  pure (s.Assign target loc x)
stored_by value target loc k = augmented_by value target loc (augmented k)

-- an expression that begins with a name and may end in a subscript or a call: alone, or the target of an assignment
unfoldable pub stored : ℕ → Parser Stmt
stored depth = do
  first ← take_name
  more ← trailers (inside depth)
  loc ← here
  kind ← peek
  stored_by (expr depth) (trailed (e.Name first) more) loc kind

unfoldable pub returned : ℕ → Parser Stmt
returned depth = do
  loc ← take_place
  xs ← more t.Newline (expr depth) []
  pure (s.Return loc xs)

abbrev pub simple_by : ℕ → Terminal → Parser Stmt
simple_by depth t.Text = do _ ← take_place; pure s.Doc
simple_by depth t.Pass = do _ ← take_place; pure s.Pass
simple_by depth t.Return = returned depth
simple_by depth t.Name = stored depth
simple_by depth _ = refuse

unfoldable pub simple : ℕ → Parser Stmt
simple depth = do
  kind ← peek
  simple_by depth kind

unfoldable pub line : ℕ → Parser Stmt
line depth = do
  x ← simple depth
  _ ← expect t.Newline
  pure x

-- ---- blocks; `stmt` and the parser of what stands one level further in are parameters, since blocks and statements
-- hold each other

-- the statements of an indented block, of which there is one at least
unfoldable pub statements : Parser Stmt → Parser (List Stmt)
statements stmt = do
  _ ← expect t.Indent
  first ← stmt
  xs ← until t.Dedent stmt (first ∷ [])
  _ ← expect t.Dedent
  pure xs

abbrev pub one : Stmt → List Stmt
one x = x ∷ []

-- behind a colon: a line, or an indented block one level further in
abbrev pub block_by : ℕ → Option (Parser Stmt) → Terminal → Parser (List Stmt)
block_by depth inner t.Newline = do
  _ ← take_place
  deeper inner statements
block_by depth inner _ = do
  x ← line depth
  pure (one x)

unfoldable pub block_with : ℕ → Option (Parser Stmt) → Parser (List Stmt)
block_with depth inner = do
  kind ← peek
  block_by depth inner kind

-- the arms of an `if`, and its `else`
abbrev pub Arms : Type 0
Arms = List (Loc × Expr × List Stmt)

-- the condition and the block of an arm
unfoldable pub arm : ℕ → Parser (List Stmt) → Parser (Loc × Expr × List Stmt)
arm depth block = do
  loc ← take_place
  x ← expr depth
  _ ← expect t.Colon
  body ← block
  pure (loc, x, body)

unfoldable pub otherwise : Parser (List Stmt) → Arms → Parser Stmt
otherwise block arms = do
  _ ← take_place
  _ ← expect t.Colon
  body ← block
  pure (s.If arms body)

-- what follows the block of an arm; an `elif` and all that follows it stand one level further in
abbrev pub tail_by : Option (Arms → Parser Stmt) → Parser (List Stmt) → Arms → Terminal → Parser Stmt
tail_by elif block arms t.Elif = deeper elif (λ next_arm. next_arm arms)
tail_by elif block arms t.Else = otherwise block arms
tail_by elif block arms _ = pure (s.If arms [])

unfoldable pub tail_with : Option (Arms → Parser Stmt) → Parser (List Stmt) → Arms → Parser Stmt
tail_with elif block arms = do
  kind ← peek
  tail_by elif block arms kind

unfoldable pub elif_with : ℕ → Parser (List Stmt) → (Arms → Parser Stmt) → Arms → Parser Stmt
elif_with depth block tail arms = do
  x ← arm depth block
  tail (arms ++ x ∷ [])

unfoldable pub looped : ℕ → Parser (List Stmt) → Parser Stmt
looped depth block = do
  loc ← take_place
  variable ← name
  _ ← expect t.In
  x ← expr depth
  _ ← expect t.Colon
  body ← block
  pure (s.For loc variable x body)

abbrev pub stmt_by : ℕ → Parser (List Stmt) → (Arms → Parser Stmt) → Terminal → Parser Stmt
stmt_by depth block tail t.If = do
  x ← arm depth block
  tail (x ∷ [])
stmt_by depth block tail t.For = looped depth block
stmt_by depth block tail _ = line depth

unfoldable pub stmt_with : ℕ → Parser (List Stmt) → (Arms → Parser Stmt) → Parser Stmt
stmt_with depth block tail = do
  kind ← peek
  stmt_by depth block tail kind

unfoldable mutual
  -- behind the colon, in which so many levels may still open
  pub block : ℕ → Parser (List Stmt)
  block zero = block_with zero None
  block (suc depth) = block_with (suc depth) (Some (stmt_with depth (block depth) (tail depth)))

  pub tail : ℕ → Arms → Parser Stmt
  tail zero = tail_with None (block_with zero None)
  tail (suc depth) =
      tail_with (Some (elif_with depth (block depth) (tail depth)))
      (block_with (suc depth) (Some (stmt_with depth (block depth) (tail depth))))

unfoldable pub stmt : ℕ → Parser Stmt
stmt depth = stmt_with depth (block depth) (tail depth)

-- ---- modules

abbrev pub alias_by : Name → Terminal → Parser Import
alias_by origin t.As = do
  _ ← take_place
  alias ← name
  _ ← expect t.Newline
  pure (record { «module» = origin; alias = alias })
alias_by origin _ = do
  _ ← expect t.Newline
  pure (record { «module» = origin; alias = origin })

unfoldable pub imported : Parser Import
imported = do
  _ ← take_place
  origin ← name
  kind ← peek
  alias_by origin kind

-- a function's name, parameters and block
unfoldable pub defined : ℕ → Parser (Name × List Name × List Stmt)
defined depth = do
  _ ← take_place
  called ← name
  _ ← expect t.OpenParen
  params ← more t.CloseParen name []
  _ ← expect t.CloseParen
  _ ← expect t.Colon
  body ← block depth
  pure (called, params, body)

-- its weight is the number of its lexemes
abbrev pub weighed : Name × List Name × List Stmt → ℕ → Function
weighed p weight = record { name = p.0; params = p.1; body = p.2; weight = weight }

unfoldable pub function : ℕ → Parser Function
function depth = λ ts. and_then (defined depth ts) (λ p us. Ok (weighed p (length ts - length us), us))

-- the imports and the functions of a module
abbrev pub Parts : Type 0
Parts = List Import × List Function

-- a text alone leaves nothing
abbrev pub part_by : ℕ → (Parts → Parser Parts) → Parts → Terminal → Parser Parts
part_by depth again parts t.Import = do
  x ← imported
  again (parts.0 ++ x ∷ [], parts.1)
part_by depth again parts t.Def = do
  x ← function depth
  again (parts.0, parts.1 ++ x ∷ [])
part_by depth again parts t.Text = do
  _ ← take_place
  _ ← expect t.Newline
  again parts
part_by depth again parts t.End = pure parts
part_by depth again parts _ = refuse

unfoldable pub parts_n : ℕ → ℕ → Parts → Parser Parts
parts_n depth zero parts = refuse
parts_n depth (suc n) parts = do
  kind ← peek
  part_by depth (parts_n depth n) parts kind

unfoldable pub parts : ℕ → Parser Parts
parts depth = λ ts. parts_n depth (suc (length ts)) ([], []) ts

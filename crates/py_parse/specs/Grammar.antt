-- The grammar: which lexemes a tree stands for. One line for each alternative of a rule.
--
-- A rule has the number of levels that may still open. Brackets, Indents, and `not` and signs in a row each open one;
-- so does each `elif`, up to the end of its `if`. The rules that may begin with a row have the number of levels that
-- may still open in it.
use Rattle.std.specs.Prelude.{◌≡◌, ℕ, ℤ, pos, zero, suc, ◌⊎◌, true, false, List, [], ◌∷◌, ◌++◌, length, Option, Some}
use Rattle.std.specs.Prelude.{None}
use Rattle.krn_base.specs.declared.place.Loc.{Loc}
use Rattle.krn_base.specs.declared.operation.BinOp.{BinOp}
use Rattle.py_lex.specs.Bytes.{Bytes}
use Rattle.py_parse.specs.declared.terminal.Terminal.{Terminal}
use Rattle.py_parse.specs.declared.terminal.Terminal.TheVariants as t
use Rattle.py_parse.specs.declared.tree.Name.{Name}
use Rattle.py_parse.specs.declared.tree.Import.{Import}
use Rattle.py_parse.specs.declared.tree.Function.{Function}
use Rattle.py_parse.specs.declared.tree.Expr.{Expr}
use Rattle.py_parse.specs.declared.tree.Expr.TheVariants as e
use Rattle.py_parse.specs.declared.tree.Trailer.{Trailer}
use Rattle.py_parse.specs.declared.tree.Trailer.TheVariants as trailer
use Rattle.py_parse.specs.declared.tree.Arg.{Arg, roll-Arg}
use Rattle.py_parse.specs.declared.tree.Sub.{Sub}
use Rattle.py_parse.specs.declared.tree.Sub.TheVariants as sub
use Rattle.py_parse.specs.declared.tree.Stmt.{Stmt}
use Rattle.py_parse.specs.declared.tree.Stmt.TheVariants as s
use Rattle.py_parse.specs.Lexemes.{Lexemes}
use Rattle.py_parse.specs.Trees.{value_of, operator_at, levels_of_operators, comparison, augmented, sign, chained}
use Rattle.py_parse.specs.Trees.{joined, trailed}

abbrev pub Grammar : Type 0 → Type 1
Grammar A = A → Lexemes → Type 0

infixl 10 ◌>>=◌
abbrev pub ◌>>=◌ : {A B : Type 0} → Grammar A → (A → Grammar B) → Grammar B
g >>= f = λ y ts. (x : _) × (a : Lexemes) × (b : Lexemes) × (ts ≡ a ++ b) × g x a × f x y b

infixr 5 ◌∣◌
abbrev pub ◌∣◌ : {A : Type 0} → Grammar A → Grammar A → Grammar A
g ∣ h = λ y ts. g y ts ⊎ h y ts

-- no lexemes
abbrev pub gives : {A : Type 0} → A → Grammar A
gives x = λ y ts. (y ≡ x) × (ts ≡ [])

abbrev pub never : {A : Type 0} → Grammar A
never = λ x ts. ⊥

-- only where a level may open
abbrev pub opened : {A : Type 0} → ℕ → Grammar A → Grammar A
opened zero g = never
opened (suc n) g = g

-- one lexeme: its place, its name, its value
abbrev pub token : Terminal → Grammar Loc
token k = λ at ts. (text : Bytes) × (ts ≡ record { kind = k; loc = at; text = text } ∷ [])

abbrev pub name : Grammar Name
name = λ x ts. ts ≡ record { kind = t.Name; loc = x.loc; text = x.text } ∷ []

abbrev pub number : Grammar (ℤ × Loc)
number = λ x ts. (text : Bytes) × (x.0 ≡ pos (value_of text))
    × (ts ≡ record { kind = t.Number; loc = x.1; text = text } ∷ [])

-- an operator of a table, and its place
abbrev pub operator : {A : Type 0} → (Terminal → Option A) → Grammar (A × Loc)
operator table = λ x ts. (k : Terminal) × (table k ≡ Some x.0) × token k x.1 ts

-- { item }
abbrev pub many : {A : Type 0} → Grammar A → Grammar (List A)
many item [] ts = ts ≡ []
many item (x ∷ xs) ts = (a : Lexemes) × (b : Lexemes) × (ts ≡ a ++ b) × item x a × many item xs b

-- [ item ]
abbrev pub maybe : {A : Type 0} → Grammar A → Grammar (Option A)
maybe item None ts = ts ≡ []
maybe item (Some x) ts = item x ts

-- { "," item } [ "," ]
abbrev pub rest : {A : Type 0} → Grammar A → Grammar (List A)
rest item [] ts = (ts ≡ []) ⊎ ((at : Loc) × token t.Comma at ts)
rest item (x ∷ xs) ts =
    (at : Loc) × (a : Lexemes) × (b : Lexemes) × (c : Lexemes) × (ts ≡ a ++ (b ++ c)) × token t.Comma at a × item x b
    × rest item xs c

-- item { "," item } [ "," ]
abbrev pub some : {A : Type 0} → Grammar A → Grammar (List A)
some item [] ts = ⊥
some item (x ∷ xs) ts = (a : Lexemes) × (b : Lexemes) × (ts ≡ a ++ b) × item x a × rest item xs b

-- [ item { "," item } [ "," ] ]
abbrev pub listed : {A : Type 0} → Grammar A → Grammar (List A)
listed item = gives [] ∣ some item

-- ---- expressions; `expr` below is the grammar of what stands inside brackets, one level further in

-- expr [ "=" expr ]
abbrev pub arg : Grammar Expr → Grammar Arg
arg expr =
    (do x ← expr; gives (roll-Arg (record { key = None; value = x })))
    ∣ (do key ← expr; _ ← token t.Assign; x ← expr; gives (roll-Arg (record { key = Some key; value = x })))

-- [ ":" [ expr ] ]
abbrev pub step : Grammar Expr → Grammar (Option Expr)
step expr = gives None ∣ (do _ ← token t.Colon; maybe expr)

-- expr | [ expr ] ":" [ expr ] [ ":" [ expr ] ]
abbrev pub subscript : Grammar Expr → Grammar Sub
subscript expr =
    (do x ← expr; gives (sub.At x))
    ∣ (do start ← maybe expr; _ ← token t.Colon; stop ← maybe expr; by ← step expr; gives (sub.Cut start stop by))

-- "(" [ arg { "," arg } [ "," ] ] ")" | "[" subscript { "," subscript } [ "," ] "]" | "." NAME
abbrev pub trailer_at : ℕ → Grammar Expr → Grammar Trailer
trailer_at depth expr =
    opened depth (do
      at ← token t.OpenParen
      args ← listed (arg expr)
      _ ← token t.CloseParen
      gives (trailer.Call at args))
    ∣ opened depth (do
      at ← token t.OpenBracket
      subs ← some (subscript expr)
      _ ← token t.CloseBracket
      gives (trailer.Pick at subs))
    ∣ (do _ ← token t.Dot; x ← name; gives (trailer.Attr x))

-- NAME | NUMBER | "True" | "False" | "(" expr ")" | "(" expr "," [ expr { "," expr } [ "," ] ] ")"
abbrev pub atom : ℕ → Grammar Expr → Grammar Expr
atom row expr =
    (do x ← name; gives (e.Name x))
    ∣ (do x ← number; gives (e.Int x.0 x.1))
    ∣ (do at ← token t.True; gives (e.Truth true at))
    ∣ (do at ← token t.False; gives (e.Truth false at))
    ∣ opened row (do _ ← token t.OpenParen; x ← expr; _ ← token t.CloseParen; gives x)
    ∣ opened row (do
      at ← token t.OpenParen
      x ← expr
      _ ← token t.Comma
      xs ← listed expr
      _ ← token t.CloseParen
      gives (e.Tuple at (x ∷ xs)))

-- atom { trailer }
abbrev pub primary : ℕ → ℕ → Grammar Expr → Grammar Expr
primary depth row expr = do
  first ← atom row expr
  more ← many (trailer_at depth expr)
  gives (trailed first more)

-- primary [ "**" NUMBER ]
abbrev pub power : ℕ → ℕ → Grammar Expr → Grammar Expr
power depth row expr =
    primary depth row expr
    ∣ (do base ← primary depth row expr; at ← token t.Power; n ← number; gives (e.Power base at n.0))

-- ( "-" | "+" | "~" ) unary | power
abbrev pub unary : ℕ → ℕ → Grammar Expr → Grammar Expr
unary depth zero expr = power depth zero expr
unary depth (suc row) expr =
    (do s ← operator sign; x ← unary depth row expr; gives (e.Prefix s.0 s.1 x))
    ∣ power depth (suc row) expr

-- an operator and the operand behind it
abbrev pub link : (Terminal → Option BinOp) → Grammar Expr → Grammar (BinOp × Loc × Expr)
link table operand = do
  op ← operator table
  x ← operand
  gives (op.0, op.1, x)

-- Operands joined by operators of a level, each made of the level below; at the bottom, an operand. The operands behind
-- an operator begin a row of their own.
abbrev pub chain : ℕ → ℕ → ℕ → Grammar Expr → Grammar Expr
chain depth zero row expr = unary depth row expr
chain depth (suc level) row expr = do
  first ← chain depth level row expr
  links ← many (link (operator_at (suc level)) (chain depth level depth expr))
  gives (chained first links)

-- bor [ compare bor ]
abbrev pub compared : ℕ → ℕ → Grammar Expr → Grammar Expr
compared depth row expr =
    chain depth levels_of_operators row expr
    ∣ (do
      first ← chain depth levels_of_operators row expr
      second ← link comparison (chain depth levels_of_operators depth expr)
      gives (e.Chain first (second ∷ [])))

-- "not" inverted | compared
abbrev pub inverted : ℕ → ℕ → Grammar Expr → Grammar Expr
inverted depth zero expr = compared depth zero expr
inverted depth (suc row) expr =
    (do at ← token t.Not; x ← inverted depth row expr; gives (e.Not at x))
    ∣ compared depth (suc row) expr

-- a word and the operand behind it
abbrev pub join : Terminal → Grammar Expr → Grammar (Loc × Expr)
join word operand = do
  at ← token word
  x ← operand
  gives (at, x)

-- inverted { "and" inverted }
abbrev pub conjunction : ℕ → Grammar Expr → Grammar Expr
conjunction depth expr = do
  first ← inverted depth depth expr
  more ← many (join t.And (inverted depth depth expr))
  gives (joined true first more)

-- conjunction { "or" conjunction }
abbrev pub disjunction : ℕ → Grammar Expr → Grammar Expr
disjunction depth expr = do
  first ← conjunction depth expr
  more ← many (join t.Or (conjunction depth expr))
  gives (joined false first more)

-- an expression in which so many levels may still open
abbrev pub expr : ℕ → Grammar Expr
expr zero = disjunction zero never
expr (suc depth) = disjunction (suc depth) (expr depth)

abbrev pub inside : ℕ → Grammar Expr
inside zero = never
inside (suc depth) = expr depth

-- ---- lines

-- TEXT | "pass" | "return" [ expr { "," expr } [ "," ] ] | target [ ( "=" | augmented ) expr ]
abbrev pub target : ℕ → Grammar Expr
target depth = do
  first ← name
  more ← many (trailer_at depth (inside depth))
  gives (trailed (e.Name first) more)

abbrev pub simple : ℕ → Grammar Stmt
simple depth =
    (do _ ← token t.Text; gives s.Doc)
    ∣ (do _ ← token t.Pass; gives s.Pass)
    ∣ (do at ← token t.Return; xs ← listed (expr depth); gives (s.Return at xs))
    ∣ (do x ← target depth; gives (s.Alone x))
    ∣ (do x ← target depth; at ← token t.Assign; value ← expr depth; gives (s.Assign x at value))
    ∣ (do x ← target depth; op ← operator augmented; value ← expr depth; gives (s.Augment x op.0 op.1 value))

-- simple NEWLINE
abbrev pub line : ℕ → Grammar Stmt
line depth = do
  x ← simple depth
  _ ← token t.Newline
  gives x

-- ---- blocks

-- line | NEWLINE INDENT stmt { stmt } DEDENT
abbrev pub block_with : ℕ → Grammar Stmt → Grammar (List Stmt)
block_with depth inner =
    (do x ← line depth; gives (x ∷ []))
    ∣ opened depth (do
      _ ← token t.Newline
      _ ← token t.Indent
      first ← inner
      more ← many inner
      _ ← token t.Dedent
      gives (first ∷ more))

abbrev pub Arms : Type 0
Arms = List (Loc × Expr × List Stmt)

-- the condition of an arm, which begins with this word, and its block
abbrev pub arm : Terminal → ℕ → Grammar (List Stmt) → Grammar (Loc × Expr × List Stmt)
arm word depth block = do
  at ← token word
  x ← expr depth
  _ ← token t.Colon
  body ← block
  gives (at, x, body)

-- what follows an arm: `elif` with its arm and what follows that, `else` with its block, or nothing
abbrev pub tail_with : Grammar (Arms × List Stmt) → Grammar (List Stmt) → Grammar (Arms × List Stmt)
tail_with elif block =
    gives ([], [])
    ∣ (do _ ← token t.Else; _ ← token t.Colon; body ← block; gives ([], body))
    ∣ elif

abbrev pub elif_with : ℕ → Grammar (List Stmt) → Grammar (Arms × List Stmt) → Grammar (Arms × List Stmt)
elif_with depth block tail = do
  x ← arm t.Elif depth block
  more ← tail
  gives (x ∷ more.0, more.1)

-- line | "if" expr ":" block tail | "for" NAME "in" expr ":" block
abbrev pub stmt_with : ℕ → Grammar (List Stmt) → Grammar (Arms × List Stmt) → Grammar Stmt
stmt_with depth block tail =
    line depth
    ∣ (do x ← arm t.If depth block; more ← tail; gives (s.If (x ∷ more.0) more.1))
    ∣ (do
      at ← token t.For
      variable ← name
      _ ← token t.In
      x ← expr depth
      _ ← token t.Colon
      body ← block
      gives (s.For at variable x body))

unfoldable mutual
  pub block : ℕ → Grammar (List Stmt)
  block zero = block_with zero never
  block (suc depth) = block_with (suc depth) (stmt_with depth (block depth) (tail depth))

  pub tail : ℕ → Grammar (Arms × List Stmt)
  tail zero = tail_with never (block_with zero never)
  tail (suc depth) =
      tail_with (elif_with depth (block depth) (tail depth))
      (block_with (suc depth) (stmt_with depth (block depth) (tail depth)))

abbrev pub stmt : ℕ → Grammar Stmt
stmt depth = stmt_with depth (block depth) (tail depth)

-- ---- modules

-- "import" NAME [ "as" NAME ] NEWLINE
abbrev pub imported : Grammar Import
imported =
    (do _ ← token t.Import; x ← name; _ ← token t.Newline; gives (record { «module» = x; alias = x }))
    ∣ (do
      _ ← token t.Import
      x ← name
      _ ← token t.As
      y ← name
      _ ← token t.Newline
      gives (record { «module» = x; alias = y }))

-- "def" NAME "(" [ NAME { "," NAME } [ "," ] ] ")" ":" block
abbrev pub defined : ℕ → Grammar (Name × List Name × List Stmt)
defined depth = do
  _ ← token t.Def
  called ← name
  _ ← token t.OpenParen
  params ← listed name
  _ ← token t.CloseParen
  _ ← token t.Colon
  body ← block depth
  gives (called, params, body)

-- its weight is the number of its lexemes
abbrev pub function : ℕ → Grammar Function
function depth x ts = defined depth (x.name, x.params, x.body) ts × (x.weight ≡ length ts)

-- what a module is made of
pub data Part : Type 0 where
  Imported : Import → Part
  Defined : Function → Part
  Said : Part

abbrev pub part : ℕ → Grammar Part
part depth =
    (do x ← imported; gives (Imported x))
    ∣ (do x ← function depth; gives (Defined x))
    ∣ (do _ ← token t.Text; _ ← token t.Newline; gives Said)

abbrev pub imports_of : List Part → List Import
imports_of [] = []
imports_of (Imported x ∷ xs) = x ∷ imports_of xs
imports_of (Defined x ∷ xs) = imports_of xs
imports_of (Said ∷ xs) = imports_of xs

abbrev pub functions_of : List Part → List Function
functions_of [] = []
functions_of (Imported x ∷ xs) = functions_of xs
functions_of (Defined x ∷ xs) = x ∷ functions_of xs
functions_of (Said ∷ xs) = functions_of xs

-- the imports and the functions of a module, up to its end
abbrev pub parts : ℕ → Grammar (List Import × List Function)
parts depth = do
  xs ← many (part depth)
  gives (imports_of xs, functions_of xs)

-- Where reading stops: a stack of symbols, which one lexeme of look-ahead expands row by row. The first lexeme for
-- which the top symbol has no row, or which is not the terminal on top, is refused.
--
-- A symbol of a rule has the number of levels that may still open; at 0 a lexeme that opens one has no row.
use Rattle.std.specs.Prelude.{◌≡◌, ℕ, zero, suc, if◌then◌else◌, List, [], ◌∷◌, ◌++◌, Option, Some, None}
use Rattle.py_parse.specs.declared.terminal.Terminal.{Terminal}
use Rattle.py_parse.specs.declared.terminal.Terminal.TheVariants as t
use Rattle.py_parse.specs.Lexemes.{Lexemes, same}
use Rattle.py_parse.specs.Parser.{kind, next}
use Rattle.py_parse.specs.Trees.{operator_at, levels_of_operators, comparison, augmented, sign}

-- what a list with commas holds
pub data Item : Type 0 where
  Param : Item
  Value : Item
  Element : Item
  Argument : Item
  Subscript : Item

-- Rules and rests of rules. Those that may begin with a row of `not` and signs have the number of levels that may open
-- in it.
pub data Rule : Type 0 where
  Expr : Rule
  Ors : Rule
  Conjunction : Rule
  Ands : Rule
  Inverted : ℕ → Rule
  Compared : ℕ → Rule
  Comparison : Rule
  Chain : ℕ → ℕ → Rule
  -- the operators of the level above, with their operands
  Links : ℕ → Rule
  Unary : ℕ → Rule
  Power : ℕ → Rule
  Exponent : Rule
  Primary : ℕ → Rule
  Atom : ℕ → Rule
  -- behind the first expression of a parenthesis
  Parenthesis : Rule
  Trailers : Rule
  Arg : Rule
  Keyed : Rule
  Subscripted : Rule
  Sliced : Rule
  Cut : Rule
  Bound : Rule
  Step : Rule
  -- a list from its first item; behind a comma, or where it may be empty; behind an item
  Items : Item → Rule
  More : Item → Rule
  Comma : Item → Rule
  Simple : Rule
  Stored : Rule
  Line : Rule
  Block : Rule
  Indented : Rule
  Stmts : Rule
  Stmt : Rule
  Tail : Rule
  Alias : Rule
  Parts : Rule

pub data Symbol : Type 0 where
  T : Terminal → Symbol
  N : Rule → ℕ → Symbol

abbrev pub Stack : Type 0
Stack = List Symbol

-- where a level may open
abbrev pub deeper : ℕ → (ℕ → Option Stack) → Option Stack
deeper zero symbols = None
deeper (suc d) symbols = symbols d

-- what ends a list
abbrev pub close_of : Item → Terminal
close_of Param = t.CloseParen
close_of Value = t.Newline
close_of Element = t.CloseParen
close_of Argument = t.CloseParen
close_of Subscript = t.CloseBracket

abbrev pub item_symbol : Item → ℕ → Symbol
item_symbol Param d = T t.Name
item_symbol Value d = N Expr d
item_symbol Element d = N Expr d
item_symbol Argument d = N Arg d
item_symbol Subscript d = N Subscripted d

-- an operator with what follows it, where the lexeme is one
abbrev pub with_operator : {A : Type 0} → Option A → Stack → Option Stack
with_operator (Some op) symbols = Some symbols
with_operator None symbols = Some []

abbrev pub signed_row : Option ℕ → Terminal → ℕ → ℕ → Option Stack
signed_row (Some byte) k row d = deeper row (λ e. Some (T k ∷ N (Unary e) d ∷ []))
signed_row None k row d = Some (N (Power row) d ∷ [])

abbrev pub row : Rule → ℕ → Terminal → Option Stack
row Expr d k = Some (N Conjunction d ∷ N Ors d ∷ [])
row Ors d t.Or = Some (T t.Or ∷ N Conjunction d ∷ N Ors d ∷ [])
row Ors d _ = Some []
row Conjunction d k = Some (N (Inverted d) d ∷ N Ands d ∷ [])
row Ands d t.And = Some (T t.And ∷ N (Inverted d) d ∷ N Ands d ∷ [])
row Ands d _ = Some []
row (Inverted e) d t.Not = deeper e (λ f. Some (T t.Not ∷ N (Inverted f) d ∷ []))
row (Inverted e) d _ = Some (N (Compared e) d ∷ [])
row (Compared e) d k = Some (N (Chain levels_of_operators e) d ∷ N Comparison d ∷ [])
row Comparison d k = with_operator (comparison k) (T k ∷ N (Chain levels_of_operators d) d ∷ [])
row (Chain zero e) d k = Some (N (Unary e) d ∷ [])
row (Chain (suc n) e) d k = Some (N (Chain n e) d ∷ N (Links n) d ∷ [])
row (Links n) d k = with_operator (operator_at (suc n) k) (T k ∷ N (Chain n d) d ∷ N (Links n) d ∷ [])
row (Unary e) d k = signed_row (sign k) k e d
row (Power e) d k = Some (N (Primary e) d ∷ N Exponent d ∷ [])
row Exponent d t.Power = Some (T t.Power ∷ T t.Number ∷ [])
row Exponent d _ = Some []
row (Primary e) d k = Some (N (Atom e) d ∷ N Trailers d ∷ [])
row (Atom e) d t.Name = Some (T t.Name ∷ [])
row (Atom e) d t.Number = Some (T t.Number ∷ [])
row (Atom e) d t.True = Some (T t.True ∷ [])
row (Atom e) d t.False = Some (T t.False ∷ [])
row (Atom e) d t.OpenParen = deeper e (λ _. deeper d (λ c. Some (T t.OpenParen ∷ N Expr c ∷ N Parenthesis c ∷ [])))
row (Atom e) d _ = None
row Parenthesis d t.Comma = Some (T t.Comma ∷ N (More Element) d ∷ T t.CloseParen ∷ [])
row Parenthesis d _ = Some (T t.CloseParen ∷ [])
row Trailers d t.OpenParen =
    deeper d (λ c. Some (T t.OpenParen ∷ N (More Argument) c ∷ T t.CloseParen ∷ N Trailers d ∷ []))
row Trailers d t.OpenBracket =
    deeper d (λ c. Some (T t.OpenBracket ∷ N (Items Subscript) c ∷ T t.CloseBracket ∷ N Trailers d ∷ []))
row Trailers d t.Dot = Some (T t.Dot ∷ T t.Name ∷ N Trailers d ∷ [])
row Trailers d _ = Some []
row Arg d k = Some (N Expr d ∷ N Keyed d ∷ [])
row Keyed d t.Assign = Some (T t.Assign ∷ N Expr d ∷ [])
row Keyed d _ = Some []
row Subscripted d t.Colon = Some (N Cut d ∷ [])
row Subscripted d _ = Some (N Expr d ∷ N Sliced d ∷ [])
row Sliced d t.Colon = Some (N Cut d ∷ [])
row Sliced d _ = Some []
row Cut d k = Some (T t.Colon ∷ N Bound d ∷ N Step d ∷ [])
row Bound d t.Colon = Some []
row Bound d t.Comma = Some []
row Bound d t.CloseBracket = Some []
row Bound d _ = Some (N Expr d ∷ [])
row Step d t.Colon = Some (T t.Colon ∷ N Bound d ∷ [])
row Step d _ = Some []
row (Items item) d k = Some (item_symbol item d ∷ N (Comma item) d ∷ [])
row (More item) d k = if same k (close_of item) then Some [] else Some (N (Items item) d ∷ [])
row (Comma item) d t.Comma = Some (T t.Comma ∷ N (More item) d ∷ [])
row (Comma item) d _ = Some []
row Simple d t.Text = Some (T t.Text ∷ [])
row Simple d t.Pass = Some (T t.Pass ∷ [])
row Simple d t.Return = Some (T t.Return ∷ N (More Value) d ∷ [])
row Simple d t.Name = Some (T t.Name ∷ N Trailers d ∷ N Stored d ∷ [])
row Simple d _ = None
row Stored d t.Assign = Some (T t.Assign ∷ N Expr d ∷ [])
row Stored d k = with_operator (augmented k) (T k ∷ N Expr d ∷ [])
row Line d k = Some (N Simple d ∷ T t.Newline ∷ [])
row Block d t.Newline = Some (T t.Newline ∷ N Indented d ∷ [])
row Block d _ = Some (N Line d ∷ [])
row Indented d k = deeper d (λ c. Some (T t.Indent ∷ N Stmt c ∷ N Stmts c ∷ T t.Dedent ∷ []))
row Stmts d t.Dedent = Some []
row Stmts d _ = Some (N Stmt d ∷ N Stmts d ∷ [])
row Stmt d t.If = Some (T t.If ∷ N Expr d ∷ T t.Colon ∷ N Block d ∷ N Tail d ∷ [])
row Stmt d t.For = Some (T t.For ∷ T t.Name ∷ T t.In ∷ N Expr d ∷ T t.Colon ∷ N Block d ∷ [])
row Stmt d _ = Some (N Line d ∷ [])
row Tail d t.Elif = deeper d (λ c. Some (T t.Elif ∷ N Expr c ∷ T t.Colon ∷ N Block c ∷ N Tail c ∷ []))
row Tail d t.Else = Some (T t.Else ∷ T t.Colon ∷ N Block d ∷ [])
row Tail d _ = Some []
row Alias d t.As = Some (T t.As ∷ T t.Name ∷ T t.Newline ∷ [])
row Alias d _ = Some (T t.Newline ∷ [])
row Parts d t.Import = Some (T t.Import ∷ T t.Name ∷ N Alias d ∷ N Parts d ∷ [])
row Parts d t.Def =
    Some (T t.Def ∷ T t.Name ∷ T t.OpenParen ∷ N
    (More Param) d ∷ T t.CloseParen ∷ T t.Colon ∷ N Block d ∷ N Parts d ∷ [])
row Parts d t.Text = Some (T t.Text ∷ T t.Newline ∷ N Parts d ∷ [])
row Parts d t.End = Some []
row Parts d _ = None

-- what the stack does with lexemes in some number of steps
pub data Verdict : Type 0 where
  Accepted : Verdict
  -- the lexemes from the one that is refused
  Refused : Lexemes → Verdict
  Unfinished : Verdict

abbrev pub by_row : Option Stack → (Stack → Verdict) → Lexemes → Verdict
by_row (Some symbols) go ts = go symbols
by_row None go ts = Refused ts

abbrev pub run : ℕ → Stack → Lexemes → Verdict
run zero stack ts = Unfinished
run (suc n) [] ts = if same (kind ts) t.End then Accepted else Refused ts
run (suc n) (T k ∷ stack) ts = if same (kind ts) k then run n stack (next ts) else Refused ts
run (suc n) (N rule d ∷ stack) ts = by_row (row rule d (kind ts)) (λ symbols. run n (symbols ++ stack) ts) ts

-- after some number of steps the stack refuses the first of these last lexemes
abbrev pub RefusedAt : Stack → Lexemes → Lexemes → Type 0
RefusedAt stack ts rest = (n : ℕ) × (run n stack ts ≡ Refused rest)

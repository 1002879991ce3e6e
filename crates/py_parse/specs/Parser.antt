-- Parsers of lists of lexemes, and the steps that every rule is made of. Most of this mirrors the crate's own
-- functions; the clauses of `parse` cite the grammar and the stack.
use Rattle.std.specs.Prelude.{◌≡◌, ℕ, ℤ, pos, zero, suc, Bool, true, false, if◌then◌else◌, List, [], ◌∷◌, ◌++◌, length}
use Rattle.std.specs.Prelude.{Option, Some, None, Result, Ok, Err}
use Rattle.krn_base.specs.declared.place.Loc.{Loc}
use Rattle.py_lex.specs.Bytes.{Bytes}
use Rattle.py_parse.specs.declared.failure.Failure.{Failure}
use Rattle.py_parse.specs.declared.failure.Failure.TheVariants as failure
use Rattle.py_parse.specs.declared.terminal.Terminal.{Terminal}
use Rattle.py_parse.specs.declared.terminal.Terminal.TheVariants as t
use Rattle.py_parse.specs.declared.tree.Name.{Name}
use Rattle.py_parse.specs.Lexemes.{Lexemes, same}
use Rattle.py_parse.specs.Trees.{value_of}

-- the next lexeme's terminal, place and bytes, and what stands behind it; past the last one stands the end
abbrev pub kind : Lexemes → Terminal
kind [] = t.End
kind (x ∷ xs) = x.kind

abbrev pub place : Lexemes → Loc
place [] = record { line = 0; col = 0 }
place (x ∷ xs) = x.loc

abbrev pub spelling : Lexemes → Bytes
spelling [] = []
spelling (x ∷ xs) = x.text

abbrev pub next : Lexemes → Lexemes
next [] = []
next (x ∷ xs) = xs

abbrev pub name_at : Lexemes → Name
name_at ts = record { text = spelling ts; loc = place ts }

-- a value and the lexemes behind it, or the lexemes from the one that is refused
abbrev pub Outcome : Type 0 → Type 0
Outcome A = Result (A × Lexemes) Lexemes

abbrev pub Parser : Type 0 → Type 0
Parser A = Lexemes → Outcome A

abbrev pub and_then : {A B : Type 0} → Outcome A → (A → Parser B) → Outcome B
and_then (Ok p) f = f p.0 p.1
and_then (Err rest) f = Err rest

infixl 10 ◌>>=◌
abbrev pub ◌>>=◌ : {A B : Type 0} → Parser A → (A → Parser B) → Parser B
p >>= f = λ ts. and_then (p ts) f

abbrev pub pure : {A : Type 0} → A → Parser A
pure x = λ ts. Ok (x, ts)

abbrev pub refuse : {A : Type 0} → Parser A
refuse = λ ts. Err ts

abbrev pub peek : Parser Terminal
peek = λ ts. Ok (kind ts, ts)

abbrev pub here : Parser Loc
here = λ ts. Ok (place ts, ts)

-- the next lexeme's place, or its name or number with its place, whatever its terminal
abbrev pub take_place : Parser Loc
take_place = λ ts. Ok (place ts, next ts)

abbrev pub take_name : Parser Name
take_name = λ ts. Ok (name_at ts, next ts)

abbrev pub take_value : Parser ℤ
take_value = λ ts. Ok (pos (value_of (spelling ts)), next ts)

unfoldable pub expect : Terminal → Parser Loc
expect k = λ ts. if same (kind ts) k then Ok (place ts, next ts) else Err ts

unfoldable pub name : Parser Name
name = λ ts. if same (kind ts) t.Name then Ok (name_at ts, next ts) else Err ts

unfoldable pub number : Parser ℤ
number = λ ts. if same (kind ts) t.Number then Ok (pos (value_of (spelling ts)), next ts) else Err ts

-- a comma, if one comes next
unfoldable pub comma : Parser Bool
comma = λ ts. if same (kind ts) t.Comma then Ok (true, next ts) else Ok (false, ts)

-- what a bracket or a row of signs leads to, unless no more levels may open
abbrev pub deeper : {A B : Type 0} → Option A → (A → Parser B) → Parser B
deeper None f = refuse
deeper (Some inner) f = f inner

-- behind a comma: the end of the list, which `close` shows, or more of it
abbrev pub behind_comma : {A : Type 0} → Terminal → (List A → Parser (List A)) → List A → Parser (List A)
behind_comma close again found = do
  kind ← peek
  if same kind close then pure found else again found

-- One item or more, with commas between them and maybe one behind, after those that were found; `close` ends the list.
-- The number bounds the turns, each of which takes a comma.
unfoldable pub some_from : {A : Type 0} → Terminal → Parser A → ℕ → List A → Parser (List A)
some_from close item zero found = refuse
some_from close item (suc n) found = do
  x ← item
  more ← comma
  if more then behind_comma close (some_from close item n) (found ++ x ∷ []) else pure (found ++ x ∷ [])

unfoldable pub some : {A : Type 0} → Terminal → Parser A → List A → Parser (List A)
some close item found = λ ts. some_from close item (suc (length ts)) found ts

-- the same, or nothing more
unfoldable pub more : {A : Type 0} → Terminal → Parser A → List A → Parser (List A)
more close item found = behind_comma close (some close item) found

-- items up to `close`, after those that were found; each takes a lexeme at least
unfoldable pub until_n : {A : Type 0} → Terminal → Parser A → ℕ → List A → Parser (List A)
until_n close item zero found = refuse
until_n close item (suc n) found = do
  kind ← peek
  if same kind close then pure found else (do x ← item; until_n close item n (found ++ x ∷ []))

unfoldable pub until : {A : Type 0} → Terminal → Parser A → List A → Parser (List A)
until close item found = λ ts. until_n close item (suc (length ts)) found ts

-- a call reads what the parser reads; where that is refused the cursor stands at the refused lexeme
abbrev pub Reads : {A : Type 0} → Outcome A → Result A Failure → Lexemes → Type 0
Reads outcome (Ok x) new = outcome ≡ Ok (x, new)
Reads outcome (Err failure.Refused) new = outcome ≡ Err new
Reads outcome (Err failure.Memory) new = Unit {0}

-- The tokens of a source: its pieces, laid out in lines and blocks. Python's language reference, "Lexical analysis".
--
-- Most of this mirrors the crate's own functions, one definition for each. What holds of the list, whatever the order
-- in which it is made, is said in `Lexed` and `Laws`.
use Rattle.std.specs.Prelude.{ℕ, suc, zero, ◌+◌, ◌-◌, ◌≤◌, List, [], ◌∷◌, ◌++◌, ◌==◌, nat_lt, nat_le, if◌then◌else◌}
use Rattle.std.specs.Prelude.{slice_index, length, take, count_by, codes, Some, None, Result, Ok, Err}
use Rattle.krn_base.specs.declared.place.Loc.{Loc}
use Rattle.py_lex.specs.declared.token.TokenKind.{TokenKind}
use Rattle.py_lex.specs.declared.token.TokenKind.TheVariants as k
use Rattle.py_lex.specs.declared.token.Token.{Token}
use Rattle.py_lex.specs.declared.token.Tokens.{Tokens}
use Rattle.py_lex.specs.declared.piece.Class.{Class}
use Rattle.py_lex.specs.declared.piece.Class.TheVariants.{Spaces, Tabs, LineEnd, Join, Comment, Bad, Solid}
use Rattle.py_lex.specs.declared.place.Place.{Place}
use Rattle.py_lex.specs.declared.layout.Line.{Line}
use Rattle.py_lex.specs.declared.layout.Line.TheVariants.{Fresh, Inside}
use Rattle.py_lex.specs.Bytes.{Bytes}
use Rattle.std.specs.Str.{bytes_eq}
use Rattle.py_lex.specs.Words.{is_note}
use Rattle.py_lex.specs.Pieces.{pieces}

-- before the first byte
unfoldable pub start : Place
start = record { offset = 0; loc = record { line = 1; col = 1 } }

-- The place behind a byte. Lines are counted by LF (10), columns in bytes.
abbrev pub behind : Place → ℕ → Place
behind p b =
    record {
      offset = p.offset + 1;
      loc = if b == 10 then record { line = p.loc.line + 1; col = 1 } else record
          { line = p.loc.line; col = p.loc.col + 1 };
    }

-- the place behind these bytes
unfoldable pub passed : Place → Bytes → Place
passed p [] = p
passed p (b ∷ z) = passed (behind p b) z

-- line and column are no further than the bytes go
pub record IsNear (p : Place) : Type 0 where
  pub line : p.loc.line ≤ p.offset + 1
  pub col : p.loc.col ≤ p.offset + 1

-- what has been read of a source: the place behind it, the brackets that are open, how far the line has come, the
-- indentations that are open, the least first, and the tokens and notes
pub record State : Type 0 where
  pub place : Place
  pub depth : ℕ
  pub line : Line
  pub indents : List ℕ
  pub tokens : List Token
  pub notes : List Token

abbrev pub Outcome : Type 0
Outcome = Result State Loc

-- one step and then another, unless the first is refused
abbrev pub and_then : {A B : Type 0} → Result A Loc → (A → Result B Loc) → Result B Loc
and_then (Ok s) f = f s
and_then (Err e) f = Err e

-- a source has at most so many tokens
abbrev pub limit : ℕ
limit = 200000

-- a token of these bytes at this place
abbrev pub token_at : TokenKind → Bytes → Place → Token
token_at kind text p = record { kind = kind; start = p.offset; end = p.offset + length text; loc = p.loc }

-- one more token, refused where there are as many as there may be
unfoldable pub put : TokenKind → Bytes → State → Outcome
put kind text s =
    if nat_lt (length s.tokens) limit then Ok (record s { tokens = s.tokens ++ token_at kind text s.place ∷ [] })
    else Err s.place.loc

-- so many Dedents
unfoldable pub put_dedents : ℕ → State → Outcome
put_dedents zero s = Ok s
put_dedents (suc n) s = and_then (put k.Dedent [] s) (put_dedents n)

abbrev pub with_line : Line → State → State
with_line line s = record s { line = line }

abbrev pub with_indents : List ℕ → State → State
with_indents indents s = record s { indents = indents }

-- the last number, 0 where there is none
abbrev pub last_of : List ℕ → ℕ
last_of ns = slice_index ns (length ns - 1)

-- how many of the open indentations stay open before a token that stands behind n spaces
abbrev pub kept : ℕ → List ℕ → ℕ
kept n indents = count_by (λ i. nat_le i n) indents

-- a Dedent for each indentation that is dropped; the last that is kept must then be n
unfoldable pub dedented : ℕ → State → Outcome
dedented n s =
    let count = kept n s.indents in
    if last_of (take count s.indents) == n
    then and_then (put_dedents (length s.indents - count) s) (λ t. Ok (with_indents (take count t.indents) t))
    else Err s.place.loc

-- before the first token of a line that stands behind n spaces: an Indent where that is more than the last number, else
-- Dedents
unfoldable pub indented : ℕ → State → Outcome
indented n s =
    if nat_lt (last_of s.indents) n
    then and_then (put k.Indent [] s) (λ t. Ok (with_indents (t.indents ++ n ∷ []) t))
    else dedented n s

-- before a token: nothing inside a line, a refusal where a tab stands before the first one
unfoldable pub opened : State → Line → Outcome
opened s Inside = Ok s
opened s (Fresh n (Some tab)) = Err tab
opened s (Fresh n None) = indented n s

-- the brackets that are open behind a token; only one that is open can be closed
unfoldable pub depth_after : Bytes → ℕ → ℕ
depth_after text n =
    if bytes_eq text (codes "(") then n + 1
    else (if bytes_eq text (codes "[") then n + 1
    else (if bytes_eq text (codes ")") then n - 1
    else (if bytes_eq text (codes "]") then n - 1
    else n)))

unfoldable pub solid : TokenKind → Bytes → State → Outcome
solid kind text s =
    and_then (opened s s.line) (λ t.
    and_then (put kind text t) (λ u.
    Ok (record u { line = Inside; depth = depth_after text u.depth })))

-- blanks count before the first token alone
abbrev pub spaced : ℕ → Line → Line
spaced more Inside = Inside
spaced more (Fresh n tab) = Fresh (n + more) tab

abbrev pub tabbed : Loc → Line → Line
tabbed at Inside = Inside
tabbed at (Fresh n (Some tab)) = Fresh n (Some tab)
tabbed at (Fresh n None) = Fresh n (Some at)

-- a line end: a Newline where the line has a token and no bracket is open
unfoldable pub ended : Bytes → State → Line → Outcome
ended text s Inside =
    if s.depth == 0 then and_then (put k.Newline text s) (λ t. Ok (with_line (Fresh 0 None) t)) else Ok s
ended text s (Fresh n tab) = Ok (with_line (Fresh 0 None) s)

-- a comment: a note where it is alone on its line and its words are those of one
unfoldable pub commented : Bytes → State → Line → State
commented text s Inside = s
commented text s (Fresh n tab) =
    if is_note text then record s { notes = s.notes ++ token_at k.Note text s.place ∷ [] } else s

-- where a piece that begins no token is refused: at the first tab before the line's first token, else at itself
unfoldable pub refused_at : Place → Line → Loc
refused_at p Inside = p.loc
refused_at p (Fresh n (Some tab)) = tab
refused_at p (Fresh n None) = p.loc

-- what a piece does, its place apart
unfoldable pub done : Class → Bytes → State → Outcome
done Spaces text s = Ok (with_line (spaced (length text) s.line) s)
done Tabs text s = Ok (with_line (tabbed s.place.loc s.line) s)
done LineEnd text s = ended text s s.line
done Join text s = Ok s
done Comment text s = Ok (commented text s s.line)
done Bad text s = Err (refused_at s.place s.line)
done (Solid kind) text s = solid kind text s

-- and its place
unfoldable pub step : Class → Bytes → State → Outcome
step class text s = and_then (done class text s) (λ t. Ok (record t { place = passed t.place text }))

unfoldable pub layout : List (Class × Bytes) → State → Outcome
layout [] s = Ok s
layout (p ∷ ps) s = and_then (step p.0 p.1 s) (layout ps)

-- the end of the source: the last line's Newline, outside brackets, the Dedents that are open, and End
unfoldable pub finished : State → Outcome
finished s =
    and_then (ended [] s s.line) (λ t.
    and_then (put_dedents (length t.indents) t) (put k.End []))

unfoldable pub first : State
first = record { place = start; depth = 0; line = Fresh 0 None; indents = []; tokens = []; notes = [] }

abbrev pub gathered : State → Tokens
gathered s = record { tokens = s.tokens; notes = s.notes }

-- the tokens of a source, or the place where it is refused
unfoldable pub tokens_of : Bytes → Result Tokens Loc
tokens_of z =
    and_then (layout (pieces z) first) (λ s.
    and_then (finished s) (λ t. Ok (gathered t)))

-- What holds of the tokens and notes of a source beside their list, in the words of Python's language reference,
-- "Lexical analysis": the longest match, blocks by indentation, comments alone on their lines.
use Rattle.std.specs.Prelude.{◌≡◌, ℕ, ◌+◌, ◌<◌, ◌≤◌, ◌⊎◌, Bool, true, false, ◌&&◌, nat_le, ◌==◌, if◌then◌else◌, IsTrue}
use Rattle.std.specs.Prelude.{List, [], ◌∷◌, ◌++◌, length, take, count_by}
use Rattle.std.specs.List.{AllByRecursion, slice_range}
use Rattle.krn_base.specs.declared.place.Loc.{Loc}
use Rattle.krn_base.specs.declared.refusal.Stop.{Stop}
use Rattle.krn_base.specs.declared.refusal.Stop.TheVariants.{Refused, Memory}
use Rattle.py_lex.specs.declared.token.TokenKind.{TokenKind}
use Rattle.py_lex.specs.declared.token.TokenKind.TheVariants as k
use Rattle.py_lex.specs.declared.token.Token.{Token}
use Rattle.py_lex.specs.declared.token.Tokens.{Tokens}
use Rattle.py_lex.specs.declared.piece.Class.{Class}
use Rattle.py_lex.specs.declared.piece.Class.TheVariants as class
use Rattle.py_lex.specs.Bytes.{Bytes}
use Rattle.py_lex.specs.Words.{is_note}
use Rattle.py_lex.specs.Pieces.{pieces}
use Rattle.py_lex.specs.Layout.{start, passed, limit, last_of, token_at}
use Rattle.py_lex.specs.Lexed.{Spells, IsSpan, IsGap, MakesUp, IsLexed}

-- ---- the longest match

-- the kinds whose tokens are written out
abbrev pub IsWritten : TokenKind → Type 0
IsWritten k.Name = Unit {0}
IsWritten k.Keyword = Unit {0}
IsWritten k.Number = Unit {0}
IsWritten k.Op = Unit {0}
IsWritten k.Text = Unit {0}
IsWritten _ = ⊥

-- no longer token stands where this one is written
abbrev pub IsLongest : Bytes → Token → Type 0
IsLongest source t =
    IsWritten t.kind → (kind : TokenKind) → IsWritten kind → (end : ℕ) → t.end < end → end ≤ length source
    → Spells kind (slice_range source t.start end) → ⊥

-- ---- blocks

-- What a text ends in, if it is the blank beginning of a line: its spaces (32), also those before a `\` (92) that joins
-- the next line to it. LF is 10, CR is 13.
pub data Margin : Type 0 where
  Off : Margin
  Spaces : ℕ → Margin
  Joining : ℕ → Margin
  Returning : ℕ → Margin

abbrev pub fresh : ℕ → Margin
fresh b = if b == 10 then Spaces 0 else Off

abbrev pub margin_after : Margin → ℕ → Margin
margin_after Off b = fresh b
margin_after (Spaces n) b = if b == 32 then Spaces (n + 1) else (if b == 92 then Joining n else fresh b)
margin_after (Joining n) b = if b == 10 then Spaces n else (if b == 13 then Returning n else Off)
margin_after (Returning n) b = if b == 10 then Spaces n else Off

unfoldable pub margin_from : Margin → Bytes → Margin
margin_from margin [] = margin
margin_from margin (b ∷ z) = margin_from (margin_after margin b) z

-- n spaces, and nothing else, stand before this place on its line
abbrev pub IsIndented : Bytes → ℕ → ℕ → Type 0
IsIndented source at n = margin_from (Spaces 0) (take at source) ≡ Spaces n

-- a token that neither ends a line nor moves its indentation stands in its line
abbrev pub is_inside : TokenKind → Bool
is_inside k.Newline = false
is_inside k.Indent = false
is_inside k.Dedent = false
is_inside _ = true

-- a Dedent closes this column before a line that is indented less, or at the end of the source
abbrev pub Closes : Bytes → TokenKind → ℕ → ℕ → Type 0
Closes source before at column =
    (at ≡ length source)
    ⊎ ((n : ℕ) × ((before ≡ k.Newline) ⊎ (before ≡ k.Dedent)) × IsIndented source at n × (n < column))

-- A token of this kind at this place, behind one of the kind `before` (a Newline where there is none): `columns` are
-- open before it, the innermost last, and `left` behind it. An Indent opens the column of the line that begins, a
-- Dedent closes the innermost, and the first token of a line stands in the innermost.
abbrev pub Turn : Bytes → TokenKind → List ℕ → TokenKind → ℕ → List ℕ → Type 0
Turn source before columns k.Indent at left =
    (n : ℕ) × (before ≡ k.Newline) × IsIndented source at n × (last_of columns < n) × (left ≡ columns ++ n ∷ [])
Turn source before columns k.Dedent at left = (n : ℕ) × (columns ≡ left ++ n ∷ []) × Closes source before at n
Turn source before columns k.Newline at left = (left ≡ columns) × IsTrue (is_inside before)
Turn source before columns k.End at left = (left ≡ columns) × (columns ≡ [])
Turn source before columns _ at left = (left ≡ columns)
    × (IsTrue (is_inside before) ⊎ IsIndented source at (last_of columns))

-- these tokens turn by turn, up to one of the kind `last`
abbrev pub Turns : Bytes → TokenKind → List ℕ → List Token → TokenKind → List ℕ → Type 0
Turns source before columns [] last left = (before ≡ last) × (columns ≡ left)
Turns source before columns (t ∷ ts) last left =
    (m : List ℕ) × Turn source before columns t.kind t.start m × Turns source t.kind m ts last left

-- no column is open before the first token, and none behind the End
abbrev pub IsInBlocks : Bytes → List Token → Type 0
IsInBlocks source ts = Turns source k.Newline [] ts k.End []

abbrev pub is_indent : TokenKind → Bool
is_indent k.Indent = true
is_indent _ = false

abbrev pub is_dedent : TokenKind → Bool
is_dedent k.Dedent = true
is_dedent _ = false

-- as many Indents as Dedents
abbrev pub IsBalanced : List Token → Type 0
IsBalanced ts = count_by (λ (t : Token). is_indent t.kind) ts ≡ count_by (λ (t : Token). is_dedent t.kind) ts

-- ---- notes

-- the kind of the last token that ends at a place or before it; a Newline where there is none
abbrev pub kind_before : TokenKind → List Token → ℕ → TokenKind
kind_before before [] at = before
kind_before before (t ∷ ts) at = if nat_le t.end at then kind_before t.kind ts at else before

abbrev pub is_newline : TokenKind → Bool
is_newline k.Newline = true
is_newline _ = false

-- a comment at this place is a note where its words are those of one and no token of its line stands before it
abbrev pub note_at : Bytes → List Token → ℕ → Class → Bytes → List Token
note_at source ts at class.Comment text =
    if is_note text && is_newline (kind_before k.Newline ts at)
    then token_at k.Note text (passed start (take at source)) ∷ []
    else []
note_at source ts at _ text = []

-- the notes among the pieces of a source that stand from this place on
abbrev pub notes_among : Bytes → List Token → ℕ → List (Class × Bytes) → List Token
notes_among source ts at [] = []
notes_among source ts at (p ∷ ps) = note_at source ts at p.0 p.1 ++ notes_among source ts (at + length p.1) ps

-- the notes are the comments of the source that are notes and stand alone on their lines, in order, and nothing else
abbrev pub AreNotes : Bytes → Tokens → Type 0
AreNotes source ts = ts.notes ≡ notes_among source ts.tokens 0 (pieces source)

-- ---- refusals

-- A text is too full where its tokens, with a Newline, a Dedent for each column that they leave open, and an End behind
-- them, are more than a source may have.
pub record IsFull (front : Bytes) : Type 0 where
  pub tokens : List Token
  pub spans : AllByRecursion (IsSpan front) tokens
  pub end : ℕ
  pub makes_up : MakesUp front 0 tokens end
  pub gap : IsGap (slice_range front end (length front))
  pub last : TokenKind
  pub columns : List ℕ
  pub turns : Turns front k.Newline [] tokens last columns
  pub full : limit < length tokens + length columns + 2

-- what stands before a refused place is a text that has tokens, unless it is too full
pub record IsBehindFront (source : Bytes) (at : Loc) : Type 0 where
  pub front : Bytes
  pub rest : Bytes
  pub parts : source ≡ front ++ rest
  pub place : at ≡ (passed start front).loc
  pub viable : ((ts : Tokens) × IsLexed front ts) ⊎ IsFull front

abbrev pub IsViable : Bytes → Stop → Type 0
IsViable source (Refused r) = IsBehindFront source r.loc
IsViable source Memory = Unit {0}

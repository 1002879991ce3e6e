-- The pieces of a source, by longest match and without any state. `joined` to `mark` mirror the crate's own functions.
use Rattle.std.specs.Prelude.{ℕ, suc, zero, ◌+◌, ◌-◌, not, ◌||◌, List, [], ◌∷◌, ◌==◌, if◌then◌else◌, slice_index}
use Rattle.std.specs.Prelude.{length, take, drop, Option, Some, None}
use Rattle.py_lex.specs.declared.bytes.Set.TheVariants.{Space, Tab, Digit, Word, Number}
use Rattle.py_lex.specs.declared.token.TokenKind.TheVariants as k
use Rattle.py_lex.specs.declared.piece.Piece.{Piece}
use Rattle.py_lex.specs.declared.piece.Class.{Class}
use Rattle.py_lex.specs.declared.piece.Class.TheVariants.{Spaces, Tabs, LineEnd, Join, Comment, Bad, Solid}
use Rattle.py_lex.specs.Bytes.{Bytes, is_in, run, line_end, before_line_end}
use Rattle.py_lex.specs.Words.{is_keyword, is_number, text_len, longest, operators}

abbrev pub piece_of : Class → ℕ → Piece
piece_of class len = record { class = class; len = len }

-- a `\` joins where a line end follows it, and stands at the end of the source
abbrev pub joined : Bytes → Piece
joined z = if length z == 1 || not (line_end (drop 1 z) == 0) then piece_of Join
    (1 + line_end (drop 1 z)) else piece_of Bad 1

-- the longest run of letters, digits, `_` and `.`, which is a number or nothing
abbrev pub numeral : Bytes → Piece
numeral z =
    let n = run Number z in
    if is_number (take n z) then piece_of (Solid k.Number) n else piece_of Bad n

abbrev pub word : Bytes → Piece
word z =
    let n = run Word z in
    if is_keyword (take n z) then piece_of (Solid k.Keyword) n else piece_of (Solid k.Name) n

abbrev pub text_piece : Option ℕ → Piece
text_piece (Some n) = piece_of (Solid k.Text) n
text_piece None = piece_of Bad 1

abbrev pub quoted : Bytes → Piece
quoted z = text_piece (text_len z)

abbrev pub mark : Bytes → Piece
mark z =
    let n = longest operators z in
    if n == 0 then piece_of Bad 1 else piece_of (Solid k.Op) n

-- The piece at the front of a text that isn't empty: what it is and how many bytes it has. It goes by the first byte:
-- 32 is a space, 9 a tab, 35 `#`, 92 `\`, 39 `'`, 34 `"`.
unfoldable pub piece : Bytes → Piece
piece z =
    let b = slice_index z 0 in
    if not (line_end z == 0) then piece_of LineEnd (line_end z)
    else (if b == 32 then piece_of Spaces (run Space z)
    else (if b == 9 then piece_of Tabs (run Tab z)
    else (if b == 35 then piece_of Comment (before_line_end z)
    else (if b == 92 then joined z
    else (if is_in Digit b then numeral z
    else (if is_in Word b then word z
    else (if b == 39 || b == 34 then quoted z
    else mark z)))))))

-- the pieces of a text, each by its class and its bytes; the number counts the bytes that are left of one
unfoldable pub pieces_from : ℕ → Bytes → List (Class × Bytes)
pieces_from left [] = []
pieces_from (suc left) (b ∷ z) = pieces_from left z
pieces_from zero (b ∷ z) =
    let p = piece (b ∷ z) in
    (p.class, take p.len (b ∷ z)) ∷ pieces_from (p.len - 1) z

abbrev pub pieces : Bytes → List (Class × Bytes)
pieces z = pieces_from 0 z

-- The bytes of a source, and where its lines end. Python's language reference, "Lexical analysis", with ASCII alone
-- outside comments and texts.
use Rattle.std.specs.Prelude.{ℕ, ◌+◌, Bool, ◌||◌, ◌&&◌, List, [], ◌∷◌, ◌==◌, if◌then◌else◌, slice_index}
use Rattle.std.specs.List.{prefix_len, list_all}
use Rattle.std.specs.Char.{is_ascii_digit, is_ascii_hexdigit, is_ascii_alphanumeric}
use Rattle.py_lex.specs.declared.bytes.Set.{Set}
use Rattle.py_lex.specs.declared.bytes.Set.TheVariants.{Space, Tab, Blank, Digit, Hexadecimal, Word, Number}

abbrev pub Bytes : Type 0
Bytes = List ℕ

-- 32 is a space, 9 a tab, 95 `_`, 46 `.`
abbrev pub is_in : Set → ℕ → Bool
is_in Space b = b == 32
is_in Tab b = b == 9
is_in Blank b = b == 32 || b == 9
is_in Digit b = is_ascii_digit b
is_in Hexadecimal b = is_ascii_hexdigit b
is_in Word b = is_ascii_alphanumeric b || b == 95
is_in Number b = is_ascii_alphanumeric b || (b == 95 || b == 46)

-- how many bytes of the set stand at the front
abbrev pub run : Set → Bytes → ℕ
run set z = prefix_len (is_in set) z

-- all bytes are of the set
abbrev pub are_in : Set → Bytes → Bool
are_in set z = list_all (is_in set) z

-- How many bytes the line end at the front has: 1 for LF, 2 for CR LF, 0 where there is none. (10 is LF, 13 is CR.)
abbrev pub line_end : Bytes → ℕ
line_end z =
    if slice_index z 0 == 10 then 1
    else (if slice_index z 0 == 13 && slice_index z 1 == 10 then 2
    else 0)

-- how many bytes stand before the next line end
unfoldable pub before_line_end : Bytes → ℕ
before_line_end [] = 0
before_line_end (b ∷ z) = if line_end (b ∷ z) == 0 then before_line_end z + 1 else 0

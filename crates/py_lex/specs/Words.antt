-- What is a name, a keyword, a number, a text, an operator and a note.
use Rattle.std.specs.Prelude.{ℕ, suc, zero, ◌+◌, ◌-◌, ◌*◌, ◌^◌, Bool, false, not, ◌||◌, ◌&&◌, List, [], ◌∷◌, ◌==◌}
use Rattle.std.specs.Prelude.{nat_eq, nat_lt, nat_le, if◌then◌else◌, slice_index, length, codes, drop, fold, max}
use Rattle.std.specs.Prelude.{Option, Some, None, ℤ, pos}
use Rattle.std.specs.List.{list_any, starts_with}
use Rattle.std.specs.Str.{bytes_eq}
use Rattle.py_lex.specs.declared.bytes.Set.TheVariants.{Blank, Digit, Hexadecimal, Word}
use Rattle.py_lex.specs.Bytes.{Bytes, is_in, are_in, run}

-- Python's 35 keywords
unfoldable pub keywords : List Bytes
keywords =
    codes "False" ∷ codes "None" ∷ codes "True" ∷ codes "and" ∷ codes "as" ∷ codes "assert" ∷ codes "async" ∷ codes
    "await"
    ∷ codes "break" ∷ codes "class" ∷ codes "continue" ∷ codes "def" ∷ codes "del" ∷ codes "elif" ∷ codes "else" ∷
    codes "except"
    ∷ codes "finally" ∷ codes "for" ∷ codes "from" ∷ codes "global" ∷ codes "if" ∷ codes "import" ∷ codes "in" ∷ codes
    "is"
    ∷ codes "lambda" ∷ codes "nonlocal" ∷ codes "not" ∷ codes "or" ∷ codes "pass" ∷ codes "raise" ∷ codes "return" ∷
    codes "try"
    ∷ codes "while" ∷ codes "with" ∷ codes "yield" ∷ []

unfoldable pub is_keyword : Bytes → Bool
is_keyword word = list_any (bytes_eq word) keywords

-- letters, digits and `_`, and no digit first
unfoldable pub is_name : Bytes → Bool
is_name word = not (length word == 0) && (not (is_in Digit (slice_index word 0)) && are_in Word word)

-- the operators of the language, and the brackets and marks
unfoldable pub operators : List Bytes
operators =
    codes "**" ∷ codes "//" ∷ codes "<<" ∷ codes ">>" ∷ codes "<=" ∷ codes ">=" ∷ codes "==" ∷ codes "!=" ∷ codes
    "+=" ∷ codes "-="
    ∷ codes "*=" ∷ codes "//=" ∷ codes "%=" ∷ codes "<<=" ∷ codes ">>=" ∷ codes "&=" ∷ codes "|=" ∷ codes "^=" ∷ codes
    "+"
    ∷ codes "-" ∷ codes "*" ∷ codes "%" ∷ codes "&" ∷ codes "|" ∷ codes "^" ∷ codes "~" ∷ codes "<" ∷ codes ">" ∷ codes
    "="
    ∷ codes "(" ∷ codes ")" ∷ codes "[" ∷ codes "]" ∷ codes "," ∷ codes ":" ∷ codes "." ∷ []

unfoldable pub is_operator : Bytes → Bool
is_operator mark = list_any (bytes_eq mark) operators

-- the length of the longest word of a table that the text begins with, 0 where it begins with none
abbrev pub longest : List Bytes → Bytes → ℕ
longest [] z = 0
longest (word ∷ words) z = max (if starts_with nat_eq z word then length word else 0) (longest words z)

-- the value of a digit, of a hexadecimal one too
abbrev pub digit_value : ℕ → ℕ
digit_value b = if nat_le b 57 then b - 48 else (if nat_le b 70 then b - 55 else b - 87)

abbrev pub decimal_value : Bytes → ℕ
decimal_value digits = fold (λ n b. 10 * n + digit_value b) 0 digits

abbrev pub hexadecimal_value : Bytes → ℕ
hexadecimal_value digits = fold (λ n b. 16 * n + digit_value b) 0 digits

-- `0`, or digits of which the first isn't 0
abbrev pub is_decimal : Bytes → Bool
is_decimal text = are_in Digit text && (length text == 1 || (not (length text == 0) && not (slice_index text 0 == 48)))

-- `0x` or `0X` and at least one hexadecimal digit
abbrev pub is_hexadecimal : Bytes → Bool
is_hexadecimal text =
    (starts_with nat_eq text (codes "0x") || starts_with nat_eq text (codes "0X"))
    && (not (length (drop 2 text) == 0) && are_in Hexadecimal (drop 2 text))

-- the value of a number that is well formed
unfoldable pub number_value : Bytes → Option ℕ
number_value text =
    if is_decimal text then Some (decimal_value text)
    else (if is_hexadecimal text then Some (hexadecimal_value (drop 2 text))
    else None)

-- at most 2^63 - 1
abbrev pub is_in_range : Option ℕ → Bool
is_in_range (Some n) = nat_lt n (2 ^ 63)
is_in_range None = false

-- the value, where it is at most 2^63 - 1
abbrev pub below_bound : Option ℕ → Option ℤ
below_bound (Some n) = if nat_lt n (2 ^ 63) then Some (pos n) else None
below_bound None = None

unfoldable pub is_number : Bytes → Bool
is_number text = is_in_range (number_value text)

-- How many bytes there are up to behind the closing quotes, `at` of which have been passed, or none where they don't
-- come. A `\` (92) takes the next byte with it; between single quotes no line may end (10 is LF).
unfoldable pub closed : Bytes → ℕ → ℕ → Bytes → Option ℕ
closed quotes taken at [] = None
closed quotes (suc taken) at (b ∷ z) = closed quotes taken (at + 1) z
closed quotes zero at (b ∷ z) =
    if starts_with nat_eq (b ∷ z) quotes then Some (at + length quotes)
    else (if b == 10 && length quotes == 1 then None
    else closed quotes (if b == 92 then 1 else 0) (at + 1) z)

-- how a text may be quoted: three quotes are tried before one (34 is `"`, 39 is `'`)
abbrev pub quotings : List Bytes
quotings = codes "'''" ∷ codes "\"\"\"" ∷ codes "'" ∷ codes "\"" ∷ []

abbrev pub text_by : List Bytes → Bytes → Option ℕ
text_by [] z = None
text_by (quotes ∷ others) z =
    if starts_with nat_eq z quotes then closed quotes 0 (length quotes) (drop (length quotes) z) else text_by others z

-- the length of the text at the front, or none where it isn't closed
unfoldable pub text_len : Bytes → Option ℕ
text_len z = text_by quotings z

abbrev pub is_length : Option ℕ → ℕ → Bool
is_length (Some n) m = n == m
is_length None m = false

-- a text in quotes, whole
abbrev pub is_text : Bytes → Bool
is_text text = is_length (text_len text) (length text)

-- the word is there, and a blank or nothing behind it
abbrev pub is_first_word : Bytes → Bytes → Bool
is_first_word word z =
    starts_with nat_eq z word && (length z == length word || is_in Blank (slice_index z (length word)))

-- a comment whose first word is `pythran` or `omp`; its first byte is `#`
unfoldable pub is_note : Bytes → Bool
is_note comment =
    let text = drop 1 comment in
    let z = drop (run Blank text) text in
    is_first_word (codes "pythran") z || is_first_word (codes "omp") z

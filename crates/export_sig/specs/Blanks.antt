-- The blanks and the first word of a note, and the places of its bytes.
use Rattle.std.specs.Prelude.{◌≡◌, ℕ, ◌+◌, ◌-◌, ◌<◌, ◌==◌, ◌^◌, Bool, true, not, ◌||◌, ◌&&◌, [], ◌∷◌}
use Rattle.std.specs.Prelude.{length, take, drop, filter, min, if◌then◌else◌}
use Rattle.std.specs.List.{list_all}
use Rattle.std.specs.Str.{bytes_eq}
use Rattle.krn_base.specs.declared.place.Loc.{Loc}
use Rattle.py_lex.specs.Bytes.{Bytes}

-- a space or a tab
abbrev pub is_blank : ℕ → Bool
is_blank b = b == 32 || b == 9

abbrev pub AreBlanks : Bytes → Type 0
AreBlanks ts = list_all is_blank ts ≡ true

-- at least one blank
abbrev pub AreSomeBlanks : Bytes → Type 0
AreSomeBlanks ts = (0 < length ts) × AreBlanks ts

-- a text without its blanks
abbrev pub solid : Bytes → Bytes
solid ts = filter (λ b. not (is_blank b)) ts

-- a text from its first byte on that is no blank
abbrev pub after_blanks : Bytes → Bytes
after_blanks [] = []
after_blanks (b ∷ ts) = if is_blank b then after_blanks ts else b ∷ ts

-- nothing, or a blank and more
abbrev pub ends_word : Bytes → Bool
ends_word [] = true
ends_word (b ∷ ts) = is_blank b

-- the first word of a comment behind its `#`
abbrev pub is_first_word : Bytes → Bytes → Bool
is_first_word word ts = bytes_eq (take (length word) ts) word && ends_word (drop (length word) ts)

abbrev pub has_first_word : Bytes → Bytes → Bool
has_first_word word comment = is_first_word word (after_blanks (drop 1 comment))

-- The place of a byte of a comment that starts at a place, with so many bytes before it: the comment has one line.
-- The greatest column
-- stands for those beyond it.
abbrev pub moved : Loc → ℕ → Loc
moved start before = record { line = start.line; col = min (start.col + before) (2 ^ 32 - 1) }

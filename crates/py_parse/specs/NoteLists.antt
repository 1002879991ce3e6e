-- What the one pass over the notes and the tokens goes by. Only contracts of the crate's own functions cite this.
use Rattle.std.specs.Prelude.{◌≤◌, if◌then◌else◌, List, [], ◌∷◌}
use Rattle.std.specs.List.{AllByRecursion}
use Rattle.py_lex.specs.declared.token.Token.{Token}
use Rattle.py_parse.specs.Notes.{is_behind}

-- the tokens from the first behind a note on
abbrev pub from_behind : Token → List Token → List Token
from_behind note [] = []
from_behind note (token ∷ tokens) = if is_behind note token then token ∷ tokens else from_behind note tokens

-- the first of these tokens; where there is none, the other token
abbrev pub first_or : Token → List Token → Token
first_or other [] = other
first_or other (token ∷ tokens) = token

-- no note ends before one that stands ahead of it
abbrev pub IsRising : List Token → Type 0
IsRising [] = Unit {0}
IsRising (note ∷ notes) = AllByRecursion (λ later. note.end ≤ later.end) notes × IsRising notes

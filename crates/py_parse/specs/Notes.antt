-- The notes of a module, each with the token that it speaks of.
use Rattle.std.specs.Prelude.{◌≡◌, Bool, true, false, not, ◌&&◌, if◌then◌else◌, nat_le, IsTrue, List, [], ◌∷◌, ◌++◌}
use Rattle.std.specs.Prelude.{map}
use Rattle.std.specs.List.{AllByRecursion}
use Rattle.py_lex.specs.Bytes.{Bytes}
use Rattle.py_lex.specs.Lexed.{text_of}
use Rattle.py_lex.specs.declared.token.Token.{Token}
use Rattle.py_lex.specs.declared.token.TokenKind.{TokenKind}
use Rattle.py_lex.specs.declared.token.TokenKind.TheVariants as kind
use Rattle.py_parse.specs.declared.tree.Note.{Note}

-- an Indent and a Dedent only move with the token behind them
abbrev pub is_move : TokenKind → Bool
is_move kind.Indent = true
is_move kind.Dedent = true
is_move _ = false

-- a token that stands behind a note
abbrev pub is_behind : Token → Token → Bool
is_behind note token = nat_le note.end token.start && not (is_move token.kind)

-- the first token behind a note; the End stands behind every note
abbrev pub next_of : Token → List Token → Token
next_of note [] = note
next_of note (token ∷ tokens) = if is_behind note token then token else next_of note tokens

abbrev pub note_of : Bytes → List Token → Token → Note
note_of source tokens note = record { text = text_of source note; loc = note.loc; next = next_of note tokens }

abbrev pub notes_of : Bytes → List Token → List Token → List Note
notes_of source tokens notes = map (note_of source tokens) notes

-- the first of these tokens that stands behind the note
pub record IsFirstBehind (note : Token) (tokens : List Token) (next : Token) : Type 0 where
  pub before : List Token
  pub after : List Token
  pub parts : tokens ≡ before ++ next ∷ after
  pub behind : IsTrue (is_behind note next)
  pub first : AllByRecursion (λ t. is_behind note t ≡ false) before

-- a note of the tree has the text and the place of its note in the source, and the first of the tokens behind it
pub record IsFollowed (source : Bytes) (tokens : List Token) (note : Token) (n : Note) : Type 0 where
  pub text_is : n.text ≡ text_of source note
  pub loc_is : n.loc ≡ note.loc
  pub next_is : IsFirstBehind note tokens n.next

-- the notes of the tree are those of the source, one by one
abbrev pub AreFollowed : Bytes → List Token → List Token → List Note → Type 0
AreFollowed source tokens [] [] = Unit {0}
AreFollowed source tokens (note ∷ notes) (n ∷ ns) = IsFollowed source tokens note n × AreFollowed source tokens notes ns
AreFollowed source tokens _ _ = ⊥

-- What the tokens of a source are to the grammar: a terminal symbol each, with its place and its bytes.
use Rattle.std.specs.Prelude.{Bool, if◌then◌else◌, List, [], ◌∷◌, map, codes}
use Rattle.std.specs.Str.{bytes_eq}
use denote.Enum.Bare.{sameb}
use Rattle.krn_base.specs.declared.place.Loc.{Loc}
use Rattle.py_lex.specs.Bytes.{Bytes}
use Rattle.py_lex.specs.Lexed.{text_of}
use Rattle.py_lex.specs.declared.token.Token.{Token}
use Rattle.py_lex.specs.declared.token.TokenKind.{TokenKind}
use Rattle.py_lex.specs.declared.token.TokenKind.TheVariants as kind
use Rattle.py_parse.specs.contracts.terminal.Terminal.{the_type}
use Rattle.py_parse.specs.declared.terminal.Terminal.{Terminal}
use Rattle.py_parse.specs.declared.terminal.Terminal.TheVariants as t

pub record Lexeme : Type 0 where
  pub kind : Terminal
  pub loc : Loc
  pub text : Bytes

abbrev pub Lexemes : Type 0
Lexemes = List Lexeme

unfoldable pub same : Terminal → Terminal → Bool
same = sameb the_type

-- the words of the grammar; the other keywords stand in no rule
abbrev pub words : List (Bytes × Terminal)
words =
    (codes "import", t.Import) ∷ (codes "as", t.As) ∷ (codes "def", t.Def) ∷ (codes "pass", t.Pass) ∷
    (codes "return", t.Return)
    ∷ (codes "if", t.If) ∷ (codes "elif", t.Elif) ∷ (codes "else", t.Else) ∷ (codes "for", t.For) ∷ (codes "in", t.In)
    ∷ (codes "or", t.Or) ∷ (codes "and", t.And) ∷ (codes "not", t.Not) ∷ (codes "True", t.True) ∷
    (codes "False", t.False) ∷ []

abbrev pub marks : List (Bytes × Terminal)
marks =
    (codes "(", t.OpenParen) ∷ (codes ")", t.CloseParen) ∷ (codes "[", t.OpenBracket) ∷ (codes "]", t.CloseBracket) ∷
    (codes ",", t.Comma)
    ∷ (codes ":", t.Colon) ∷ (codes ".", t.Dot) ∷ (codes "=", t.Assign) ∷ (codes "+", t.Plus) ∷ (codes "-", t.Minus)
    ∷ (codes "*", t.Star) ∷ (codes "//", t.DoubleSlash) ∷ (codes "%", t.Percent) ∷ (codes "**", t.Power) ∷
    (codes "~", t.Tilde)
    ∷ (codes "<<", t.ShiftLeft) ∷ (codes ">>", t.ShiftRight) ∷ (codes "&", t.Ampersand) ∷ (codes "^", t.Caret) ∷
    (codes "|", t.Bar)
    ∷ (codes "==", t.Equal) ∷ (codes "!=", t.NotEqual) ∷ (codes "<", t.Less) ∷ (codes "<=", t.LessEqual) ∷
    (codes ">", t.Greater)
    ∷ (codes ">=", t.GreaterEqual) ∷ (codes "+=", t.PlusAssign) ∷ (codes "-=", t.MinusAssign) ∷
    (codes "*=", t.StarAssign)
    ∷ (codes "//=", t.DoubleSlashAssign) ∷ (codes "%=", t.PercentAssign) ∷ (codes "<<=", t.ShiftLeftAssign)
    ∷ (codes ">>=", t.ShiftRightAssign) ∷ (codes "&=", t.AmpersandAssign) ∷ (codes "|=", t.BarAssign) ∷
    (codes "^=", t.CaretAssign) ∷ []

abbrev pub lookup : List (Bytes × Terminal) → Bytes → Terminal
lookup [] text = t.Other
lookup (entry ∷ entries) text = if bytes_eq text entry.0 then entry.1 else lookup entries text

unfoldable pub terminal : TokenKind → Bytes → Terminal
terminal kind.Name text = t.Name
terminal kind.Keyword text = lookup words text
terminal kind.Number text = t.Number
terminal kind.Op text = lookup marks text
terminal kind.Text text = t.Text
terminal kind.Newline text = t.Newline
terminal kind.Indent text = t.Indent
terminal kind.Dedent text = t.Dedent
terminal kind.End text = t.End
terminal kind.Note text = t.Other

abbrev pub lexeme : Bytes → Token → Lexeme
lexeme source token =
    record { kind = terminal token.kind (text_of source token); loc = token.loc; text = text_of source token }

abbrev pub lexemes : Bytes → List Token → Lexemes
lexemes source tokens = map (lexeme source) tokens

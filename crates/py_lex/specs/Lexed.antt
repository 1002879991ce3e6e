-- What the tokens of a source are to those who read them: the list of the definition, with the laws that hold of it.
use Rattle.std.specs.Prelude.{◌≡◌, ◌≢◌, ℕ, ◌^◌, ◌<◌, ◌≤◌, false, ◌⊎◌, List, [], ◌∷◌, IsTrue, length, take, drop, Some}
use Rattle.std.specs.Prelude.{Result, Ok, Err}
use Rattle.std.specs.List.{AllByRecursion, slice_range, flat_map}
use Rattle.krn_base.specs.declared.refusal.Stop.{Stop}
use Rattle.krn_base.specs.declared.refusal.Stop.TheVariants.{Refused, Memory}
use Rattle.krn_base.specs.declared.refusal.Rule.TheVariants as rule
use Rattle.py_lex.specs.declared.bytes.Set.TheVariants.{Blank}
use Rattle.py_lex.specs.declared.token.TokenKind.{TokenKind}
use Rattle.py_lex.specs.declared.token.TokenKind.TheVariants as k
use Rattle.py_lex.specs.declared.token.Token.{Token}
use Rattle.py_lex.specs.declared.token.Tokens.{Tokens}
use Rattle.py_lex.specs.Bytes.{Bytes, are_in, line_end, before_line_end}
use Rattle.py_lex.specs.Words.{is_name, is_keyword, number_value, is_text, is_operator, is_note}
use Rattle.py_lex.specs.Layout.{start, passed, limit, tokens_of}

-- the bytes of a token
abbrev pub text_of : Bytes → Token → Bytes
text_of source t = slice_range source t.start t.end

-- what the text of a token of this kind is
abbrev pub Spells : TokenKind → Bytes → Type 0
Spells k.Name text = IsTrue (is_name text) × (is_keyword text ≡ false)
Spells k.Keyword text = IsTrue (is_keyword text)
Spells k.Number text = (n : ℕ) × (number_value text ≡ Some n) × (n < 2 ^ 63)
Spells k.Op text = IsTrue (is_operator text)
Spells k.Text text = IsTrue (is_text text)
Spells k.Newline text = line_end text ≡ length text
Spells k.Indent text = text ≡ []
Spells k.Dedent text = text ≡ []
Spells k.End text = text ≡ []
Spells k.Note text = IsTrue (is_note text)

-- a token lies in the source, stands at the place of its first byte, and its text is one of its kind
pub record IsSpan (source : Bytes) (t : Token) : Type 0 where
  pub forward : t.start ≤ t.end
  pub within : t.end ≤ length source
  pub placed : t.loc ≡ (passed start (take t.start source)).loc
  pub spelled : Spells t.kind (text_of source t)

-- each token begins where the one before it has ended, or behind that, from `at` on and up to `end`
abbrev pub InOrder : ℕ → List Token → ℕ → Type 0
InOrder at [] end = at ≤ end
InOrder at (t ∷ ts) end = (at ≤ t.start) × InOrder t.end ts end

-- the last token is the one End
abbrev pub EndsOnce : List Token → Type 0
EndsOnce [] = ⊥
EndsOnce (t ∷ []) = t.kind ≡ k.End
EndsOnce (t ∷ u ∷ ts) = (t.kind ≢ k.End) × EndsOnce (u ∷ ts)

-- no note among the tokens, and nothing else among the notes
abbrev pub IsNoteAlone : List Token → List Token → Type 0
IsNoteAlone tokens notes = AllByRecursion (λ t. t.kind ≢ k.Note) tokens × AllByRecursion (λ t. t.kind ≡ k.Note) notes

-- What may stand between tokens: blanks, a line end, a `\` (92) with a line end or the end of the source behind it, a
-- comment (35 is `#`), which holds no line end.
abbrev pub IsFiller : Bytes → Type 0
IsFiller z =
    IsTrue (are_in Blank z)
    ⊎ ((line_end z ≡ length z)
    ⊎ (((z ≡ 92 ∷ drop 1 z) × (line_end (drop 1 z) ≡ length (drop 1 z)))
    ⊎ ((z ≡ 35 ∷ drop 1 z) × (before_line_end z ≡ length z))))

abbrev pub IsGap : Bytes → Type 0
IsGap z = (parts : List Bytes) × AllByRecursion IsFiller parts × (flat_map (λ part. part) parts ≡ z)

-- from `at` up to `end`, a source is the texts of these tokens, in order, with fillers alone between them
abbrev pub MakesUp : Bytes → ℕ → List Token → ℕ → Type 0
MakesUp source at [] end = at ≡ end
MakesUp source at (t ∷ ts) end = (at ≤ t.start) × IsGap (slice_range source at t.start) × MakesUp source t.end ts end

-- The tokens and notes of a source.
pub record IsLexed (source : Bytes) (ts : Tokens) : Type 0 where
  -- the list of the definition
  pub is_list : tokens_of source ≡ Ok ts
  pub spans : AllByRecursion (IsSpan source) ts.tokens
  pub note_spans : AllByRecursion (IsSpan source) ts.notes
  pub in_order : InOrder 0 ts.tokens (length source)
  pub notes_in_order : InOrder 0 ts.notes (length source)
  pub apart : IsNoteAlone ts.tokens ts.notes
  pub ends_once : EndsOnce ts.tokens
  pub few : length ts.tokens ≤ limit
  pub makes_up : MakesUp source 0 ts.tokens (length source)

-- a refusal comes under the rule Lex, at the place of the definition
abbrev pub IsRefusal : Bytes → Stop → Type 0
IsRefusal source (Refused r) = (r.rule ≡ rule.Lex) × (tokens_of source ≡ Err r.loc)
IsRefusal source Memory = Unit {0}

-- an answer other than these tokens is want of memory alone
abbrev pub IsOnly : Tokens → Result Tokens Stop → Type 0
IsOnly ts (Ok us) = us ≡ ts
IsOnly ts (Err (Refused r)) = ⊥
IsOnly ts (Err Memory) = Unit {0}

-- The types of an export note: how each is written.
use Rattle.std.specs.Prelude.{◌≡◌, ℕ, zero, suc, ◌≤◌, ◌⊎◌, [], ◌∷◌, ◌++◌, codes}
use Rattle.krn_base.specs.declared.kind.Kind.{Kind}
use Rattle.krn_base.specs.declared.kind.Kind.TheVariants.{Int64, Bool as Truth}
use Rattle.krn_base.specs.declared.kind.ParamType.{ParamType}
use Rattle.krn_base.specs.declared.kind.ParamType.TheVariants.{Scalar, Flat, Strided}
use Rattle.py_lex.specs.Bytes.{Bytes}
use Rattle.export_sig.specs.Blanks.{AreBlanks, solid}

abbrev pub IsKind : Kind → Bytes → Type 0
IsKind Int64 word = (word ≡ codes "int") ⊎ (word ≡ codes "int64")
IsKind Truth word = word ≡ codes "bool"

abbrev pub IsRank : ℕ → Type 0
IsRank n = (1 ≤ n) × (n ≤ 4)

-- so many pairs of brackets with the same between: `[][]`; 91 and 93 are the brackets
abbrev pub chained : Bytes → ℕ → Bytes
chained inner zero = []
chained inner (suc n) = 91 ∷ (inner ++ 93 ∷ chained inner n)

-- so many times the same with commas (44) between: `:,:`
abbrev pub listed : Bytes → ℕ → Bytes
listed inner zero = []
listed inner (suc zero) = inner
listed inner (suc (suc n)) = inner ++ 44 ∷ listed inner (suc n)

abbrev pub bracketed : Bytes → Bytes
bracketed inner = 91 ∷ (inner ++ 93 ∷ [])

-- the word and the brackets of a type
abbrev pub IsSpelled : ParamType → Bytes → Bytes → Type 0
IsSpelled (Scalar k) word own = IsKind k word × (own ≡ [])
IsSpelled (Flat k n) word own =
    IsKind k word × IsRank n × ((own ≡ chained [] n) ⊎ (own ≡ bracketed (listed (codes ":") n)))
IsSpelled (Strided k n) word own =
    IsKind k word × IsRank n × ((own ≡ chained (codes "::") n) ⊎ (own ≡ bracketed (listed (codes "::") n)))

-- A text that stands for a type: blanks may stand before and behind its word, and anywhere in its brackets.
pub record IsTypeText (t : ParamType) (ts : Bytes) : Type 0 where
  pub blanks : Bytes
  pub word : Bytes
  pub tail : Bytes
  pub text_is : ts ≡ blanks ++ (word ++ tail)
  pub are_blanks : AreBlanks blanks
  pub spelled : IsSpelled t word (solid tail)

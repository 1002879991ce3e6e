-- The text of an export note, and the signature that it has.
use Rattle.std.specs.Prelude.{◌≡◌, true, List, [], ◌∷◌, ◌++◌, length, codes}
use Rattle.krn_base.specs.declared.kind.ParamType.{ParamType}
use Rattle.py_lex.specs.Bytes.{Bytes}
use Rattle.py_lex.specs.Words.{is_name}
use Rattle.py_parse.specs.declared.tree.Note.{Note}
use Rattle.export_sig.specs.declared.signature.Signature.{Signature}
use Rattle.export_sig.specs.Blanks.{AreBlanks, AreSomeBlanks, moved}
use Rattle.export_sig.specs.Types.{IsTypeText}

-- What stands before the name. 35 is `#`.
pub record IsExportHead (ts : Bytes) : Type 0 where
  pub first : Bytes
  pub second : Bytes
  pub third : Bytes
  pub text_is : ts ≡ 35 ∷ (first ++ (codes "pythran" ++ (second ++ (codes "export" ++ third))))
  pub blanks : AreBlanks first × AreSomeBlanks second × AreSomeBlanks third

-- the types behind one of them: each stands behind a comma (44), and `)` (41) ends the note
abbrev pub AreMoreTypes : List ParamType → Bytes → Type 0
AreMoreTypes [] ts = ts ≡ 41 ∷ []
AreMoreTypes (t ∷ types) ts = (a : Bytes) × (b : Bytes) × (ts ≡ 44 ∷ (a ++ b)) × IsTypeText t a × AreMoreTypes types b

-- the types of a note, which may be none
abbrev pub AreTypes : List ParamType → Bytes → Type 0
AreTypes [] ts = (blanks : Bytes) × (ts ≡ blanks ++ 41 ∷ []) × AreBlanks blanks
AreTypes (t ∷ types) ts = (a : Bytes) × (b : Bytes) × (ts ≡ a ++ b) × IsTypeText t a × AreMoreTypes types b

-- what stands behind the name: `(` (40) and the types
pub record AreParameters (types : List ParamType) (ts : Bytes) : Type 0 where
  pub blanks : Bytes
  pub inner : Bytes
  pub text_is : ts ≡ blanks ++ 40 ∷ inner
  pub are_blanks : AreBlanks blanks
  pub types_are : AreTypes types inner

-- The signature of an export note: its place is the note's, its name's place is where the name stands in the note.
pub record IsSignature (note : Note) (s : Signature) : Type 0 where
  pub front : Bytes
  pub rest : Bytes
  pub text_is : note.text ≡ front ++ (s.name.text ++ rest)
  pub head : IsExportHead front
  pub name_is : is_name s.name.text ≡ true
  pub parameters : AreParameters s.params rest
  pub name_loc : s.name.loc ≡ moved note.loc (length front)
  pub loc_is : s.loc ≡ note.loc

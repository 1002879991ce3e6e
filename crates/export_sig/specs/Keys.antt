-- Texts for signatures, by which an index finds them: two signatures have one text where they have one name and the
-- same types.
use Rattle.std.specs.Prelude.{◌≡◌, ℕ, List, [], ◌∷◌}
use Rattle.std.specs.List.{list_any}
use Rattle.std.specs.Str.{bytes_eq}
use Rattle.krn_base.specs.declared.kind.Kind.{Kind}
use Rattle.krn_base.specs.declared.kind.Kind.TheVariants.{Int64, Bool}
use Rattle.krn_base.specs.declared.kind.ParamType.{ParamType}
use Rattle.krn_base.specs.declared.kind.ParamType.TheVariants.{Scalar, Flat, Strided}
use Rattle.py_lex.specs.Bytes.{Bytes}
use Rattle.export_sig.specs.Listing.{is_repeated}
use Rattle.export_sig.specs.declared.found.Found.{Found}
use Rattle.export_sig.specs.declared.signature.Signature.{Signature}

abbrev pub kind_code : Kind → ℕ
kind_code Int64 = 0
kind_code Bool = 1

-- numbers for the form, which isn't 0, and the kind of a type, and its rank
abbrev pub type_code : ParamType → ℕ × ℕ × ℕ
type_code (Scalar kind) = (1, kind_code kind, 0)
type_code (Flat kind rank) = (2, kind_code kind, rank)
type_code (Strided kind rank) = (3, kind_code kind, rank)

-- the types, a 0, and the name
abbrev pub key : List ParamType → Bytes → Bytes
key [] name = 0 ∷ name
key (t ∷ types) name = (type_code t).0 ∷ (type_code t).1 ∷ (type_code t).2 ∷ key types name

abbrev pub key_of : Signature → Bytes
key_of s = key s.params s.name.text

-- the keys are those of the listed signatures, whatever their order
abbrev pub HoldsKeys : Found → Type 0
HoldsKeys found = (s : Signature) →
    list_any (λ k. bytes_eq (key_of s) k.items) found.keys.keys ≡ list_any (is_repeated s) found.list.items

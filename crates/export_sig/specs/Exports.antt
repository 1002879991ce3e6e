-- The signatures of a module: the rules of the whole list.
use Rattle.std.specs.Prelude.{◌≡◌, ℕ, Bool, ◌<◌, ◌≤◌, List, [], ◌∷◌, length, filter, Option, Some, None, if◌then◌else◌}
use Rattle.std.specs.Prelude.{codes}
use Rattle.std.specs.List.{AllByRecursion}
use Rattle.std.specs.Str.{bytes_eq}
use Rattle.krn_base.specs.declared.refusal.Rule.TheVariants as rule
use Rattle.krn_base.specs.declared.refusal.Stop.{Stop}
use Rattle.py_lex.specs.Bytes.{Bytes}
use Rattle.py_parse.specs.declared.tree.Function.{Function}
use Rattle.py_parse.specs.declared.tree.Module.{Module}
use Rattle.py_parse.specs.declared.tree.Note.{Note}
use Rattle.export_sig.specs.declared.signature.Signature.{Signature}
use Rattle.export_sig.specs.Blanks.{has_first_word}
use Rattle.export_sig.specs.NoteLists.{AllHave, IsRefusal}
use Rattle.export_sig.specs.Signatures.{IsSignature}

-- the notes whose first word is `pythran`
abbrev pub is_export : Note → Bool
is_export n = has_first_word (codes "pythran") n.text

abbrev pub export_notes : Module → List Note
export_notes m = filter is_export m.notes

-- how many parameters the first function of this name has
abbrev pub parameter_count : List Function → Bytes → Option ℕ
parameter_count [] name = None
parameter_count (f ∷ fs) name = if bytes_eq name f.name.text then Some (length f.params) else parameter_count fs name

-- the same name and the same types
abbrev pub IsRepeated : Signature → Signature → Type 0
IsRepeated s t = (s.name.text ≡ t.name.text) × (s.params ≡ t.params)

abbrev pub most_params : ℕ
most_params = 16

abbrev pub most_exports : ℕ
most_exports = 64

-- An export note has a signature, between the export notes before it and those behind it.
pub record IsExport (m : Module) (before : List Note) (note : Note) (after : List Note) (s : Signature) : Type 0 where
  pub text : IsSignature note s
  pub own : parameter_count m.functions s.name.text ≡ Some (length s.params)
  pub few : length s.params ≤ most_params
  pub new : AllByRecursion (λ earlier. (t : Signature) → IsSignature earlier t → IsRepeated t s → ⊥) before
  pub room : length before < most_exports

-- these are the signatures of the export notes, in the order of the text
abbrev pub AreExports : Module → List Signature → Type 0
AreExports m signatures = AllHave (IsExport m) [] (export_notes m) signatures

abbrev pub IsExportRefusal : Module → Stop → Type 0
IsExportRefusal m = IsRefusal (IsExport m) (export_notes m) rule.Export

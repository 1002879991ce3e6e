-- Texts for the heads of kernels, by which an index finds them: two kernels have one text where they have one name and
-- the same parameter types.
use Rattle.std.specs.Prelude.{◌≡◌, ℕ, List, [], ◌∷◌}
use Rattle.std.specs.List.{list_any}
use Rattle.std.specs.Str.{bytes_eq}
use Rattle.krn_base.specs.declared.kind.Kind.{Kind}
use Rattle.krn_base.specs.declared.kind.Kind.TheVariants.{Int64, Bool}
use Rattle.krn_base.specs.declared.kind.ParamType.{ParamType}
use Rattle.krn_base.specs.declared.kind.ParamType.TheVariants.{Scalar, Flat, Strided}
use Rattle.loop_prog.specs.Check.{same_head}
use Rattle.loop_prog.specs.Serial.{types_of_params}
use Rattle.loop_prog.specs.declared.known.Heads.{Heads}
use Rattle.loop_prog.specs.declared.program.Kernel.{Kernel}

abbrev pub kind_code : Kind → ℕ
kind_code Int64 = 0
kind_code Bool = 1

-- numbers for the form, which isn't 0, and the kind of a type, and its rank
abbrev pub type_code : ParamType → ℕ × ℕ × ℕ
type_code (Scalar kind) = (1, kind_code kind, 0)
type_code (Flat kind rank) = (2, kind_code kind, rank)
type_code (Strided kind rank) = (3, kind_code kind, rank)

-- the types, a 0, and the name
abbrev pub key : List ParamType → List ℕ → List ℕ
key [] name = 0 ∷ name
key (t ∷ types) name = (type_code t).0 ∷ (type_code t).1 ∷ (type_code t).2 ∷ key types name

abbrev pub head_key : Kernel → List ℕ
head_key kernel = key (types_of_params kernel) kernel.name

-- the keys are those of these kernels, whatever their order
abbrev pub HoldsHeads : Heads → List Kernel → Type 0
HoldsHeads heads earlier = (kernel : Kernel) →
    list_any (λ k. bytes_eq (head_key kernel) k.items) heads.keys.keys ≡ list_any (same_head kernel) earlier

-- The text of a loop program: two lines, and the text of each kernel. (This project's own form.)
use Rattle.std.specs.Prelude.{◌≡◌, ℕ, ◌+◌, zero, suc, Bool, true, false, not, if◌then◌else◌, List, [], ◌∷◌, ◌++◌, codes}
use Rattle.std.specs.Prelude.{Option, Some, None}
use Rattle.std.specs.Fmt.{decimal}
use Rattle.std.specs.List.{flat_map}
use Rattle.krn_base.specs.declared.kind.Kind.{Kind}
use Rattle.krn_base.specs.declared.kind.Kind.TheVariants as kinds
use Rattle.krn_base.specs.declared.kind.ParamType.{ParamType}
use Rattle.krn_base.specs.declared.kind.ParamType.TheVariants as param
use Rattle.loop_prog.specs.declared.program.Kernel.{Kernel}
use Rattle.loop_prog.specs.declared.program.LoopProgram.{LoopProgram}
use Rattle.cpp_print.specs.Statements.{block_text}
use Rattle.cpp_print.specs.Words.{Text, listed, view_reg, word_reg}

-- ---- types
abbrev pub kind_text : Kind → Text
kind_text kinds.Int64 = codes "int64_t"
kind_text kinds.Bool = codes "bool"

unfoldable pub flat_text : Kind → ℕ → Text
flat_text kind n = codes "krn::flat<" ++ (kind_text kind ++ (codes ", " ++ (decimal n ++ codes ">")))

unfoldable pub view_text : Kind → ℕ → Text
view_text kind n = codes "krn::view<" ++ (kind_text kind ++ (codes ", " ++ (decimal n ++ codes ">")))

abbrev pub param_type : ParamType → Text
param_type (param.Scalar kind) = kind_text kind
param_type (param.Flat kind n) = flat_text kind n
param_type (param.Strided kind n) = view_text kind n

-- the type of a returned value; rank 0 means a word
abbrev pub ret_type : Kind × ℕ → Text
ret_type (kind, zero) = kind_text kind
ret_type (kind, suc n) = view_text kind (suc n)

-- ---- the head of a kernel
abbrev pub param_text : Text × ParamType → Text
param_text p = param_type p.1 ++ (codes " p_" ++ p.0)

unfoldable pub head_text : Text → List (Text × ParamType) → List (Kind × ℕ) → Text
head_text name params rets =
    codes "auto k_" ++ (name ++ (codes "(" ++ (listed param_text params ++
    (codes ") -> krn::ret<" ++ (listed ret_type rets ++ codes "> {\n")))))

-- ---- the lines of the registers: the parameters' names stand behind the first ones
abbrev pub is_scalar : ParamType → Bool
is_scalar (param.Scalar kind) = true
is_scalar _ = false

abbrev pub is_array : ParamType → Bool
is_array type = not (is_scalar type)

abbrev pub names_of : (ParamType → Bool) → List (Text × ParamType) → List Text
names_of chosen [] = []
names_of chosen (p ∷ params) = if chosen p.1 then p.0 ∷ names_of chosen params else names_of chosen params

-- the value of a register and the end of its line
abbrev pub line_end : Option Text → Text
line_end None = codes ";\n"
line_end (Some name) = codes " = p_" ++ (name ++ codes ";\n")

abbrev pub first_name : List Text → Option Text
first_name [] = None
first_name (name ∷ names) = Some name

abbrev pub other_names : List Text → List Text
other_names [] = []
other_names (name ∷ names) = names

unfoldable pub view_line : ℕ → Kind × ℕ → Text
view_line v type = codes " " ++ (view_text type.0 type.1 ++ (codes " " ++ view_reg v))

unfoldable pub word_line : ℕ → Kind → Text
word_line r kind = codes " " ++ (kind_text kind ++ (codes " " ++ word_reg r))

abbrev pub view_lines : ℕ → List (Kind × ℕ) → List Text → Text
view_lines v [] names = []
view_lines v (type ∷ types) names =
    view_line v type ++ (line_end (first_name names) ++ view_lines (v + 1) types (other_names names))

abbrev pub word_lines : ℕ → List Kind → List Text → Text
word_lines r [] names = []
word_lines r (kind ∷ kinds) names =
    word_line r kind ++ (line_end (first_name names) ++ word_lines (r + 1) kinds (other_names names))

-- ---- kernels
unfoldable pub kernel_text : Kernel → Text
kernel_text kernel =
    head_text kernel.name kernel.params kernel.rets ++ (view_lines 0 kernel.views (names_of is_array kernel.params) ++
    (word_lines 0 kernel.regs (names_of is_scalar kernel.params) ++ (block_text kernel.body 0 ++ codes "}\n")))

-- the text of a printable program
abbrev pub program_text : LoopProgram → Text
program_text program =
    codes "// krn text 1\n#include \"krn.hpp\"\n" ++ flat_map kernel_text program.kernels

-- what taking the first name from those of parameters leaves
abbrev pub IsFirstName : List Text → Option Text → List Text → Type 0
IsFirstName names first others = (first_name names ≡ first) × (other_names names ≡ others)

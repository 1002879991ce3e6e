-- Which loop programs have a text: each name is one, each template is one tree, each operation on scalars has as many
-- operands as it takes, the parameters' registers have the parameters' kinds and ranks, and no statement stands in more
-- than 128 others.
use Rattle.std.specs.Prelude.{ℕ, ◌+◌, ◌==◌, ◌&&◌, ◌||◌, Bool, true, false, nat_le, List, [], ◌∷◌, length, map, Option}
use Rattle.std.specs.Prelude.{Some, None}
use Rattle.std.specs.Prelude.{filter_map}
use Rattle.std.specs.Char.{is_ascii_alphabetic, is_ascii_alphanumeric}
use Rattle.std.specs.List.{list_all}
use Rattle.krn_base.specs.declared.kind.Kind.{Kind}
use Rattle.krn_base.specs.declared.kind.ParamType.{ParamType}
use Rattle.krn_base.specs.declared.kind.ParamType.TheVariants.{Scalar, Flat, Strided}
use Rattle.eager_rules.specs.Types.{same_kind, same_type}
use Rattle.loop_prog.specs.Serial.{types_of_params}
use Rattle.loop_prog.specs.declared.program.Kernel.{Kernel}
use Rattle.loop_prog.specs.declared.program.LoopProgram.{LoopProgram}
use Rattle.loop_prog.specs.declared.program.Statement.{Statement}
use Rattle.loop_prog.specs.declared.program.Statement.TheOpen as l
use Rattle.loop_prog.specs.declared.program.Statement.TheFolds.{fold-Statement}
use Rattle.cpp_print.specs.Trees.{is_tree, tree_of}
use Rattle.cpp_print.specs.Words.{Text, operands_of}

-- a letter or `_`, then letters, digits and `_`
abbrev pub goes_on : ℕ → Bool
goes_on c = is_ascii_alphanumeric c || c == 95

abbrev pub is_name : Text → Bool
is_name [] = false
is_name (c ∷ rest) = (is_ascii_alphabetic c || c == 95) && list_all goes_on rest

-- by the number of statements that a statement stands in
abbrev pub AtDepth : Type 0
AtDepth = ℕ → Bool

abbrev pub all_printable : List AtDepth → AtDepth
all_printable body d = list_all (λ p. p d) body

abbrev pub operands_fit : {A : Type 0} → l.Statement-F A → Bool
operands_fit (l.Set to op args at) = length args == operands_of op
operands_fit _ = true

abbrev pub templates_are_trees : {A : Type 0} → l.Statement-F A → Bool
templates_are_trees (l.Nest to template at) = is_tree (tree_of template.steps)
templates_are_trees (l.Fold to join template at) = is_tree (tree_of template.steps)
templates_are_trees _ = true

abbrev pub blocks_printable : l.Statement-F AtDepth → AtDepth
blocks_printable (l.If cond part other) d = all_printable part d && all_printable other d
blocks_printable (l.For var lo hi by at body) d = all_printable body d
blocks_printable (l.ParFor var lo hi by at guard reductions privates body) d = all_printable body d
blocks_printable _ d = true

abbrev pub printable_step : l.Statement-F AtDepth → AtDepth
printable_step y d =
    nat_le d 128 && (operands_fit y && (templates_are_trees y && blocks_printable y (d + 1)))

abbrev pub is_printable_at : Statement → AtDepth
is_printable_at = fold-Statement AtDepth printable_step

abbrev pub block_printable : List Statement → AtDepth
block_printable body = all_printable (map is_printable_at body)

-- what is asked of the blocks of a statement
abbrev pub inner_printable : l.Statement-F Statement → AtDepth
inner_printable (l.If cond part other) d = block_printable part d && block_printable other d
inner_printable (l.For var lo hi by at body) d = block_printable body d
inner_printable (l.ParFor var lo hi by at guard reductions privates body) d = block_printable body d
inner_printable _ d = true

-- the kind and the rank of an array parameter
abbrev pub array_type : ParamType → Option (Kind × ℕ)
array_type (Scalar kind) = None
array_type (Flat kind n) = Some (kind, n)
array_type (Strided kind n) = Some (kind, n)

-- the array parameters' kinds and ranks are those of the first view registers
abbrev pub begins_with : List (Kind × ℕ) → List (Kind × ℕ) → Bool
begins_with [] views = true
begins_with (t ∷ types) [] = false
begins_with (t ∷ types) (v ∷ views) = same_type v t && begins_with types views

abbrev pub views_fit : List ParamType → List (Kind × ℕ) → Bool
views_fit types views = begins_with (filter_map array_type types) views

-- the scalar parameters' kinds are those of the first scalar registers
abbrev pub words_fit : List ParamType → List Kind → Bool
words_fit [] words = true
words_fit (Scalar kind ∷ types) (k ∷ words) = same_kind k kind && words_fit types words
words_fit (Scalar kind ∷ types) [] = false
words_fit (_ ∷ types) words = words_fit types words

abbrev pub names_fit : Kernel → Bool
names_fit kernel = is_name kernel.name && list_all (λ p. is_name p.0) kernel.params

abbrev pub registers_fit : Kernel → Bool
registers_fit kernel =
    views_fit (types_of_params kernel) kernel.views && words_fit (types_of_params kernel) kernel.regs

abbrev pub kernel_printable : Kernel → Bool
kernel_printable kernel = names_fit kernel && (registers_fit kernel && block_printable kernel.body 0)

abbrev pub is_printable : LoopProgram → Bool
is_printable program = list_all kernel_printable program.kernels

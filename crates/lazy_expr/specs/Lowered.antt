-- Parts of lowered statements, as the functions of the pass make them.
use Rattle.std.specs.Prelude.{ℕ, List, [], ◌∷◌, ◌++◌, slice_index_or}
use Rattle.krn_base.specs.declared.kind.Kind.TheVariants.{Int64}
use Rattle.krn_base.specs.declared.place.Loc.{Loc}
use Rattle.array_ops.specs.declared.operation.RedOp.{RedOp}
use Rattle.eager_rules.specs.Types.{Ty}
use Rattle.lazy_expr.specs.Plain.{fold_steps, join_of, closed, some_before, template}
use Rattle.loop_prog.specs.Templates.{leaves}
use Rattle.loop_prog.specs.declared.program.Statement.{Statement}
use Rattle.loop_prog.specs.declared.program.Statement.TheVariants as v
use Rattle.loop_prog.specs.declared.program.Statement.TheOpen as l
use Rattle.loop_prog.specs.declared.program.TemplateStep.{TemplateStep}
use Rattle.loop_prog.specs.declared.program.Test.TheVariants.{Fits}

-- the type of a name; one that isn't there is a scalar
abbrev pub type_in : List Ty → ℕ → Ty
type_in names name = slice_index_or names name (Int64, 0)

-- a test of the leaves of steps
abbrev pub checked : List TemplateStep → Loc → Statement
checked steps at = v.Check Fits (leaves steps) at

-- a reduction of a view register
abbrev pub reduced : ℕ → RedOp → ℕ → Loc → List Statement
reduced to op view at = some_before op view at ++ v.Fold to (join_of op) (template (fold_steps op view)) at ∷ []

-- what stands at the end of a block in tail position in place of its last statement
abbrev pub closing_in : Statement → l.Statement-F Statement → List Statement
closing_in last (l.If cond part other) = v.If cond (closed part) (closed other) ∷ []
closing_in last (l.Return values) = last ∷ []
closing_in last _ = last ∷ v.Return [] ∷ []

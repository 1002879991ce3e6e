-- The statements of a loop program: what each reads and binds by itself, and the list of all of them by which they are
-- numbered.
use Rattle.std.specs.Prelude.{List, [], ◌∷◌, ◌++◌, map}
use Rattle.std.specs.List.{flat_map}
use Rattle.eager_rules.specs.Works.{sub_operands}
use Rattle.eager_rules.specs.declared.program.Oper.{Oper}
use Rattle.eager_rules.specs.declared.program.Oper.TheVariants as oper
use Rattle.loop_prog.specs.declared.program.Back.{Back}
use Rattle.loop_prog.specs.declared.program.Back.TheVariants as back
use Rattle.loop_prog.specs.declared.program.Reg.{Reg}
use Rattle.loop_prog.specs.declared.program.Reg.TheVariants as reg
use Rattle.loop_prog.specs.declared.program.Statement.{Statement}
use Rattle.loop_prog.specs.declared.program.Statement.TheOpen as l
use Rattle.loop_prog.specs.declared.program.Statement.TheFolds.{para-Statement}
use Rattle.loop_prog.specs.declared.program.TemplateStep.{TemplateStep}
use Rattle.loop_prog.specs.declared.program.TemplateStep.TheVariants as step

-- the registers that operands name
abbrev pub oper_regs : Oper → List Reg
oper_regs (oper.Name r) = reg.Word r ∷ []
oper_regs _ = []

abbrev pub opers_regs : List Oper → List Reg
opers_regs xs = flat_map oper_regs xs

abbrev pub back_regs : Back → List Reg
back_regs (back.Word x) = oper_regs x
back_regs (back.View v) = reg.View v ∷ []

abbrev pub step_regs : TemplateStep → List Reg
step_regs (step.Leaf v) = reg.View v ∷ []
step_regs (step.Word x) = oper_regs x
step_regs _ = []

-- the registers that a statement reads before its blocks, in order; the view of an operation is read there
abbrev pub reads_of : {A : Type 0} → l.Statement-F A → List Reg
reads_of (l.Set to op args at) = opers_regs args
reads_of (l.Extent to of axis) = reg.View of ∷ []
reads_of (l.Get to of index at) = reg.View of ∷ opers_regs index
reads_of (l.Put of index value at) = reg.View of ∷ oper_regs value ++ opers_regs index
reads_of (l.ViewOf to of subs at) = reg.View of ∷ opers_regs (flat_map sub_operands subs)
reads_of (l.Flip to of) = reg.View of ∷ []
reads_of (l.Same to of) = reg.View of ∷ []
reads_of (l.Fresh to dims fill at) = opers_regs dims
reads_of (l.Like to views at) = map reg.View views
reads_of (l.Check test views at) = map reg.View views
reads_of (l.Nest to template at) = reg.View to ∷ flat_map step_regs template.steps
reads_of (l.Fold to join template at) = flat_map step_regs template.steps
reads_of (l.If cond part other) = oper_regs cond
reads_of (l.For var lo hi by at body) = opers_regs (lo ∷ hi ∷ by ∷ [])
reads_of (l.ParFor var lo hi by at guard reductions privates body) = opers_regs (lo ∷ hi ∷ by ∷ [])
reads_of (l.Release v) = []
reads_of (l.Return values) = flat_map back_regs values

-- the registers that a statement binds by itself, its blocks apart; a loop binds its variable
abbrev pub binds_of : {A : Type 0} → l.Statement-F A → List Reg
binds_of (l.Set to op args at) = reg.Word to ∷ []
binds_of (l.Extent to of axis) = reg.Word to ∷ []
binds_of (l.Get to of index at) = reg.Word to ∷ []
binds_of (l.ViewOf to of subs at) = reg.View to ∷ []
binds_of (l.Flip to of) = reg.View to ∷ []
binds_of (l.Same to of) = reg.View to ∷ []
binds_of (l.Fresh to dims fill at) = reg.View to ∷ []
binds_of (l.Like to views at) = reg.View to ∷ []
binds_of (l.Fold to join template at) = reg.Word to ∷ []
binds_of (l.For var lo hi by at body) = reg.Word var ∷ []
binds_of (l.ParFor var lo hi by at guard reductions privates body) = reg.Word var ∷ []
binds_of _ = []

-- what stands in the blocks of a statement
abbrev pub blocks_of : {A : Type 0} → l.Statement-F A → List A
blocks_of (l.If cond part other) = part ++ other
blocks_of (l.For var lo hi by at body) = body
blocks_of (l.ParFor var lo hi by at guard reductions privates body) = body
blocks_of _ = []

-- The statements of a block, those with blocks before those in their blocks and the first part of an `If` before the
-- second. A statement's number in its kernel is its place in this list.
abbrev pub with_inner : Statement × List Statement → List Statement
with_inner (statement, inner) = statement ∷ inner

abbrev pub inner_step : l.Statement-F (Statement × List Statement) → List Statement
inner_step y = flat_map with_inner (blocks_of y)

abbrev pub inner : Statement → List Statement
inner = para-Statement (List Statement) inner_step

abbrev pub statements : List Statement → List Statement
statements block = flat_map (λ statement. statement ∷ inner statement) block

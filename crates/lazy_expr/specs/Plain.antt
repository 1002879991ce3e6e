-- The plain form of an instance without own calls: each statement of the core becomes statements of the loop program,
-- in order. Each element operation has one nest, and each reduction one fold. An element operation tests the shapes of
-- its leaves, makes a new buffer like them and fills it by a nest; where its name is one of its own leaves this goes
-- through a new view register. (Which statements stand for which, and at which places they fault, is this project's own
-- rule.)
use Rattle.std.specs.Prelude.{ℕ, ◌+◌, ◌==◌, Bool, true, false, List, [], ◌∷◌, ◌++◌, map, length, slice_index_or}
use Rattle.std.specs.Prelude.{Option, Some, None}
use Rattle.std.specs.List.{list_any}
use Rattle.krn_base.specs.declared.kind.Kind.TheVariants.{Int64}
use Rattle.krn_base.specs.declared.operation.Join.{Join}
use Rattle.krn_base.specs.declared.operation.Join.TheVariants as joins
use Rattle.krn_base.specs.declared.operation.UnOp.TheVariants as un
use Rattle.krn_base.specs.declared.place.Loc.{Loc}
use Rattle.array_ops.specs.declared.operation.MapOp.{MapOp}
use Rattle.array_ops.specs.declared.operation.MapOp.TheVariants as map_op
use Rattle.array_ops.specs.declared.operation.RedOp.{RedOp}
use Rattle.array_ops.specs.declared.operation.RedOp.TheVariants as red
use Rattle.eager_rules.specs.Types.{Ty}
use Rattle.eager_rules.specs.declared.program.Core.{Core}
use Rattle.eager_rules.specs.declared.program.Core.TheOpen as c
use Rattle.eager_rules.specs.declared.program.Core.TheFolds.{fold-Core}
use Rattle.eager_rules.specs.declared.program.Instance.{Instance}
use Rattle.eager_rules.specs.declared.program.Oper.{Oper}
use Rattle.eager_rules.specs.declared.program.Oper.TheVariants as oper
use Rattle.lazy_expr.specs.Table.{back_of, number, oper_of, opers_of, register, sub_of, table_of, view_types}
use Rattle.lazy_expr.specs.Table.{word_kinds}
use Rattle.loop_prog.specs.Templates.{leaves}
use Rattle.loop_prog.specs.declared.guard.Guard.{Guard}
use Rattle.loop_prog.specs.declared.program.Kernel.{Kernel}
use Rattle.loop_prog.specs.declared.program.LoopProgram.{LoopProgram}
use Rattle.loop_prog.specs.declared.program.Reg.{Reg}
use Rattle.loop_prog.specs.declared.program.Reg.TheVariants as reg
use Rattle.loop_prog.specs.declared.program.Statement.{Statement}
use Rattle.loop_prog.specs.declared.program.Statement.TheVariants as v
use Rattle.loop_prog.specs.declared.program.Statement.TheOpen as l
use Rattle.loop_prog.specs.declared.program.Statement.TheFolds.{para-Statement, map-Statement}
use Rattle.loop_prog.specs.declared.program.Statement.TheViews.{roll-Statement}
use Rattle.loop_prog.specs.declared.program.Template.{Template}
use Rattle.loop_prog.specs.declared.program.TemplateStep.{TemplateStep}
use Rattle.loop_prog.specs.declared.program.TemplateStep.TheVariants as step
use Rattle.loop_prog.specs.declared.program.Test.TheVariants.{Fits, Filled}

-- What statements become behind so many view registers: statements of the loop program, and the types of the new view
-- registers that they use, in order.
pub record Lowered : Type 0 where
  pub body : List Statement
  pub fresh : List Ty

abbrev pub Lowering : Type 0
Lowering = ℕ → Lowered

abbrev pub in_turn : List Lowering → Lowering
in_turn [] k = record { body = []; fresh = [] }
in_turn (first ∷ rest) k = record {
  body = (first k).body ++ (in_turn rest (k + length (first k).fresh)).body;
  fresh = (first k).fresh ++ (in_turn rest (k + length (first k).fresh)).fresh;
}

-- statements that use no new register
abbrev pub only : List Statement → Lowering
only body k = record { body = body; fresh = [] }

abbrev pub one : Statement → Lowering
one statement = only (statement ∷ [])

-- ---- templates
abbrev pub leaf_or_word : Reg → TemplateStep
leaf_or_word (reg.Word r) = step.Word (oper.Name r)
leaf_or_word (reg.View v) = step.Leaf v

abbrev pub operand_step : List Reg → Oper → TemplateStep
operand_step table (oper.Int z) = step.Word (oper.Int z)
operand_step table (oper.Truth b) = step.Word (oper.Truth b)
operand_step table (oper.Name n) = leaf_or_word (register table n)

abbrev pub operation_step : MapOp → TemplateStep
operation_step (map_op.Bin op) = step.Bin op
operation_step (map_op.Un op) = step.Un op
operation_step map_op.Select = step.Select

-- an element operation: its operands in order, then the operation
abbrev pub map_steps : List Reg → MapOp → List Oper → List TemplateStep
map_steps table op args = map (operand_step table) args ++ operation_step op ∷ []

-- `any` and `all` test each element for a word other than 0
abbrev pub fold_steps : RedOp → ℕ → List TemplateStep
fold_steps red.Any view = step.Leaf view ∷ step.Un un.Test ∷ []
fold_steps red.All view = step.Leaf view ∷ step.Un un.Test ∷ []
fold_steps _ view = step.Leaf view ∷ []

abbrev pub join_of : RedOp → Join
join_of red.Sum = joins.Sum
join_of red.Prod = joins.Prod
join_of red.Min = joins.Min
join_of red.Max = joins.Max
join_of red.Any = joins.Or
join_of red.All = joins.Prod

-- the least or the greatest of no elements is none
abbrev pub some_before : RedOp → ℕ → Loc → List Statement
some_before red.Min view at = v.Check Filled (view ∷ []) at ∷ []
some_before red.Max view at = v.Check Filled (view ∷ []) at ∷ []
some_before _ view at = []

abbrev pub template : List TemplateStep → Template
template steps = record { steps = steps }

-- ---- statements
-- a new buffer for a view register, filled by a template
abbrev pub filled_like : ℕ → List TemplateStep → Loc → List Statement
filled_like view steps at = v.Like view (leaves steps) at ∷ v.Nest view (template steps) at ∷ []

-- an element operation to a name: by a new register where the name is one of its own operands
abbrev pub map_into : Bool → Ty → ℕ → List TemplateStep → Loc → Lowering
map_into false type to steps at k = record {
  body = v.Check Fits (leaves steps) at ∷ filled_like to steps at;
  fresh = [];
}
map_into true type to steps at k = record {
  body = v.Check Fits (leaves steps) at ∷ filled_like k steps at ++ v.Same to k ∷ [];
  fresh = type ∷ [];
}

abbrev pub names_it : ℕ → Oper → Bool
names_it to (oper.Name n) = n == to
names_it to _ = false

abbrev pub lower_map : List Ty → List Reg → ℕ → MapOp → List Oper → Loc → Lowering
lower_map names table to op args at =
    map_into (list_any (names_it to) args) (slice_index_or names to (Int64, 0)) (number table to)
    (map_steps table op args) at

-- blocks, the second behind the first
abbrev pub lower_if : Oper → List Lowering → List Lowering → Lowering
lower_if cond part other k = record {
  body = v.If cond (in_turn part k).body (in_turn other (k + length (in_turn part k).fresh)).body ∷ [];
  fresh = (in_turn part k).fresh ++ (in_turn other (k + length (in_turn part k).fresh)).fresh;
}

abbrev pub lower_for : (List Statement → Statement) → List Lowering → Lowering
lower_for loop body k = record { body = loop (in_turn body k).body ∷ []; fresh = (in_turn body k).fresh }

abbrev pub empty_guard : Guard
empty_guard = record { parts = [] }

abbrev pub reduction_of : List Reg → Join × ℕ → Join × ℕ
reduction_of table (join, n) = (join, number table n)

-- a loop, which is a parallel one under a directive, with an empty guard and no privates
abbrev pub loop_of : List Reg → ℕ → Oper → Oper → Oper → Loc → Option (List (Join × ℕ)) → List Statement → Statement
loop_of table var lo hi by at None body = v.For var lo hi by at body
loop_of table var lo hi by at (Some pairs) body =
    v.ParFor var lo hi by at empty_guard (map (reduction_of table) pairs) [] body

-- A statement, with what those of its blocks become in their place. An own call has no form here.
abbrev pub plain_step : List Ty → List Reg → c.Core-F Lowering → Lowering
plain_step names table (c.Word to op args at) = one (v.Set (number table to) op (opers_of table args) at)
plain_step names table (c.Extent to of axis) = one (v.Extent (number table to) (number table of) axis)
plain_step names table (c.Get to of index at) =
    one (v.Get (number table to) (number table of) (opers_of table index) at)
plain_step names table (c.Put of index value at) =
    one (v.Put (number table of) (opers_of table index) (oper_of table value) at)
plain_step names table (c.Pick to of subs at) =
    one (v.ViewOf (number table to) (number table of) (map (sub_of table) subs) at)
plain_step names table (c.Flip to of) = one (v.Flip (number table to) (number table of))
plain_step names table (c.Alias to of) = one (v.Same (number table to) (number table of))
plain_step names table (c.Fresh to dims fill at) = one (v.Fresh (number table to) (opers_of table dims) fill at)
plain_step names table (c.Map to op args at) = lower_map names table to op args at
plain_step names table (c.Reduce to op of at) =
    only (some_before op (number table of) at ++
    v.Fold (number table to) (join_of op) (template (fold_steps op (number table of))) at ∷ [])
plain_step names table (c.Store of value at) =
    one (v.Nest (number table of) (template (operand_step table value ∷ [])) at)
plain_step names table (c.Call to instance args) = only []
plain_step names table (c.If cond part other) = lower_if (oper_of table cond) part other
plain_step names table (c.For var lo hi by at omp body) =
    lower_for (loop_of table (number table var) (oper_of table lo) (oper_of table hi) (oper_of table by) at omp) body
plain_step names table (c.Return values) = one (v.Return (map (back_of table) values))

abbrev pub plain_of : List Ty → List Reg → Core → Lowering
plain_of names table = fold-Core Lowering (plain_step names table)

abbrev pub lowered : List Ty → List Core → Lowered
lowered names body = in_turn (map (plain_of names (table_of names)) body) (length (view_types names))

-- ---- the end of a kernel without value
-- A block in tail position that ends neither in a Return nor in an If gets a Return of nothing at its end; an empty one
-- is then that Return. A pair is a statement, and what closes a block that it ends.
abbrev pub Closing : Type 0
Closing = Statement × List Statement

abbrev pub close_pairs : List Closing → List Statement
close_pairs [] = v.Return [] ∷ []
close_pairs (p ∷ []) = p.1
close_pairs (p ∷ q ∷ rest) = p.0 ∷ close_pairs (q ∷ rest)

abbrev pub last_step : l.Statement-F Closing → List Statement
last_step (l.If cond part other) = v.If cond (close_pairs part) (close_pairs other) ∷ []
last_step (l.Return values) = v.Return values ∷ []
last_step y = roll-Statement (map-Statement Closing Statement (λ p. p.0) y) ∷ v.Return [] ∷ []

abbrev pub with_end : Statement → Closing
with_end statement = (statement, para-Statement (List Statement) last_step statement)

abbrev pub closed : List Statement → List Statement
closed body = close_pairs (map with_end body)

abbrev pub closed_for : List Ty → List Statement → List Statement
closed_for [] body = closed body
closed_for (t ∷ rets) body = body

-- ---- kernels and modules
abbrev pub plain_kernel : Instance → Kernel
plain_kernel f = record {
  name = f.name;
  params = f.params;
  regs = word_kinds f.names;
  views = view_types f.names ++ (lowered f.names f.body).fresh;
  rets = f.rets;
  body = closed_for f.rets (lowered f.names f.body).body;
}

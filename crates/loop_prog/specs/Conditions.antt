-- What one statement must be, rule by rule: its registers, their kinds and ranks, its template. (This project's own;
-- which operations take which kinds is NumPy's rule for int64 and bool_, as for the core.)
use Rattle.std.specs.Prelude.{ℕ, ◌+◌, ◌-◌, ◌==◌, ◌&&◌, ◌||◌, not, Bool, true, false, nat_lt, nat_le, if◌then◌else◌, max}
use Rattle.std.specs.Prelude.{List, [], ◌∷◌, ◌++◌, map, length, slice_index_or, Option, Some, None, ℤ}
use Rattle.std.specs.List.{flat_map, list_all}
use Rattle.krn_base.specs.declared.kind.Kind.{Kind}
use Rattle.krn_base.specs.declared.kind.Kind.TheVariants.{Int64, Bool as Boolean}
use Rattle.krn_base.specs.declared.operation.Join.{Join}
use Rattle.krn_base.specs.declared.operation.Join.TheVariants as joins
use Rattle.krn_base.specs.declared.operation.UnOp.{UnOp}
use Rattle.krn_base.specs.declared.operation.UnOp.TheVariants as un
use Rattle.array_ops.specs.declared.operation.Fill.{Fill}
use Rattle.array_ops.specs.declared.operation.Fill.TheVariants as fills
use Rattle.eager_rules.specs.Types.{Ty, same_kind, same_types, bin_kind, only, select_kind, may_store, removed}
use Rattle.eager_rules.specs.declared.program.CoreSub.{CoreSub}
use Rattle.eager_rules.specs.declared.program.Oper.{Oper}
use Rattle.eager_rules.specs.declared.program.Oper.TheVariants as oper
use Rattle.eager_rules.specs.declared.program.WordOp.{WordOp}
use Rattle.eager_rules.specs.declared.program.WordOp.TheVariants as word_op
use Rattle.loop_prog.specs.Statements.{reads_of, binds_of}
use Rattle.loop_prog.specs.Templates.{leaves}
use Rattle.loop_prog.specs.declared.guard.Axis.{Axis}
use Rattle.loop_prog.specs.declared.guard.Axis.TheVariants as axis
use Rattle.loop_prog.specs.declared.guard.Dims.{Dims}
use Rattle.loop_prog.specs.declared.guard.Form.{Form}
use Rattle.loop_prog.specs.declared.guard.GuardPart.{GuardPart}
use Rattle.loop_prog.specs.declared.guard.GuardPart.TheVariants as part
use Rattle.loop_prog.specs.declared.guard.Symbol.{Symbol}
use Rattle.loop_prog.specs.declared.guard.Symbol.TheVariants as symbol
use Rattle.loop_prog.specs.declared.program.Back.{Back}
use Rattle.loop_prog.specs.declared.program.Back.TheVariants as back
use Rattle.loop_prog.specs.declared.program.Kernel.{Kernel}
use Rattle.loop_prog.specs.declared.program.Reg.{Reg}
use Rattle.loop_prog.specs.declared.program.Reg.TheVariants as reg
use Rattle.loop_prog.specs.declared.program.Statement.TheOpen as l
use Rattle.loop_prog.specs.declared.program.TemplateStep.{TemplateStep}
use Rattle.loop_prog.specs.declared.program.TemplateStep.TheVariants as step

-- ---- registers
abbrev pub symbol_reg : ℤ × Symbol → Reg
symbol_reg (z, symbol.Reg r) = reg.Word r
symbol_reg (z, symbol.Extent v d) = reg.View v

abbrev pub form_regs : Form → List Reg
form_regs form = map symbol_reg form.terms

abbrev pub part_regs : Option Form → List Reg
part_regs None = []
part_regs (Some form) = form_regs form

abbrev pub axis_regs : Axis → List Reg
axis_regs (axis.Extent v d) = reg.View v ∷ []
axis_regs (axis.Count v d start stop by) = reg.View v ∷ part_regs start ++ (part_regs stop ++ part_regs by)

abbrev pub dims_regs : Dims → List Reg
dims_regs dims = flat_map axis_regs dims.axes

abbrev pub guard_regs : GuardPart → List Reg
guard_regs (part.Loop var lo hi by) = reg.Word var ∷ form_regs lo ++ form_regs hi
guard_regs (part.Apart a b) = reg.View a ∷ reg.View b ∷ []
guard_regs (part.Inside v d form) = reg.View v ∷ form_regs form
guard_regs (part.Fits shapes) = flat_map dims_regs shapes
guard_regs (part.Filled shapes) = flat_map dims_regs shapes
guard_regs (part.Into to from) = dims_regs to ++ flat_map dims_regs from

-- the registers that a statement names without reading or binding them
abbrev pub named_regs : {A : Type 0} → l.Statement-F A → List Reg
named_regs (l.Release v) = reg.View v ∷ []
named_regs (l.ParFor var lo hi by at guard reductions privates body) =
    flat_map guard_regs guard.parts ++ (map (λ p. reg.Word p.1) reductions ++ privates)
named_regs _ = []

abbrev pub is_there : Kernel → Reg → Bool
is_there kernel (reg.Word r) = nat_lt r (length kernel.regs)
is_there kernel (reg.View v) = nat_lt v (length kernel.views)

abbrev pub registers_fit : {A : Type 0} → Kernel → l.Statement-F A → Bool
registers_fit kernel y =
    list_all (is_there kernel) (reads_of y) &&
    (list_all (is_there kernel) (binds_of y) && list_all (is_there kernel) (named_regs y))

-- ---- kinds
abbrev pub word_kind : Kernel → ℕ → Kind
word_kind kernel r = slice_index_or kernel.regs r Int64

abbrev pub view_type : Kernel → ℕ → Ty
view_type kernel v = slice_index_or kernel.views v (Int64, 0)

abbrev pub oper_kind : Kernel → Oper → Kind
oper_kind kernel (oper.Int z) = Int64
oper_kind kernel (oper.Truth b) = Boolean
oper_kind kernel (oper.Name r) = word_kind kernel r

-- the kind that an operation on one word gives, whatever the exponent of a power
abbrev pub unary_kind : UnOp → Kind → Option Kind
unary_kind un.Neg a = only Int64 a
unary_kind un.Inv a = only Int64 a
unary_kind un.Abs a = only Int64 a
unary_kind (un.Pow k) a = only Int64 a
unary_kind un.Flip a = only Boolean a
unary_kind un.Test a = Some Boolean
unary_kind un.Copy a = Some a

-- the kind that a scalar operation gives; nothing for other operands or another number of them
abbrev pub set_kind : WordOp → List Kind → Option Kind
set_kind (word_op.Bin op) (a ∷ b ∷ []) = bin_kind op a b
set_kind (word_op.Un op) (a ∷ []) = unary_kind op a
set_kind word_op.Move (a ∷ []) = Some a
set_kind _ _ = None

abbrev pub is_kind : Option Kind → Kind → Bool
is_kind None kind = false
is_kind (Some a) kind = same_kind a kind

-- The kinds of a template's values so far, the latest first. `Wrong` is an operation that doesn't take its operands,
-- and `Short` one for which there are too few values.
pub data Stack : Type 0 where
  Kinds : List Kind → Stack
  Wrong : Stack
  Short : Stack

abbrev pub with_kind : Option Kind → List Kind → Stack
with_kind None stack = Wrong
with_kind (Some a) stack = Kinds (a ∷ stack)

abbrev pub push_kind : Kernel → TemplateStep → List Kind → Stack
push_kind kernel (step.Leaf v) stack = Kinds ((view_type kernel v).0 ∷ stack)
push_kind kernel (step.Word x) stack = Kinds (oper_kind kernel x ∷ stack)
push_kind kernel (step.Un op) (a ∷ stack) = with_kind (unary_kind op a) stack
push_kind kernel (step.Bin op) (b ∷ a ∷ stack) = with_kind (bin_kind op a b) stack
push_kind kernel step.Select (b ∷ a ∷ mask ∷ stack) = with_kind (select_kind mask a b) stack
push_kind kernel _ stack = Short

abbrev pub push_kinds : Kernel → Stack → List TemplateStep → Stack
push_kinds kernel Wrong steps = Wrong
push_kinds kernel Short steps = Short
push_kinds kernel (Kinds stack) [] = Kinds stack
push_kinds kernel (Kinds stack) (s ∷ steps) = push_kinds kernel (push_kind kernel s stack) steps

abbrev pub template_stack : Kernel → List TemplateStep → Stack
template_stack kernel steps = push_kinds kernel (Kinds []) steps

-- A template whose value a test of kinds takes. One that doesn't make exactly one value is no matter of kinds.
abbrev pub stack_takes : (Kind → Bool) → Stack → Bool
stack_takes test Wrong = false
stack_takes test Short = true
stack_takes test (Kinds (a ∷ [])) = test a
stack_takes test (Kinds _) = true

-- a join into a register of a kind
abbrev pub is_sum : Join → Bool
is_sum joins.Sum = true
is_sum _ = false

abbrev pub may_join : Join → Kind → Kind → Bool
may_join join Int64 value = true
may_join join Boolean value = not (is_sum join) && same_kind value Boolean

-- a template whose join a register of a kind takes
unfoldable pub fold_takes : Join → Kind → Stack → Bool
fold_takes join register stack = stack_takes (may_join join register) stack

abbrev pub is_count : Fill → Bool
is_count fills.Count = true
is_count _ = false

abbrev pub kinds_fit : {A : Type 0} → Kernel → l.Statement-F A → Bool
kinds_fit kernel (l.Set to op args at) = is_kind (set_kind op (map (oper_kind kernel) args)) (word_kind kernel to)
kinds_fit kernel (l.Extent to of d) = same_kind (word_kind kernel to) Int64
kinds_fit kernel (l.Get to of index at) = same_kind (word_kind kernel to) (view_type kernel of).0
kinds_fit kernel (l.Put of index value at) = may_store (view_type kernel of).0 (oper_kind kernel value)
kinds_fit kernel (l.ViewOf to of subs at) = same_kind (view_type kernel to).0 (view_type kernel of).0
kinds_fit kernel (l.Flip to of) = same_kind (view_type kernel to).0 (view_type kernel of).0
kinds_fit kernel (l.Same to of) = same_kind (view_type kernel to).0 (view_type kernel of).0
kinds_fit kernel (l.Fresh to dims fill at) = not (is_count fill) || same_kind (view_type kernel to).0 Int64
kinds_fit kernel (l.Nest to template at) =
    stack_takes (may_store (view_type kernel to).0) (template_stack kernel template.steps)
kinds_fit kernel (l.Fold to join template at) =
    fold_takes join (word_kind kernel to) (template_stack kernel template.steps)
kinds_fit kernel (l.If cond part other) = same_kind (oper_kind kernel cond) Boolean
kinds_fit kernel (l.For var lo hi by at body) = same_kind (word_kind kernel var) Int64
kinds_fit kernel (l.ParFor var lo hi by at guard reductions privates body) = same_kind (word_kind kernel var) Int64
kinds_fit kernel _ = true

-- ---- ranks
abbrev pub view_rank : Kernel → ℕ → ℕ
view_rank kernel v = (view_type kernel v).1

abbrev pub axis_fits : Option ℕ → ℕ → Bool
axis_fits None rank = true
axis_fits (Some d) rank = nat_lt d rank

-- subscripts of a view: no more than it has dimensions, of which they leave one, into a register of the rank that is
-- left
abbrev pub subs_fit : ℕ → ℕ → List CoreSub → Bool
subs_fit to of subs = nat_le (length subs) of && (nat_lt (removed subs) of && (to == of - removed subs))

abbrev pub greatest : List ℕ → ℕ
greatest [] = 0
greatest (n ∷ ns) = max n (greatest ns)

abbrev pub some_views : List ℕ → Bool
some_views [] = false
some_views (v ∷ views) = true

abbrev pub back_type : Kernel → Back → Ty
back_type kernel (back.Word x) = (oper_kind kernel x, 0)
back_type kernel (back.View v) = view_type kernel v

abbrev pub ranks_fit : {A : Type 0} → Kernel → l.Statement-F A → Bool
ranks_fit kernel (l.Extent to of d) = axis_fits d (view_rank kernel of)
ranks_fit kernel (l.Get to of index at) = length index == view_rank kernel of
ranks_fit kernel (l.Put of index value at) = length index == view_rank kernel of
ranks_fit kernel (l.ViewOf to of subs at) = subs_fit (view_rank kernel to) (view_rank kernel of) subs
ranks_fit kernel (l.Flip to of) = view_rank kernel to == view_rank kernel of
ranks_fit kernel (l.Same to of) = view_rank kernel to == view_rank kernel of
ranks_fit kernel (l.Fresh to dims fill at) =
    (view_rank kernel to == length dims) && (not (is_count fill) || (length dims == 1))
ranks_fit kernel (l.Like to views at) =
    some_views views && (view_rank kernel to == greatest (map (view_rank kernel) views))
ranks_fit kernel (l.Nest to template at) =
    list_all (λ v. nat_le (view_rank kernel v) (view_rank kernel to)) (leaves template.steps)
ranks_fit kernel (l.Return values) = same_types (map (back_type kernel) values) kernel.rets
ranks_fit kernel _ = true

-- ---- templates
-- how many values there are after steps; nothing where an operation finds too few
abbrev pub takes : TemplateStep → ℕ
takes (step.Un op) = 1
takes (step.Bin op) = 2
takes step.Select = 3
takes _ = 0

abbrev pub depth_after : List TemplateStep → ℕ → Option ℕ
depth_after [] n = Some n
depth_after (s ∷ steps) n = if nat_le (takes s) n then depth_after steps (n - takes s + 1) else None

abbrev pub is_one : Option ℕ → Bool
is_one None = false
is_one (Some n) = n == 1

abbrev pub small_power : UnOp → Bool
small_power (un.Pow k) = nat_le k 62
small_power _ = true

abbrev pub small_step : TemplateStep → Bool
small_step (step.Un op) = small_power op
small_step _ = true

abbrev pub small_word : WordOp → Bool
small_word (word_op.Un op) = small_power op
small_word _ = true

abbrev pub steps_fit : List TemplateStep → Bool
steps_fit steps = is_one (depth_after steps 0) && (list_all small_step steps && nat_le (length steps) 64)

abbrev pub templates_fit : {A : Type 0} → l.Statement-F A → Bool
templates_fit (l.Set to op args at) = small_word op
templates_fit (l.Nest to template at) = steps_fit template.steps
templates_fit (l.Fold to join template at) = some_views (leaves template.steps) && steps_fit template.steps
templates_fit _ = true

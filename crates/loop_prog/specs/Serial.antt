-- What a loop program does, one statement after another. A statement takes a state to a state and an end, by the
-- combinators of eager evaluation; where the core has the same statement, its work is the same function of the values
-- of its operands. A register that stands for nothing reads as 0, or as an array without a place; in a program that
-- meets the conditions none is read.
use Rattle.std.specs.Prelude.{ℕ, ◌+◌, ℤ, List, [], ◌∷◌, map, length, replicate, slice_get, slice_index_or}
use Rattle.std.specs.Prelude.{Option, Some, None}
use Rattle.krn_base.specs.declared.kind.Kind.{Kind}
use Rattle.krn_base.specs.declared.kind.Kind.TheVariants.{Int64}
use Rattle.krn_base.specs.declared.kind.ParamType.{ParamType}
use Rattle.krn_base.specs.declared.kind.ParamType.TheVariants.{Scalar}
use Rattle.array_ops.specs.Elements.{Bound, Unbound, WordOf}
use Rattle.eager_rules.specs.Blocks.{Meaning, End, GoesOn, Returned, Faulted, Stuck, then_do, in_order}
use Rattle.eager_rules.specs.Blocks.{loop_over, choice}
use Rattle.eager_rules.specs.Outcome.{buffers_of, finished}
use Rattle.eager_rules.specs.State.{bound_to}
use Rattle.eager_rules.specs.Works.{Done, Made, Failed, Blocked, Work, array_in, word_of, move_work, word_work}
use Rattle.eager_rules.specs.Works.{extent_work, get_work, put_work, pick_work, flip_work, fresh_work, range_values}
use Rattle.eager_rules.specs.Works.{sub_operands}
use Rattle.std.specs.List.{flat_map}
use Rattle.eager_rules.specs.declared.call.Call.{Call}
use Rattle.eager_rules.specs.declared.outcome.Counts.{Counts}
use Rattle.eager_rules.specs.declared.outcome.Outcome.{Outcome}
use Rattle.eager_rules.specs.declared.program.Oper.{Oper}
use Rattle.loop_prog.specs.Guards.{guard_holds}
use Rattle.loop_prog.specs.State.{State, back_value, bind, bind_all, count_loop, operand, unassigned, view}
use Rattle.loop_prog.specs.State.{with_buffers}
use Rattle.loop_prog.specs.State.{with_counts}
use Rattle.loop_prog.specs.Statements.{binds_of}
use Rattle.loop_prog.specs.Works.{check_work, fold_to, like_work, nest}
use Rattle.loop_prog.specs.declared.program.Kernel.{Kernel}
use Rattle.loop_prog.specs.declared.program.LoopProgram.{LoopProgram}
use Rattle.loop_prog.specs.declared.program.Reg.{Reg}
use Rattle.loop_prog.specs.declared.program.Reg.TheVariants as reg
use Rattle.loop_prog.specs.declared.program.Statement.{Statement}
use Rattle.loop_prog.specs.declared.program.Statement.TheOpen as l
use Rattle.loop_prog.specs.declared.program.Statement.TheFolds.{fold-Statement}

-- the state after work: its buffers, and its values in registers
abbrev pub finish : List Reg → Done → Meaning State
finish to (Made buffers values) t = (bind_all to values (with_buffers buffers t), GoesOn)
finish to (Failed buffers fault at) t = (with_buffers buffers t, Faulted fault at)
finish to (Blocked buffers) t = (with_buffers buffers t, Stuck)

-- what operands stand for
abbrev pub operands : State → List Oper → List Bound
operands t xs = map (operand t) xs

-- what the work of a statement is given, in order
abbrev pub values_of : {A : Type 0} → State → l.Statement-F A → List Bound
values_of t (l.Set to op args at) = operands t args
values_of t (l.Extent to of axis) = view t of ∷ []
values_of t (l.Get to of index at) = view t of ∷ operands t index
values_of t (l.Put of index value at) = view t of ∷ operand t value ∷ operands t index
values_of t (l.ViewOf to of subs at) = view t of ∷ operands t (flat_map sub_operands subs)
values_of t (l.Flip to of) = view t of ∷ []
values_of t (l.Same to of) = view t of ∷ []
values_of t (l.Fresh to dims fill at) = operands t dims
values_of t (l.Like to views at) = map (view t) views
values_of t (l.Check test views at) = map (view t) views
values_of t _ = []

-- the work of a statement that is no more than what it reads, its work and what it binds
abbrev pub work_of : {A : Type 0} → l.Statement-F A → Work
work_of (l.Set to op args at) = word_work op at
work_of (l.Extent to of axis) = extent_work axis
work_of (l.Get to of index at) = get_work at
work_of (l.Put of index value at) = put_work at
work_of (l.ViewOf to of subs at) = pick_work subs at
work_of (l.Flip to of) = flip_work
work_of (l.Same to of) = move_work
work_of (l.Fresh to dims fill at) = fresh_work fill at
work_of (l.Like to views at) = like_work at
work_of (l.Check test views at) = check_work test at
work_of _ = λ values buffers. Blocked buffers

abbrev pub step : {A : Type 0} → l.Statement-F A → Meaning State
step y t = finish (binds_of y) (work_of y (values_of t y) t.buffers) t

-- an operand as a word
abbrev pub word_at_operand : State → Oper → ℤ
word_at_operand t x = word_of (operand t x)

-- a loop's variable, bound to a number
abbrev pub set_variable : ℕ → ℤ → State → State
set_variable var z = bind (reg.Word var) (WordOf z)

-- the kind of a scalar register
abbrev pub kind_of : List Kind → ℕ → Kind
kind_of kinds r = slice_index_or kinds r Int64

-- A statement, with their meanings in place of the statements of its blocks. `kinds` are those of the kernel's scalar
-- registers. A parallel loop runs as it stands, is counted by its guard, and leaves its privates unassigned.
abbrev pub statement : List Kind → l.Statement-F (Meaning State) → Meaning State
statement kinds (l.Nest to template at) t = nest (array_in (view t to)) template.steps at t
statement kinds (l.Fold to join template at) t = fold_to to (kind_of kinds to) join template.steps at t
statement kinds (l.If cond part other) t = choice (word_at_operand t cond) (in_order part) (in_order other) t
statement kinds (l.For var lo hi by at body) t =
    loop_over (set_variable var) (in_order body) at
    (range_values (word_at_operand t lo) (word_at_operand t hi) (word_at_operand t by)) t
statement kinds (l.ParFor var lo hi by at guard reductions privates body) t =
    then_do (loop_over (set_variable var) (in_order body) at
    (range_values (word_at_operand t lo) (word_at_operand t hi) (word_at_operand t by))
    (with_counts (count_loop (guard_holds t guard) t.counts) t))
    (λ u. (unassigned privates u, GoesOn))
statement kinds (l.Release v) t = (bind (reg.View v) Unbound t, GoesOn)
statement kinds (l.Return values) t = (t, Returned (map (back_value t) values))
statement kinds y t = step y t

abbrev pub meaning : List Kind → Statement → Meaning State
meaning kinds = fold-Statement (Meaning State) (statement kinds)

abbrev pub block : List Kind → List Statement → Meaning State
block kinds body = in_order (map (meaning kinds) body)

-- the registers of parameters: the first scalar ones and the first view ones, each in order
abbrev pub param_regs : ℕ → ℕ → List ParamType → List Reg
param_regs words views [] = []
param_regs words views (Scalar kind ∷ types) = reg.Word words ∷ param_regs (words + 1) views types
param_regs words views (_ ∷ types) = reg.View views ∷ param_regs words (views + 1) types

abbrev pub types_of_params : Kernel → List ParamType
types_of_params kernel = map (λ p. p.1) kernel.params

abbrev pub no_counts : Counts
no_counts = record { nests = 0; temps = 0; parallel = 0; serial = 0 }

-- the state in which a call of a kernel begins: the parameters' registers stand for the arguments
abbrev pub entered : Kernel → Call → State
entered kernel call =
    bind_all (param_regs 0 0 (types_of_params kernel)) (map bound_to call.args)
    (record {
      words = replicate (length kernel.regs) Unbound;
      views = replicate (length kernel.views) Unbound;
      buffers = buffers_of call;
      counts = no_counts;
    })

abbrev pub ended : List (Kind × ℕ) → ℕ → State × End → Outcome × Counts
ended rets count (t, end) = (finished rets count t.buffers end, t.counts)

-- what a call of a kernel gives, and what it counts
abbrev pub kernel_outcome : Kernel → Call → Outcome × Counts
kernel_outcome kernel call =
    ended kernel.rets (length call.buffers) (block kernel.regs kernel.body (entered kernel call))

abbrev pub outcome_by : Call → Option Kernel → Outcome × Counts
outcome_by call None = (record { ret = []; buffers = buffers_of call; fault = None }, no_counts)
outcome_by call (Some kernel) = kernel_outcome kernel call

-- What a call of the kernel with this number gives, and what it counts.
abbrev pub serial : LoopProgram → ℕ → Call → Outcome × Counts
serial program kernel call = outcome_by call (slice_get program.kernels kernel)

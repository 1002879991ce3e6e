-- The walk through expressions and statements: what each form tests, and the core statements that it makes.
use Rattle.std.specs.Prelude.{ℕ, ℤ, zero, suc, pos, ◌+◌, ◌==◌, ◌&&◌, Bool, true, false, if◌then◌else◌, List, [], ◌∷◌}
use Rattle.std.specs.Prelude.{◌++◌, map, length, slice_get}
use Rattle.std.specs.Prelude.{Option, Some, None, Result, Ok, Err}
use Rattle.std.specs.List.{list_all}
use Rattle.krn_base.specs.declared.kind.Kind.{Kind}
use Rattle.krn_base.specs.declared.kind.Kind.TheVariants.{Int64, Bool as Boolean}
use Rattle.krn_base.specs.declared.operation.BinOp.{BinOp}
use Rattle.krn_base.specs.declared.operation.BinOp.TheVariants.{Add}
use Rattle.krn_base.specs.declared.operation.Join.{Join}
use Rattle.krn_base.specs.declared.operation.UnOp.{UnOp}
use Rattle.krn_base.specs.declared.operation.UnOp.TheVariants as un
use Rattle.krn_base.specs.declared.place.Loc.{Loc}
use Rattle.krn_base.specs.declared.refusal.Rule.TheVariants.{Types}
use Rattle.array_ops.specs.declared.operation.Fill.TheVariants.{Count}
use Rattle.array_ops.specs.declared.operation.MapOp.{MapOp}
use Rattle.array_ops.specs.declared.operation.MapOp.TheVariants as map_op
use Rattle.eager_rules.specs.Types.{Ty, same_type, same_types, is_array, put_fits, store_fits}
use Rattle.eager_rules.specs.declared.program.Core.{Core}
use Rattle.eager_rules.specs.declared.program.Core.TheVariants as core
use Rattle.eager_rules.specs.declared.program.CoreSub.{CoreSub}
use Rattle.eager_rules.specs.declared.program.CoreSub.TheVariants as sub
use Rattle.eager_rules.specs.declared.program.Oper.{Oper}
use Rattle.eager_rules.specs.declared.program.Oper.TheVariants as oper
use Rattle.eager_rules.specs.declared.program.WordOp.TheVariants as word_op
use Rattle.module_terms.specs.declared.term.Line.{Line}
use Rattle.module_terms.specs.declared.term.Line.TheOpen as l
use Rattle.module_terms.specs.declared.term.Line.TheFolds.{fold-Line}
use Rattle.module_terms.specs.declared.term.Loop.{Loop}
use Rattle.module_terms.specs.declared.term.Operation.{Operation}
use Rattle.module_terms.specs.declared.term.Operation.TheVariants as o
use Rattle.module_terms.specs.declared.term.Part.{Part}
use Rattle.module_terms.specs.declared.term.Step.{Step}
use Rattle.module_terms.specs.declared.term.Term.{Term}
use Rattle.module_terms.specs.declared.term.Part.TheOpen as t
use Rattle.module_terms.specs.declared.term.Part.TheFolds.{fold-Term, fold-Part, fold-Step}
use Rattle.py_parse.specs.declared.tree.Name.{Name as Named}
use Rattle.array_types.specs.Rows.{axis_of, row_of, binary_row, truth_row, number_row, pick_row, is_element, indices}
use Rattle.array_types.specs.Rows.{is_number_type}
use Rattle.array_types.specs.Walk.{Nothing, Outcome, Walk, and_then, ◌>>=◌, ◌>>◌, pure, refuse, need, test, find}
use Rattle.array_types.specs.Walk.{emit, bind, read, nowhere}
use Rattle.array_types.specs.declared.state.Range.{Range}
use Rattle.array_types.specs.declared.state.State.{State}
use Rattle.array_types.specs.declared.state.Target.{Target}
use Rattle.array_types.specs.declared.state.Target.TheVariants.{Own, Into}
use Rattle.array_types.specs.declared.state.Value.{Value}

-- what a call of a function with arguments of these types gives: the number of its instance, and the types of its
-- values
abbrev pub Given : Type 0
Given = ℕ × List Ty

abbrev pub Calls : Type 0
Calls = Named → List Ty → Walk Given

abbrev pub Made : Type 0
Made = Target → Walk Value

abbrev pub value : Oper → Ty → Value
value x t = record { oper = x; ty = t }

abbrev pub int : Ty
int = (Int64, 0)

abbrev pub types_in : List Value → List Ty
types_in values = map (λ v. v.ty) values

abbrev pub opers_in : List Value → List Oper
opers_in values = map (λ v. v.oper) values

abbrev pub number_of : Oper → ℕ
number_of (oper.Name n) = n
number_of _ = 0

abbrev pub array_of : List Value → ℕ
array_of [] = 0
array_of (v ∷ values) = number_of v.oper

abbrev pub zero_oper : Oper
zero_oper = oper.Int (pos 0)

-- ---- core statements

-- on scalars, or on arrays
abbrev pub binary_core : ℕ → ℕ → BinOp → List Oper → Loc → Core
binary_core zero to op args at = core.Word to (word_op.Bin op) args at
binary_core (suc r) to op args at = core.Map to (map_op.Bin op) args at

abbrev pub unary_core : ℕ → ℕ → UnOp → List Oper → Loc → Core
unary_core zero to op args at = core.Word to (word_op.Un op) args at
unary_core (suc r) to op args at = core.Map to (map_op.Un op) args at

abbrev pub move_core : ℕ → ℕ → Oper → Loc → Core
move_core zero to x at = core.Word to word_op.Move (x ∷ []) at
move_core (suc r) to x at = core.Alias to (number_of x)

abbrev pub invert : Kind → UnOp
invert Int64 = un.Inv
invert Boolean = un.Flip

-- the dimension that a literal names
abbrev pub literal_axis : List Value → ℤ → Option ℕ
literal_axis [] k = None
literal_axis (v ∷ vs) k = axis_of v.ty.1 k

-- the operation `op` of these operands with the result `r`, bound to `to`
abbrev pub operation_core : Operation → ℕ → List Value → Ty → Loc → Core
operation_core (o.Binary op) to vs r at = binary_core r.1 to op (opers_in vs) at
operation_core (o.Least op) to vs r at = core.Word to (word_op.Bin op) (opers_in vs) at
operation_core o.Minus to vs r at = unary_core r.1 to un.Neg (opers_in vs) at
operation_core o.Plus to vs r at = binary_core r.1 to Add (opers_in vs ++ zero_oper ∷ []) at
operation_core o.Invert to vs r at = unary_core r.1 to (invert r.0) (opers_in vs) at
operation_core o.Not to vs r at = core.Word to (word_op.Un un.Flip) (opers_in vs) at
operation_core (o.Power k) to vs r at = unary_core r.1 to (un.Pow k) (opers_in vs) at
operation_core o.Abs to vs r at = unary_core r.1 to un.Abs (opers_in vs) at
operation_core o.ToInt to vs r at = core.Word to (word_op.Bin Add) (opers_in vs ++ zero_oper ∷ []) at
operation_core o.Length to vs r at = core.Extent to (array_of vs) (Some 0)
operation_core o.Size to vs r at = core.Extent to (array_of vs) None
operation_core (o.Extent k) to vs r at = core.Extent to (array_of vs) (literal_axis vs k)
operation_core o.Transpose to vs r at = core.Flip to (array_of vs)
operation_core o.Copy to vs r at = core.Map to (map_op.Un un.Copy) (opers_in vs) at
operation_core o.Where to vs r at = core.Map to map_op.Select (opers_in vs) at
operation_core (o.Reduce op) to vs r at = core.Reduce to op (array_of vs) at
operation_core (o.Fresh fill kind) to vs r at = core.Fresh to (opers_in vs) fill at
operation_core (o.FreshLike fill kind shape) to vs r at = core.Fresh to (opers_in vs) fill at
operation_core o.Arange to vs r at = core.Fresh to (opers_in vs) Count at
operation_core o.None to vs r at = core.Return []

abbrev pub pick_core_by : Bool → ℕ → Value → List CoreSub → Loc → Core
pick_core_by true to a subs at = core.Get to (number_of a.oper) (indices subs) at
pick_core_by false to a subs at = core.Pick to (number_of a.oper) subs at

abbrev pub pick_core : ℕ → Value → List CoreSub → Loc → Core
pick_core to a subs at = pick_core_by (is_element a.ty subs) to a subs at

-- ---- steps

-- a statement that binds a name
abbrev pub bound_by : Target → Ty → (ℕ → Core) → Walk ℕ
bound_by target t make = bind target t >>= λ n. emit (make n) >> pure n

abbrev pub made : Target → Ty → (ℕ → Core) → Walk Value
made target t make = bound_by target t make >>= λ n. pure (value (oper.Name n) t)

-- an operand itself, or moved to the target where there is one
abbrev pub into : Target → Value → Walk Value
into Own v = pure v
into (Into text first eq) v = made (Into text first eq) v.ty (λ n. move_core v.ty.1 n v.oper eq)

-- operands from left to right
abbrev pub values_from : List Value → List Made → Walk (List Value)
values_from found [] = pure found
values_from found (x ∷ xs) = x Own >>= λ v. values_from (found ++ v ∷ []) xs

abbrev pub subs_from : List CoreSub → List (Walk CoreSub) → Walk (List CoreSub)
subs_from found [] = pure found
subs_from found (x ∷ xs) = x >>= λ p. subs_from (found ++ p ∷ []) xs

abbrev pub part_of : Option Made → Walk (Option Oper)
part_of None = pure None
part_of (Some x) = x Own >>= λ v. pure (Some v.oper)

-- the statements of a block
abbrev pub block_of : Walk Nothing → Walk (List Core)
block_of walk = λ s. and_then (walk (record s { out = [] })) (λ u t. Ok (t.out, record t { out = s.out }))

abbrev pub truth : Ty → Loc → Walk Ty
truth t at = need (truth_row t) at

-- the right operand of `and` or `or`, moved to the name of the left one
abbrev pub right_operand : Value → Loc → ℕ → Walk Nothing
right_operand v at n = truth v.ty at >>= λ r. emit (move_core 0 n v.oper nowhere)

abbrev pub right : Made → Loc → ℕ → Walk Nothing
right y at n = y Own >>= λ v. right_operand v at n

-- the name that an `and` or an `or` gives, with the left operand
abbrev pub left_operand : Value → Loc → Walk ℕ
left_operand a at = truth a.ty at >>= λ r. bound_by Own r (λ n. move_core 0 n a.oper nowhere)

abbrev pub branch : Bool → ℕ → List Core → Core
branch true n part = core.If (oper.Name n) part []
branch false n part = core.If (oper.Name n) [] part

-- one `and` or `or`
abbrev pub joined : Bool → Loc → Made → Value → Walk Value
joined both at y a =
    left_operand a at >>= λ n. block_of (right y at n) >>= λ part. emit (branch both n part) >>
    pure (value (oper.Name n) (Boolean, 0))

abbrev pub chained : Bool → List (Loc × Made) → Value → Walk Value
chained both [] a = pure a
chained both (link ∷ rest) a = joined both link.0 link.1 a >>= λ v. chained both rest v

-- the extents of an array, each with a name
abbrev pub extents_from : List Value → ℕ → ℕ → ℕ → Walk (List Value)
extents_from found of axis zero = pure found
extents_from found of axis (suc more) =
    made Own int (λ n. core.Extent n of (Some axis)) >>= λ v. extents_from (found ++ v ∷ []) of (axis + 1) more

-- the operands of an operation's own statement
abbrev pub prepared : Operation → List Value → Ty → Walk (List Value)
prepared (o.FreshLike fill kind shape) vs r = extents_from [] (array_of vs) 0 r.1
prepared _ vs r = pure vs

-- the place of an operation without a row: that of `shape` where a new array has one
abbrev pub tested_at : Operation → Loc → Loc
tested_at (o.FreshLike fill kind shape) at = shape
tested_at _ at = at

abbrev pub applied : Operation → Loc → List Value → Target → Walk Value
applied op at vs target =
    need (row_of op (types_in vs)) (tested_at op at) >>= λ r. prepared op vs r >>=
    λ args. made target r (λ n. operation_core op n args r at)

-- the type of an array with subscripts
unfoldable pub row_at : Value → List CoreSub → Loc → Walk Ty
row_at a subs at = λ s. need (pick_row s.types a.ty subs) at s

abbrev pub picked : Target → Value → List CoreSub → Loc → Walk Value
picked target a subs at =
    row_at a subs at >>= λ r. made target r (λ n. pick_core n a subs at)

-- the type of a call's value
abbrev pub only_type : List Ty → Option Ty
only_type (t ∷ []) = Some t
only_type _ = None

abbrev pub call_value : Given → Target → Loc → List Value → Walk Value
call_value g target at vs = need (only_type g.1) at >>= λ r. made target r (λ n. core.Call (n ∷ []) g.0 (opers_in vs))

-- ---- expressions

-- what a step makes of the value before it
abbrev pub Follow : Type 0
Follow = Value → Made

abbrev pub part_step : t.Part-F (Walk CoreSub) Follow Made → Walk CoreSub
part_step (t.Part-F.At x) = x Own >>= λ v. pure (sub.At v.oper)
part_step (t.Part-F.Cut start stop step) =
    part_of start >>= λ a. part_of stop >>= λ b. part_of step >>= λ c. pure (sub.Cut a b c)

abbrev pub step_step : t.Step-F (Walk CoreSub) Follow Made → Follow
step_step (t.Step-F.Operate op at args) a target = values_from (a ∷ []) args >>= λ vs. applied op at vs target
step_step (t.Step-F.Pick at parts) a target = subs_from [] parts >>= λ subs. picked target a subs at

-- steps from the left, each value with a name of its own
abbrev pub followed : List Follow → Value → Walk Value
followed [] a = pure a
followed (step ∷ rest) a = step a Own >>= λ v. followed rest v

abbrev pub term_step : Calls → t.Term-F (Walk CoreSub) Follow Made → Made
term_step calls (t.Term-F.Name name) target = read name >>= into target
term_step calls (t.Term-F.Int z) target = into target (value (oper.Int z) int)
term_step calls (t.Term-F.Truth b) target = into target (value (oper.Truth b) (Boolean, 0))
term_step calls (t.Term-F.Apply op at args) target = values_from [] args >>= λ vs. applied op at vs target
term_step calls (t.Term-F.Logic both x rest) target = x Own >>= λ a. chained both rest a >>= into target
term_step calls (t.Term-F.Steps x before last) target = x Own >>= λ a. followed before a >>= λ v. last v target
term_step calls (t.Term-F.Call name args) target = values_from [] args >>= λ vs. calls name (types_in vs) >>= λ g.
    call_value g target name.loc vs

abbrev pub term : Calls → Term → Made
term calls = fold-Term (Walk CoreSub) Follow Made part_step step_step (term_step calls)

-- the links of an `and` or an `or`
abbrev pub link_of : Calls → Loc × Term → Loc × Made
link_of calls link = (link.0, term calls link.1)

abbrev pub links : Calls → Bool → List (Loc × Term) → Value → Walk Value
links calls both rest a = chained both (map (link_of calls) rest) a

abbrev pub part : Calls → Part → Walk CoreSub
part calls = fold-Part (Walk CoreSub) Follow Made part_step step_step (term_step calls)

abbrev pub step : Calls → Step → Follow
step calls = fold-Step (Walk CoreSub) Follow Made part_step step_step (term_step calls)

abbrev pub steps : Calls → List Step → Value → Walk Value
steps calls list a = followed (map (step calls) list) a

abbrev pub bound : Calls → Option Term → Walk (Option Oper)
bound calls None = pure None
bound calls (Some x) = term calls x Own >>= λ v. pure (Some v.oper)

abbrev pub values_behind : Calls → List Value → List Term → Walk (List Value)
values_behind calls found args = values_from found (map (term calls) args)

abbrev pub values : Calls → List Term → Walk (List Value)
values calls args = values_behind calls [] args

abbrev pub subscripts : Calls → List Part → Walk (List CoreSub)
subscripts calls parts = subs_from [] (map (part calls) parts)

-- ---- statements

-- the types of a `return` are those of the first one
abbrev pub returned_by : Option (List Ty) → List Ty → Loc → Walk Nothing
returned_by None types at = λ s. Ok (tt, record s { rets = Some types })
returned_by (Some first) types at = test (same_types types first) at

unfoldable pub returned : List Value → Loc → Walk Nothing
returned vs at = (λ s. returned_by s.rets (types_in vs) at s) >> emit (core.Return (opers_in vs))

-- a store into an array, or into one element
abbrev pub put_core : Value → List CoreSub → Loc → Value → Loc → Walk Nothing
put_core a subs bracket v eq = test (put_fits a.ty v.ty) eq >> emit (core.Put (number_of a.oper)
    (indices subs) v.oper bracket)

abbrev pub store_core : Value → Value → Loc → Walk Nothing
store_core a v eq = test (store_fits a.ty v.ty) eq >> emit (core.Store (number_of a.oper) v.oper eq)

abbrev pub stored_by : Bool → Value → List CoreSub → Loc → Value → Loc → Walk Nothing
stored_by true a subs bracket v eq =
    row_at a subs bracket >>= λ r. put_core a subs bracket v eq
stored_by false a subs bracket v eq = picked Own a subs bracket >>= λ view. store_core view v eq

-- what was read at the subscripts, with a value by an operator
abbrev pub updated_by : Bool → Value → List CoreSub → Loc → Value → Value → Loc → Walk Nothing
updated_by true a subs bracket old v at = put_core a subs bracket v at
updated_by false a subs bracket old v at = store_core old v at

abbrev pub binary : Target → BinOp → Value → Value → Loc → Walk Value
binary target op a b at =
    need (binary_row op a.ty b.ty) at >>= λ r. made target r (λ n. binary_core r.1 n op (a.oper ∷ b.oper ∷ []) at)

abbrev pub augmented_by : Bool → Named → BinOp → Loc → Value → Value → Walk Nothing
augmented_by true name op at a v = binary Own op a v at >>= λ u. store_core a u at
augmented_by false name op at a v = binary (Into name.text name.loc at) op a v at >> pure tt

-- the arguments of a range: the absent ones are 0 and 1
abbrev pub range_by : List Oper → Option Range
range_by (hi ∷ []) = Some (record { lo = oper.Int (pos 0); hi = hi; step = oper.Int (pos 1) })
range_by (lo ∷ hi ∷ []) = Some (record { lo = lo; hi = hi; step = oper.Int (pos 1) })
range_by (lo ∷ hi ∷ step ∷ []) = Some (record { lo = lo; hi = hi; step = step })
range_by _ = None

abbrev pub range_of : List Value → Option Range
range_of vs = if list_all is_number_type (types_in vs) then range_by (opers_in vs) else None

-- a reduction's name is a scalar int: at once if it has a type, else as soon as it has one
abbrev pub int_name : Option Ty → Loc → Walk Nothing
int_name None at = refuse Types at
int_name (Some t) at = test (same_type t int) at

abbrev pub int_if_typed : Option ℕ → Loc → Walk Nothing
int_if_typed None at = pure tt
int_if_typed (Some n) at = λ s. int_name (slice_get s.types n) at s

-- the name waits for its number: its place among those that wait
abbrev pub wait : List ℕ → Loc → Walk ℕ
wait text at = λ s.
    Ok (length s.places, record s { awaited = s.awaited ++ (text, length s.places) ∷ []; places = s.places ++ at ∷ [] })

abbrev pub expected_one : Named → Loc → Walk ℕ
expected_one name at = (λ s. int_if_typed (find name.text s.known) at s) >> wait name.text at

abbrev pub expected : Loc → List (Join × ℕ) → List (Join × Named) → Walk (List (Join × ℕ))
expected at found [] = pure found
expected at found (r ∷ rest) = expected_one r.1 at >>= λ i. expected at (found ++ (r.0, i) ∷ []) rest

-- the reductions of a loop, each by the place of its name among those that wait
abbrev pub before_loop : Option (List (Join × Named)) → Loc → Walk (Option (List (Join × ℕ)))
before_loop None at = pure None
before_loop (Some rs) at = expected at [] rs >>= λ found. pure (Some found)

abbrev pub loop : Calls → Loop → Walk Nothing → Walk Nothing
loop calls head body =
    values calls head.args >>= λ vs. need (range_of vs) head.at >>= λ range. before_loop head.omp head.at >>= λ omp.
    bind (Into head.var.text head.var.loc head.at) int >>= λ n. block_of body >>= λ part.
    emit (core.For n range.lo range.hi range.step head.at omp part)

abbrev pub in_order : List (Walk Nothing) → Walk Nothing
in_order [] = pure tt
in_order (first ∷ rest) = first >> in_order rest

abbrev pub line_step : Calls → l.Line-F (Walk Nothing) → Walk Nothing
line_step calls (l.Return at args) = values calls args >>= λ vs. returned vs at
line_step calls (l.Alone name args) =
    values calls args >>= λ vs. calls name (types_in vs) >>= λ g. emit (core.Call [] g.0 (opers_in vs))
line_step calls (l.Assign name eq x) = term calls x (Into name.text name.loc eq) >> pure tt
line_step calls (l.Store x bracket parts eq y) =
    term calls y Own >>= λ v. term calls x Own >>= λ a. subscripts calls parts >>= λ subs.
    stored_by (is_element a.ty subs) a subs bracket v eq
line_step calls (l.AugmentName name op at y) =
    read name >>= λ a. term calls y Own >>= λ v. augmented_by (is_array a.ty) name op at a v
line_step calls (l.AugmentPick x bracket parts op at y) =
    term calls x Own >>= λ a. subscripts calls parts >>= λ subs. picked Own a subs bracket >>= λ old.
    term calls y Own >>= λ v. binary Own op old v at >>= λ u. updated_by (is_element a.ty subs) a subs bracket old u at
line_step calls (l.If at cond part other) =
    term calls cond Own >>= λ c. truth c.ty at >>= λ r. block_of (in_order part) >>=
    λ a. block_of (in_order other) >>= λ b.
    emit (core.If c.oper a b)
line_step calls (l.For head body) = loop calls head (in_order body)

unfoldable pub line : Calls → Line → Walk Nothing
line calls = fold-Line (Walk Nothing) (line_step calls)

abbrev pub block : Calls → List Line → Walk Nothing
block calls body = in_order (map (line calls) body)

-- Which operands each operation of a text takes, and the type of what it gives. A type is a kind and a rank; rank 0
-- means a scalar. (The NumPy reference's rules for int64 and bool_; that arithmetic between two bools is refused is
-- this project's own.)
use Rattle.std.specs.Prelude.{ℕ, zero, suc, ℤ, pos, negsuc, ◌+◌, ◌-◌, ◌==◌, ◌&&◌, not, Bool, true, false, nat_lt}
use Rattle.std.specs.Prelude.{nat_le, if◌then◌else◌, max}
use Rattle.std.specs.Prelude.{List, [], ◌∷◌, length, map, Option, Some, None}
use Rattle.std.specs.List.{list_all, flat_map}
use Rattle.krn_base.specs.declared.kind.Kind.{Kind}
use Rattle.krn_base.specs.declared.kind.Kind.TheVariants.{Int64, Bool as Boolean}
use Rattle.krn_base.specs.declared.operation.BinOp.{BinOp}
use Rattle.krn_base.specs.declared.operation.UnOp.{UnOp}
use Rattle.krn_base.specs.declared.operation.UnOp.TheVariants.{Pow}
use Rattle.eager_rules.specs.Types.{Ty, is_array, bin_kind, un_kind, only, with_rank, with_array_rank, select_kind}
use Rattle.eager_rules.specs.Types.{reduce_type}
use Rattle.eager_rules.specs.Types.{sub_fits, is_index, removed, pick_type}
use Rattle.eager_rules.specs.declared.program.CoreSub.{CoreSub}
use Rattle.eager_rules.specs.declared.program.CoreSub.TheVariants as sub
use Rattle.eager_rules.specs.declared.program.Oper.{Oper}
use Rattle.module_terms.specs.declared.term.Operation.{Operation}
use Rattle.module_terms.specs.declared.term.Operation.TheVariants as o

-- operands by their number
abbrev pub single : List Ty → Option Ty
single (a ∷ []) = Some a
single _ = None

abbrev pub pair : List Ty → Option (Ty × Ty)
pair (a ∷ b ∷ []) = Some (a, b)
pair _ = None

abbrev pub triple : List Ty → Option (Ty × Ty × Ty)
triple (a ∷ b ∷ c ∷ []) = Some (a, b, c)
triple _ = None

abbrev pub one : (Ty → Option Ty) → Option Ty → Option Ty
one row None = None
one row (Some a) = row a

abbrev pub two : (Ty → Ty → Option Ty) → Option (Ty × Ty) → Option Ty
two row None = None
two row (Some p) = row p.0 p.1

abbrev pub three : (Ty → Ty → Ty → Option Ty) → Option (Ty × Ty × Ty) → Option Ty
three row None = None
three row (Some p) = row p.0 p.1 p.2

-- an operator, on operands of which the greatest rank is the result's
abbrev pub binary_row : BinOp → Ty → Ty → Option Ty
binary_row op a b = with_rank (max a.1 b.1) (bin_kind op a.0 b.0)

abbrev pub unary_row : UnOp → Ty → Option Ty
unary_row op a = with_rank a.1 (un_kind op a.0)

-- `-x`, `+x` and `abs(x)`
abbrev pub signed_row : Ty → Option Ty
signed_row a = with_rank a.1 (only Int64 a.0)

-- the built-in `min` and `max`
abbrev pub least_row : Ty → Ty → Option Ty
least_row (Int64, zero) (Int64, zero) = Some (Int64, 0)
least_row _ _ = None

-- `~`: an int, or an array of bools
abbrev pub invert_row : Ty → Option Ty
invert_row (Int64, rank) = Some (Int64, rank)
invert_row (Boolean, zero) = None
invert_row (Boolean, suc r) = Some (Boolean, suc r)

-- what is asked for a truth value: a scalar bool
abbrev pub truth_row : Ty → Option Ty
truth_row (Boolean, zero) = Some (Boolean, 0)
truth_row _ = None

-- a scalar int: a subscript, a dimension, an argument of a range
abbrev pub number_row : Ty → Option Ty
number_row (Int64, zero) = Some (Int64, 0)
number_row _ = None

abbrev pub scalar_row : Ty → Option Ty
scalar_row (kind, zero) = Some (Int64, 0)
scalar_row (kind, suc r) = None

-- an operation on an array
abbrev pub array_row : Ty → Option Ty
array_row (kind, zero) = None
array_row (kind, suc r) = Some (kind, suc r)

abbrev pub number_of_array : Ty → Option Ty
number_of_array (kind, zero) = None
number_of_array (kind, suc r) = Some (Int64, 0)

-- the dimension that a literal names: a negative one counts from the last
abbrev pub axis_of : ℕ → ℤ → Option ℕ
axis_of rank (pos k) = if nat_lt k rank then Some k else None
axis_of rank (negsuc k) = if nat_lt k rank then Some (rank - (k + 1)) else None

abbrev pub if_axis : Option ℕ → Option Ty
if_axis None = None
if_axis (Some axis) = Some (Int64, 0)

abbrev pub where_row : Ty → Ty → Ty → Option Ty
where_row c a b = with_array_rank (max c.1 (max a.1 b.1)) (select_kind c.0 a.0 b.0)

abbrev pub is_number_type : Ty → Bool
is_number_type (Int64, zero) = true
is_number_type _ = false

-- a new array by its dimensions, one to four of them
abbrev pub fresh_row : Kind → List Ty → Option Ty
fresh_row kind dims =
    if list_all is_number_type dims then
    (if nat_lt 0 (length dims) && nat_le (length dims) 4 then Some (kind, length dims) else None)
    else None

abbrev pub like_row : Kind → Ty → Option Ty
like_row kind (other, zero) = None
like_row kind (other, suc r) = Some (kind, suc r)

abbrev pub counting_row : Ty → Option Ty
counting_row (Int64, zero) = Some (Int64, 1)
counting_row _ = None

-- an operation on one operand
abbrev pub unary_operation : Operation → Ty → Option Ty
unary_operation o.Minus a = signed_row a
unary_operation o.Plus a = signed_row a
unary_operation o.Abs a = signed_row a
unary_operation o.Invert a = invert_row a
unary_operation o.Not a = truth_row a
unary_operation (o.Power k) a = unary_row (Pow k) a
unary_operation o.ToInt a = scalar_row a
unary_operation o.Length a = number_of_array a
unary_operation o.Size a = number_of_array a
unary_operation (o.Extent k) a = if_axis (axis_of a.1 k)
unary_operation o.Transpose a = array_row a
unary_operation o.Copy a = array_row a
unary_operation (o.Reduce op) a = reduce_type op a
unary_operation (o.FreshLike fill kind shape) a = like_row kind a
unary_operation o.Arange a = counting_row a
unary_operation _ a = None

-- the row of an operation for operands of these types, if it has one
abbrev pub row_of : Operation → List Ty → Option Ty
row_of (o.Binary op) ts = two (binary_row op) (pair ts)
row_of (o.Least op) ts = two least_row (pair ts)
row_of o.Where ts = three where_row (triple ts)
row_of (o.Fresh fill kind) ts = fresh_row kind ts
row_of op ts = one (unary_operation op) (single ts)

-- as many integer subscripts as the array has dimensions: one element
abbrev pub is_element : Ty → List CoreSub → Bool
is_element t subs = (is_array t && (removed subs == length subs)) && (length subs == t.1)

-- an array with subscripts, under a table of the names' types: one element, or a view
unfoldable pub pick_row : List Ty → Ty → List CoreSub → Option Ty
pick_row names t subs =
    if list_all (sub_fits names) subs then (if is_element t subs then Some (t.0, 0) else pick_type t subs) else None

-- the integers among subscripts
abbrev pub index_of : CoreSub → List Oper
index_of (sub.At x) = x ∷ []
index_of (sub.Cut start stop step) = []

abbrev pub indices : List CoreSub → List Oper
indices subs = flat_map index_of subs

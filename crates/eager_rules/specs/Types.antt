-- Types of values, and which operands each operation takes. A type is a kind and a rank; rank 0 means a scalar. A
-- bool among ints counts as 0 or 1. (The NumPy reference's rules for int64 and bool_; that arithmetic between two
-- bools is refused, and a store of an int into a bool array, is this project's own.)
use Rattle.std.specs.Prelude.{ℕ, zero, suc, ◌-◌, ◌==◌, ◌&&◌, not, Bool, true, false, nat_lt, nat_le, if◌then◌else◌, max}
use Rattle.std.specs.Prelude.{List, [], ◌∷◌, length, slice_get, Option, Some, None}
use Rattle.std.specs.List.{count_by}
use Rattle.krn_base.specs.declared.kind.Kind.{Kind}
use Rattle.krn_base.specs.declared.kind.Kind.TheVariants.{Int64, Bool as Boolean}
use Rattle.krn_base.specs.declared.kind.ParamType.{ParamType}
use Rattle.krn_base.specs.declared.kind.ParamType.TheVariants.{Scalar, Flat, Strided}
use Rattle.krn_base.specs.declared.operation.BinOp.{BinOp}
use Rattle.krn_base.specs.declared.operation.BinOp.TheVariants as bin
use Rattle.krn_base.specs.declared.operation.UnOp.{UnOp}
use Rattle.krn_base.specs.declared.operation.UnOp.TheVariants as un
use Rattle.array_ops.specs.declared.operation.Fill.{Fill}
use Rattle.array_ops.specs.declared.operation.Fill.TheVariants as fills
use Rattle.array_ops.specs.declared.operation.MapOp.{MapOp}
use Rattle.array_ops.specs.declared.operation.MapOp.TheVariants as map_op
use Rattle.array_ops.specs.declared.operation.RedOp.{RedOp}
use Rattle.array_ops.specs.declared.operation.RedOp.TheVariants as red
use Rattle.eager_rules.specs.declared.program.CoreSub.{CoreSub}
use Rattle.eager_rules.specs.declared.program.CoreSub.TheVariants as sub
use Rattle.eager_rules.specs.declared.program.Oper.{Oper}
use Rattle.eager_rules.specs.declared.program.Oper.TheVariants as oper
use Rattle.eager_rules.specs.declared.program.WordOp.{WordOp}
use Rattle.eager_rules.specs.declared.program.WordOp.TheVariants as word_op

abbrev pub Ty : Type 0
Ty = Kind × ℕ

abbrev pub same_kind : Kind → Kind → Bool
same_kind Int64 Int64 = true
same_kind Boolean Boolean = true
same_kind _ _ = false

abbrev pub same_type : Ty → Ty → Bool
same_type a b = same_kind a.0 b.0 && (a.1 == b.1)

abbrev pub same_types : List Ty → List Ty → Bool
same_types [] [] = true
same_types (t ∷ ts) (u ∷ us) = same_type t u && same_types ts us
same_types _ _ = false

abbrev pub is_scalar : Ty → Bool
is_scalar t = t.1 == 0

abbrev pub is_array : Ty → Bool
is_array t = not (t.1 == 0)

-- the type of a parameter's values
abbrev pub type_of_param : ParamType → Ty
type_of_param (Scalar kind) = (kind, 0)
type_of_param (Flat kind rank) = (kind, rank)
type_of_param (Strided kind rank) = (kind, rank)

-- the type of an operand under a table of the names' types
abbrev pub type_of : List Ty → Oper → Option Ty
type_of names (oper.Int z) = Some (Int64, 0)
type_of names (oper.Truth b) = Some (Boolean, 0)
type_of names (oper.Name name) = slice_get names name

-- the types of operands, where each has one
abbrev pub add_type : Option Ty → Option (List Ty) → Option (List Ty)
add_type (Some t) (Some ts) = Some (t ∷ ts)
add_type _ _ = None

abbrev pub types_of : List Ty → List Oper → Option (List Ty)
types_of names [] = Some []
types_of names (x ∷ xs) = add_type (type_of names x) (types_of names xs)

-- the result's kind: at least one Int64, and Int64
abbrev pub arithmetic : Kind → Kind → Option Kind
arithmetic Boolean Boolean = None
arithmetic _ _ = Some Int64

-- Bool where both are Bool, else Int64
abbrev pub joint : Kind → Kind → Kind
joint Boolean Boolean = Boolean
joint _ _ = Int64

abbrev pub bin_kind : BinOp → Kind → Kind → Option Kind
bin_kind bin.Add a b = arithmetic a b
bin_kind bin.Sub a b = arithmetic a b
bin_kind bin.Mul a b = arithmetic a b
bin_kind bin.FloorDiv a b = arithmetic a b
bin_kind bin.Mod a b = arithmetic a b
bin_kind bin.Shl a b = arithmetic a b
bin_kind bin.Shr a b = arithmetic a b
bin_kind bin.And a b = Some (joint a b)
bin_kind bin.Or a b = Some (joint a b)
bin_kind bin.Xor a b = Some (joint a b)
bin_kind bin.Min a b = Some (joint a b)
bin_kind bin.Max a b = Some (joint a b)
bin_kind bin.Eq a b = Some Boolean
bin_kind bin.Ne a b = Some Boolean
bin_kind bin.Lt a b = Some Boolean
bin_kind bin.Le a b = Some Boolean
bin_kind bin.Gt a b = Some Boolean
bin_kind bin.Ge a b = Some Boolean

abbrev pub only : Kind → Kind → Option Kind
only Int64 Int64 = Some Int64
only Boolean Boolean = Some Boolean
only _ _ = None

-- an exponent is at most 62
abbrev pub un_kind : UnOp → Kind → Option Kind
un_kind un.Neg a = only Int64 a
un_kind un.Inv a = only Int64 a
un_kind un.Abs a = only Int64 a
un_kind (un.Pow k) a = if nat_le k 62 then only Int64 a else None
un_kind un.Flip a = only Boolean a
un_kind un.Test a = Some Boolean
un_kind un.Copy a = Some a

abbrev pub with_rank : ℕ → Option Kind → Option Ty
with_rank rank None = None
with_rank rank (Some kind) = Some (kind, rank)

-- a scalar operation
abbrev pub word_type : WordOp → List Ty → Option Ty
word_type (word_op.Bin op) ((a, zero) ∷ (b, zero) ∷ []) = with_rank 0 (bin_kind op a b)
word_type (word_op.Un op) ((a, zero) ∷ []) = with_rank 0 (un_kind op a)
word_type word_op.Move ((a, zero) ∷ []) = Some (a, 0)
word_type _ _ = None

-- the greatest rank of operands, which is no scalar's; an array has four dimensions at most
abbrev pub with_array_rank : ℕ → Option Kind → Option Ty
with_array_rank zero kind = None
with_array_rank (suc r) kind = with_rank (suc r) kind

-- the kind of a choice by a mask
abbrev pub select_kind : Kind → Kind → Kind → Option Kind
select_kind Boolean a b = Some (joint a b)
select_kind Int64 a b = None

-- an element operation: an array among its operands, and the greatest of their ranks
abbrev pub map_type : MapOp → List Ty → Option Ty
map_type (map_op.Bin op) ((a, m) ∷ (b, n) ∷ []) = with_array_rank (max m n) (bin_kind op a b)
map_type (map_op.Un op) ((a, m) ∷ []) = with_array_rank m (un_kind op a)
map_type map_op.Select ((c, k) ∷ (a, m) ∷ (b, n) ∷ []) = with_array_rank (max k (max m n)) (select_kind c a b)
map_type _ _ = None

-- a reduction of an array
abbrev pub reduce_kind : RedOp → Kind → Kind
reduce_kind red.Sum kind = Int64
reduce_kind red.Prod kind = Int64
reduce_kind red.Min kind = kind
reduce_kind red.Max kind = kind
reduce_kind red.Any kind = Boolean
reduce_kind red.All kind = Boolean

abbrev pub reduce_type : RedOp → Ty → Option Ty
reduce_type op (kind, zero) = None
reduce_type op (kind, suc r) = Some (reduce_kind op kind, 0)

-- a value that may be stored into an array of a kind: no Int64 into Bool
abbrev pub may_store : Kind → Kind → Bool
may_store Boolean Int64 = false
may_store _ _ = true

-- an array takes a value of its rank or a smaller one
abbrev pub store_fits : Ty → Ty → Bool
store_fits target value = (is_array target && nat_le value.1 target.1) && may_store target.0 value.0

-- an element takes a scalar
abbrev pub put_fits : Ty → Ty → Bool
put_fits target value = (is_array target && is_scalar value) && may_store target.0 value.0

-- an integer scalar: a subscript, a dimension, an argument of a range
abbrev pub is_number : Option Ty → Bool
is_number (Some (Int64, zero)) = true
is_number _ = false

abbrev pub is_truth : Option Ty → Bool
is_truth (Some (Boolean, zero)) = true
is_truth _ = false

abbrev pub is_number_part : List Ty → Option Oper → Bool
is_number_part names None = true
is_number_part names (Some x) = is_number (type_of names x)

abbrev pub sub_fits : List Ty → CoreSub → Bool
sub_fits names (sub.At x) = is_number (type_of names x)
sub_fits names (sub.Cut start stop step) =
    (is_number_part names start && is_number_part names stop) && is_number_part names step

-- how many dimensions subscripts remove
abbrev pub is_index : CoreSub → Bool
is_index (sub.At x) = true
is_index (sub.Cut start stop step) = false

abbrev pub removed : List CoreSub → ℕ
removed subs = count_by is_index subs

-- a view by subscripts, at least one dimension of which stays
abbrev pub pick_type : Ty → List CoreSub → Option Ty
pick_type (kind, rank) subs =
    if nat_le (length subs) rank
    then (if nat_lt (removed subs) rank then Some (kind, rank - removed subs) else None)
    else None

-- dimensions of a new array
abbrev pub fresh_fits : Fill → ℕ → Ty → Bool
fresh_fits fills.Count dims t = (dims == 1) && same_type t (Int64, 1)
fresh_fits _ dims t = (nat_lt 0 dims && nat_le dims 4) && (t.1 == dims)

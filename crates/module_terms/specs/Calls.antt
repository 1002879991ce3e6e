-- What a call, a subscript and an attribute make of what stands before them.
use Rattle.std.specs.Prelude.{ℕ, ◌+◌, ◌==◌, nat_le, Bool, true, false, ◌&&◌, if◌then◌else◌, List, [], ◌∷◌, ◌++◌}
use Rattle.std.specs.Prelude.{length, map, codes, Option, Some, None, ℤ, pos, negsuc, ◌-ℤ◌}
use Rattle.array_ops.specs.declared.operation.Fill.{Fill}
use Rattle.krn_base.specs.declared.kind.Kind.{Kind}
use Rattle.krn_base.specs.declared.kind.Kind.TheVariants as kind
use Rattle.krn_base.specs.declared.place.Loc.{Loc}
use Rattle.py_parse.specs.declared.tree.Import.{Import}
use Rattle.py_parse.specs.declared.tree.Name.{Name}
use Rattle.module_terms.specs.declared.makers.Shape.{Shape}
use Rattle.module_terms.specs.declared.makers.Shape.TheVariants as shape
use Rattle.module_terms.specs.declared.reached.Reached.{Reached}
use Rattle.module_terms.specs.declared.reached.Reached.TheVariants as r
use Rattle.module_terms.specs.declared.rows.Row.{Row}
use Rattle.module_terms.specs.declared.term.Operation.{Operation}
use Rattle.module_terms.specs.declared.term.Operation.TheVariants as op
use Rattle.module_terms.specs.declared.term.Part.{Part, out-Part}
use Rattle.module_terms.specs.declared.term.Step.{Step}
use Rattle.module_terms.specs.declared.term.Step.TheVariants as s
use Rattle.module_terms.specs.declared.term.Term.{Term, out-Term}
use Rattle.module_terms.specs.declared.term.Part.TheOpen.{Term-F, Part-F}
use Rattle.module_terms.specs.declared.term.Term.TheVariants as t
use Rattle.module_terms.specs.Numpy.{is_numpy}
use Rattle.module_terms.specs.Rows.{is_word, apply, with_step, settled, built_in, method, numpy_function, field}
use Rattle.module_terms.specs.Rows.{fill_of}
use Rattle.module_terms.specs.Rows.{own_kind, numpy_kind}

-- `x.name`, not called
abbrev pub attribute : Term → Name → Term
attribute x name = with_step x (s.Operate (field name) name.loc [])

-- the value that is reached. A name of `numpy` that isn't called and a tuple have no row
abbrev pub finish : Reached → Term
finish (r.Value x) = x
finish (r.Named name) = t.Name name
finish (r.Member name) = t.Apply op.None name.loc []
finish (r.Attribute x name) = attribute x name
finish (r.Tuple at items) = t.Apply op.None at items

-- ---- new arrays

abbrev pub kind_of : Reached → Option Kind
kind_of (r.Named name) = own_kind name
kind_of (r.Member name) = numpy_kind name
kind_of _ = None

abbrev pub keyed_kind : List Reached → Option Kind
keyed_kind (k ∷ []) = kind_of k
keyed_kind _ = None

abbrev pub second_kind : Reached → List Reached → List Reached → Option Kind
second_kind k [] [] = kind_of k
second_kind k [] (x ∷ keyed) = None
second_kind k (x ∷ rest) keyed = None

-- a tuple is a shape, and so is `a.shape`; a scalar is a shape of one dimension
abbrev pub shape_of : Reached → Shape
shape_of (r.Tuple at items) = shape.Dims items
shape_of (r.Attribute x name) =
    if is_word (codes "shape") name then shape.Like x name.loc else shape.Dims (attribute x name ∷ [])
shape_of (r.Value x) = shape.Dims (x ∷ [])
shape_of (r.Named name) = shape.Dims (t.Name name ∷ [])
shape_of (r.Member name) = shape.Dims (finish (r.Member name) ∷ [])

abbrev pub by_dims : Option Kind → Fill → ℕ → Operation
by_dims (Some k) fill n = if nat_le 1 n && nat_le n 4 then op.Fresh fill k else op.None
by_dims None fill n = op.None

abbrev pub by_array : Option Kind → Fill → Loc → Operation
by_array (Some k) fill at = op.FreshLike fill k at
by_array None fill at = op.None

abbrev pub shaped : Name → Fill → Option Kind → Shape → List Term → Term
shaped name fill k (shape.Like x at) more = t.Apply (by_array k fill at) name.loc (x ∷ more)
shaped name fill k (shape.Dims dims) more = t.Apply (by_dims k fill (length dims)) name.loc (dims ++ more)

abbrev pub split_first : {A : Type 0} → List A → Option (A × List A)
split_first [] = None
split_first (x ∷ xs) = Some (x, xs)

-- `N.zeros(S, dtype=K)` and `N.zeros(S, K)`
abbrev pub fresh : Name → Fill → List Reached → List Reached → Term
fresh name fill [] keyed = t.Apply op.None name.loc []
fresh name fill (s ∷ []) keyed = shaped name fill (keyed_kind keyed) (shape_of s) []
fresh name fill (s ∷ k ∷ rest) keyed = shaped name fill (second_kind k rest keyed) (shape_of s) (map finish rest)

abbrev is_int64 : Option Kind → Bool
is_int64 (Some kind.Int64) = true
is_int64 _ = false

abbrev pub counts : List Reached → Bool
counts [] = true
counts (k ∷ []) = is_int64 (kind_of k)
counts _ = false

abbrev pub arange_operation : ℕ → List Reached → Operation
arange_operation n keyed = if n == 1 && counts keyed then op.Arange else op.None

-- `N.arange(n)` and `N.arange(n, dtype=K)` with K of kind Int64
abbrev pub arange : Name → List Reached → List Reached → Term
arange name plain keyed = t.Apply (arange_operation (length plain) keyed) name.loc (map finish plain)

-- ---- calls

abbrev call_by : Option Row → Name → List Term → Term
call_by (Some row) name operands = apply (Some row) name operands
call_by None name operands = t.Call name operands

abbrev pub call_name : Name → List Term → Term
call_name name operands = call_by (built_in name) name operands

abbrev pub call_function : Name → List Reached → List Reached → Term
call_function name plain keyed =
    if is_word (codes "arange") name then arange name plain keyed
    else apply (numpy_function name) name (map finish plain)

abbrev member_by : Option Fill → Name → List Reached → List Reached → Term
member_by (Some fill) name plain keyed = fresh name fill plain keyed
member_by None name plain keyed = call_function name plain keyed

abbrev pub call_member : Name → List Reached → List Reached → Term
call_member name plain keyed = member_by (fill_of name) name plain keyed

-- a call of a method, whose first operand is what it is asked of
abbrev pub call_method : Term → Name → List Term → Term
call_method x name operands = with_step x (s.Operate (settled (method name) (length operands + 1)) name.loc operands)

-- a call, at the place of its `(`, with the arguments without a key and those with one; what has no name has no row
abbrev pub call : Loc → List Reached → List Reached → Reached → Term
call at plain keyed (r.Named name) = call_name name (map finish plain)
call at plain keyed (r.Member name) = call_member name plain keyed
call at plain keyed (r.Attribute x name) = call_method x name (map finish plain)
call at plain keyed (r.Value x) = with_step x (s.Operate op.None at (map finish plain))
call at plain keyed (r.Tuple start items) = with_step (t.Apply op.None start items) (s.Operate op.None at (map
    finish plain))

-- ---- subscripts

abbrev pub negative : ℤ → Option ℤ
negative (pos n) = Some (pos 0 -ℤ pos n)
negative (negsuc n) = None

abbrev Layer : Type 0
Layer = Term-F Part Step Term

abbrev negated_by : Layer → Option ℤ
negated_by (Term-F.Int value) = negative value
negated_by _ = None

abbrev pub negated_in : Term → Option ℤ
negated_in x = negated_by (out-Term x)

abbrev pub negated_only : List Term → Option ℤ
negated_only (x ∷ []) = negated_in x
negated_only _ = None

abbrev pub negated : Operation → List Term → Option ℤ
negated op.Minus operands = negated_only operands
negated _ operands = None

abbrev literal_by : Layer → Option ℤ
literal_by (Term-F.Int value) = Some value
literal_by (Term-F.Apply operation at operands) = negated operation operands
literal_by _ = None

-- a number, or `-` and a number
abbrev pub literal_in : Term → Option ℤ
literal_in x = literal_by (out-Term x)

abbrev part_by : Part-F Part Step Term → Option ℤ
part_by (Part-F.At x) = literal_in x
part_by _ = None

abbrev pub literal_at : Part → Option ℤ
literal_at part = part_by (out-Part part)

abbrev pub literal : List Part → Option ℤ
literal (part ∷ []) = literal_at part
literal _ = None

abbrev pub axis : Name → List Part → Option ℤ
axis name parts = if is_word (codes "shape") name then literal parts else None

abbrev pub pick_value : Loc → Term → List Part → Term
pick_value at x parts = with_step x (s.Pick at parts)

-- `a.shape[k]`; subscripts of another attribute
abbrev pub pick_attribute : Option ℤ → Loc → Term → Name → List Part → Term
pick_attribute (Some k) at x name parts = with_step x (s.Operate (op.Extent k) name.loc [])
pick_attribute None at x name parts = pick_value at (attribute x name) parts

-- subscripts, at the place of their `[`
abbrev pub pick : Loc → List Part → Reached → Term
pick at parts (r.Attribute x name) = pick_attribute (axis name parts) at x name parts
pick at parts (r.Value x) = pick_value at x parts
pick at parts (r.Named name) = pick_value at (t.Name name) parts
pick at parts (r.Member name) = pick_value at (finish (r.Member name)) parts
pick at parts (r.Tuple start items) = pick_value at (t.Apply op.None start items) parts

-- ---- attributes

-- `N.name` where N is a name of `numpy`, else the attribute of a value
abbrev pub ask : List Import → Name → Reached → Reached
ask imports name (r.Named base) = if is_numpy imports base then r.Member name else r.Attribute (t.Name base) name
ask imports name (r.Value x) = r.Attribute x name
ask imports name (r.Member function) = r.Attribute (finish (r.Member function)) name
ask imports name (r.Attribute x before) = r.Attribute (attribute x before) name
ask imports name (r.Tuple start items) = r.Attribute (t.Apply op.None start items) name

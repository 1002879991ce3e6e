-- The tables of calls and attributes (this project's subset of Python and NumPy).
use Rattle.std.specs.Prelude.{ℕ, ◌==◌, nat_le, Bool, if◌then◌else◌, List, [], ◌∷◌, ◌++◌, length, codes, Option, Some}
use Rattle.std.specs.Prelude.{None, ℤ}
use Rattle.std.specs.Prelude.{pos, negsuc}
use Rattle.std.specs.Str.{bytes_eq}
use Rattle.array_ops.specs.declared.operation.Fill.{Fill}
use Rattle.array_ops.specs.declared.operation.Fill.TheVariants as fill
use Rattle.array_ops.specs.declared.operation.RedOp.{RedOp}
use Rattle.array_ops.specs.declared.operation.RedOp.TheVariants as red
use Rattle.krn_base.specs.declared.kind.Kind.{Kind}
use Rattle.krn_base.specs.declared.kind.Kind.TheVariants as kind
use Rattle.krn_base.specs.declared.operation.BinOp.TheVariants as bin
use Rattle.krn_base.specs.declared.place.Loc.{Loc}
use Rattle.py_parse.specs.declared.tree.Name.{Name}
use Rattle.module_terms.specs.declared.rows.Row.{Row}
use Rattle.module_terms.specs.declared.term.Operation.{Operation}
use Rattle.module_terms.specs.declared.term.Operation.TheVariants as op
use Rattle.module_terms.specs.declared.term.Part.{Part}
use Rattle.module_terms.specs.declared.term.Part.TheOpen.{Term-F}
use Rattle.module_terms.specs.declared.term.Step.{Step}
use Rattle.module_terms.specs.declared.term.Step.TheVariants as s
use Rattle.module_terms.specs.declared.term.Term.{Term, out-Term}
use Rattle.module_terms.specs.declared.term.Term.TheVariants as t

abbrev pub Bytes : Type 0
Bytes = List ℕ

abbrev pub is_word : Bytes → Name → Bool
is_word word name = bytes_eq name.text word

abbrev pub taking : ℕ → Operation → Option Row
taking n operation = Some (record { operands = n; operation = operation })

-- `len(a)`, `abs(x)`, `min(x, y)`, `max(x, y)`, `int(x)`
abbrev pub built_in : Name → Option Row
built_in name =
    if is_word (codes "len") name then taking 1 op.Length
    else (if is_word (codes "abs") name then taking 1 op.Abs
    else (if is_word (codes "min") name then taking 2 (op.Least bin.Min)
    else (if is_word (codes "max") name then taking 2 (op.Least bin.Max)
    else (if is_word (codes "int") name then taking 1 op.ToInt
    else None))))

abbrev pub reduction : Name → Option RedOp
reduction name =
    if is_word (codes "sum") name then Some red.Sum
    else (if is_word (codes "prod") name then Some red.Prod
    else (if is_word (codes "min") name then Some red.Min
    else (if is_word (codes "max") name then Some red.Max
    else (if is_word (codes "any") name then Some red.Any
    else (if is_word (codes "all") name then Some red.All
    else None)))))

abbrev pub reduced : Option RedOp → Option Row
reduced (Some r) = taking 1 (op.Reduce r)
reduced None = None

-- `a.copy()`, and `a.sum()` to `a.all()`: the array is the one operand
abbrev pub method : Name → Option Row
method name = if is_word (codes "copy") name then taking 1 op.Copy else reduced (reduction name)

-- `N.abs(x)`, `N.minimum(x, y)`, `N.maximum(x, y)`, `N.where(c, x, y)`, `N.copy(a)`, and `N.sum(a)` to `N.all(a)`
abbrev pub numpy_function : Name → Option Row
numpy_function name =
    if is_word (codes "abs") name then taking 1 op.Abs
    else (if is_word (codes "minimum") name then taking 2 (op.Binary bin.Min)
    else (if is_word (codes "maximum") name then taking 2 (op.Binary bin.Max)
    else (if is_word (codes "where") name then taking 3 op.Where
    else method name)))

-- `a.T`, `a.size`; `a.shape` by itself is nothing
abbrev pub field : Name → Operation
field name =
    if is_word (codes "T") name then op.Transpose
    else (if is_word (codes "size") name then op.Size else op.None)

-- `N.zeros`, `N.ones`, `N.empty`
abbrev pub fill_of : Name → Option Fill
fill_of name =
    if is_word (codes "zeros") name then Some fill.Zero
    else (if is_word (codes "ones") name then Some fill.One
    else (if is_word (codes "empty") name then Some fill.Zero
    else None))

-- `int`, `bool`; `N.int64`, `N.bool_`
abbrev pub own_kind : Name → Option Kind
own_kind name =
    if is_word (codes "int") name then Some kind.Int64
    else (if is_word (codes "bool") name then Some kind.Bool else None)

abbrev pub numpy_kind : Name → Option Kind
numpy_kind name =
    if is_word (codes "int64") name then Some kind.Int64
    else (if is_word (codes "bool_") name then Some kind.Bool else None)

-- `-x`, `+x`, `~x`, by the operator's byte
abbrev pub sign : ℕ → Operation
sign byte =
    if byte == 45 then op.Minus
    else (if byte == 43 then op.Plus
    else (if byte == 126 then op.Invert else op.None))

-- `x ** k`
abbrev pub power : ℤ → Operation
power (pos k) = if nat_le k 62 then op.Power k else op.None
power (negsuc k) = op.None

-- what a row does with so many operands; where the table has no such row, nothing
abbrev pub settled : Option Row → ℕ → Operation
settled (Some r) n = if r.operands == n then r.operation else op.None
settled None n = op.None

abbrev pub apply : Option Row → Name → List Term → Term
apply r name operands = t.Apply (settled r (length operands)) name.loc operands

abbrev pub unary : Operation → Loc → Term → Term
unary operation at x = t.Apply operation at (x ∷ [])

abbrev with_step_by : Term-F Part Step Term → Term → Step → Term
with_step_by (Term-F.Steps first before last) x step = t.Steps first (before ++ last ∷ []) step
with_step_by _ x step = t.Steps x [] step

-- a value with one more step
abbrev pub with_step : Term → Step → Term
with_step x step = with_step_by (out-Term x) x step

-- an operator between what stands before it and an operand
abbrev pub binary : Operation → Loc → Term → Term → Term
binary operation at x y = with_step x (s.Operate operation at (y ∷ []))

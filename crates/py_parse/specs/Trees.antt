-- What the rules make of their parts.
use Rattle.std.specs.Prelude.{ℕ, Bool, ◌==◌, nat_lt, if◌then◌else◌, ◌^◌, List, [], ◌∷◌, ◌++◌, Option, Some, None}
use Rattle.krn_base.specs.declared.place.Loc.{Loc}
use Rattle.krn_base.specs.declared.operation.BinOp.{BinOp}
use Rattle.krn_base.specs.declared.operation.BinOp.TheVariants as op
use Rattle.py_lex.specs.Bytes.{Bytes}
use Rattle.py_lex.specs.Words.{number_value}
use Rattle.py_parse.specs.declared.terminal.Terminal.{Terminal}
use Rattle.py_parse.specs.declared.terminal.Terminal.TheVariants as t
use Rattle.py_parse.specs.declared.tree.Expr.{Expr, out-Expr}
use Rattle.py_parse.specs.declared.tree.Expr.TheVariants as e
use Rattle.py_parse.specs.declared.tree.Expr.TheOpen.{Expr-F}
use Rattle.py_parse.specs.declared.tree.Trailer.{Trailer}
use Rattle.py_parse.specs.declared.tree.Arg.{Arg}
use Rattle.py_parse.specs.declared.tree.Sub.{Sub}

-- the value of a number's text; the lexer takes none of 2^63 and above
abbrev pub within : Option ℕ → ℕ
within (Some n) = if nat_lt n (2 ^ 63) then n else 0
within None = 0

unfoldable pub value_of : Bytes → ℕ
value_of text = within (number_value text)

-- an operator between two operands
abbrev pub binary : Terminal → Option BinOp
binary t.Star = Some op.Mul
binary t.DoubleSlash = Some op.FloorDiv
binary t.Percent = Some op.Mod
binary t.Plus = Some op.Add
binary t.Minus = Some op.Sub
binary t.ShiftLeft = Some op.Shl
binary t.ShiftRight = Some op.Shr
binary t.Ampersand = Some op.And
binary t.Caret = Some op.Xor
binary t.Bar = Some op.Or
binary _ = None

-- the level of such an operator: `*` and its like bind tightest, then `+`, `<<`, `&`, `^` and `|`
abbrev pub level : Terminal → ℕ
level t.Star = 1
level t.DoubleSlash = 1
level t.Percent = 1
level t.Plus = 2
level t.Minus = 2
level t.ShiftLeft = 3
level t.ShiftRight = 3
level t.Ampersand = 4
level t.Caret = 5
level t.Bar = 6
level _ = 0

abbrev pub levels_of_operators : ℕ
levels_of_operators = 6

-- the operator of this level, if the token is one
unfoldable pub operator_at : ℕ → Terminal → Option BinOp
operator_at n k = if level k == n then binary k else None

abbrev pub comparison : Terminal → Option BinOp
comparison t.Equal = Some op.Eq
comparison t.NotEqual = Some op.Ne
comparison t.Less = Some op.Lt
comparison t.LessEqual = Some op.Le
comparison t.Greater = Some op.Gt
comparison t.GreaterEqual = Some op.Ge
comparison _ = None

-- the operation of an augmented assignment
abbrev pub augmented : Terminal → Option BinOp
augmented t.PlusAssign = Some op.Add
augmented t.MinusAssign = Some op.Sub
augmented t.StarAssign = Some op.Mul
augmented t.DoubleSlashAssign = Some op.FloorDiv
augmented t.PercentAssign = Some op.Mod
augmented t.ShiftLeftAssign = Some op.Shl
augmented t.ShiftRightAssign = Some op.Shr
augmented t.AmpersandAssign = Some op.And
augmented t.BarAssign = Some op.Or
augmented t.CaretAssign = Some op.Xor
augmented _ = None

-- the byte of a sign
abbrev pub sign : Terminal → Option ℕ
sign t.Minus = Some 45
sign t.Plus = Some 43
sign t.Tilde = Some 126
sign _ = None

-- one operand makes no node
unfoldable pub chained : Expr → List (BinOp × Loc × Expr) → Expr
chained first [] = first
chained first (link ∷ links) = e.Chain first (link ∷ links)

unfoldable pub joined : Bool → Expr → List (Loc × Expr) → Expr
joined conjunction first [] = first
joined conjunction first (link ∷ links) = e.Logic conjunction first (link ∷ links)

abbrev pub Layer : Type 0
Layer = Expr-F Expr Sub Trailer Arg

-- trailers behind an expression that ends in trailers itself are one list
abbrev pub behind : Expr → Trailer → List Trailer → Layer → Expr
behind first trailer trailers (Expr-F.Primary head earlier) = e.Primary head (earlier ++ trailer ∷ trailers)
behind first trailer trailers _ = e.Primary first (trailer ∷ trailers)

unfoldable pub trailed : Expr → List Trailer → Expr
trailed first [] = first
trailed first (trailer ∷ trailers) = behind first trailer trailers (out-Expr first)

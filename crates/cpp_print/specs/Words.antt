-- The words of the C++ text: registers, operands, places, names of operations, and lists of them. (This project's own
-- form.)
use Rattle.std.specs.Prelude.{ℕ, true, false, List, [], ◌∷◌, ◌++◌, codes}
use Rattle.std.specs.Fmt.{decimal, signed_decimal}
use Rattle.std.specs.List.{flat_map}
use Rattle.krn_base.specs.declared.operation.BinOp.{BinOp}
use Rattle.krn_base.specs.declared.operation.BinOp.TheVariants as bin
use Rattle.krn_base.specs.declared.operation.Join.{Join}
use Rattle.krn_base.specs.declared.operation.Join.TheVariants as join
use Rattle.krn_base.specs.declared.operation.UnOp.{UnOp}
use Rattle.krn_base.specs.declared.operation.UnOp.TheVariants as un
use Rattle.krn_base.specs.declared.place.Loc.{Loc}
use Rattle.eager_rules.specs.declared.program.Oper.{Oper}
use Rattle.eager_rules.specs.declared.program.Oper.TheVariants as oper
use Rattle.eager_rules.specs.declared.program.WordOp.{WordOp}
use Rattle.eager_rules.specs.declared.program.WordOp.TheVariants as word_op
use Rattle.loop_prog.specs.declared.program.Reg.{Reg}
use Rattle.loop_prog.specs.declared.program.Reg.TheVariants as reg

-- a list of bytes
abbrev pub Text : Type 0
Text = List ℕ

-- each behind a comma and a space
abbrev pub behind : {A : Type 0} → (A → Text) → List A → Text
behind text xs = flat_map (λ x. codes ", " ++ text x) xs

-- a comma and a space between each two
abbrev pub listed : {A : Type 0} → (A → Text) → List A → Text
listed text [] = []
listed text (x ∷ xs) = text x ++ behind text xs

-- a call of a function of the form up to its first part
unfoldable pub opening : Text → Text
opening name = codes "krn::" ++ (name ++ codes "(")

unfoldable pub word_reg : ℕ → Text
word_reg r = codes "r" ++ decimal r

unfoldable pub view_reg : ℕ → Text
view_reg v = codes "v" ++ decimal v

abbrev pub reg_text : Reg → Text
reg_text (reg.Word r) = word_reg r
reg_text (reg.View v) = view_reg v

-- a number, a truth value or a scalar register
abbrev pub oper_text : Oper → Text
oper_text (oper.Int z) = signed_decimal z
oper_text (oper.Truth true) = codes "true"
oper_text (oper.Truth false) = codes "false"
oper_text (oper.Name r) = word_reg r

-- a place in the module's text, by its line and its column
abbrev pub at_text : Loc → Text
at_text at = opening (codes "at") ++ (decimal at.line ++ (codes ", " ++ (decimal at.col ++ codes ")")))

abbrev pub bin_name : BinOp → Text
bin_name bin.Add = codes "add"
bin_name bin.Sub = codes "sub"
bin_name bin.Mul = codes "mul"
bin_name bin.FloorDiv = codes "floordiv"
bin_name bin.Mod = codes "mod"
bin_name bin.Shl = codes "shl"
bin_name bin.Shr = codes "shr"
bin_name bin.And = codes "band"
bin_name bin.Or = codes "bor"
bin_name bin.Xor = codes "bxor"
bin_name bin.Min = codes "min"
bin_name bin.Max = codes "max"
bin_name bin.Eq = codes "eq"
bin_name bin.Ne = codes "ne"
bin_name bin.Lt = codes "lt"
bin_name bin.Le = codes "le"
bin_name bin.Gt = codes "gt"
bin_name bin.Ge = codes "ge"

abbrev pub un_name : UnOp → Text
un_name un.Neg = codes "neg"
un_name un.Inv = codes "inv"
un_name un.Flip = codes "flip"
un_name un.Abs = codes "abs"
un_name un.Test = codes "test"
un_name un.Copy = codes "copy"
un_name (un.Pow k) = codes "pow"

-- a power has its exponent behind its operand
abbrev pub exponent : UnOp → Text
exponent (un.Pow k) = codes ", " ++ decimal k
exponent _ = []

abbrev pub word_op_name : WordOp → Text
word_op_name (word_op.Bin op) = bin_name op
word_op_name (word_op.Un op) = un_name op
word_op_name word_op.Move = codes "move"

abbrev pub word_op_exponent : WordOp → Text
word_op_exponent (word_op.Un op) = exponent op
word_op_exponent _ = []

-- how many operands an operation on scalars takes
abbrev pub operands_of : WordOp → ℕ
operands_of (word_op.Bin op) = 2
operands_of _ = 1

-- a reduction in the name of a fold, and in a clause of a parallel loop
abbrev pub join_name : Join → Text
join_name join.Sum = codes "sum"
join_name join.Prod = codes "prod"
join_name join.And = codes "and"
join_name join.Or = codes "or"
join_name join.Xor = codes "xor"
join_name join.Max = codes "max"
join_name join.Min = codes "min"

abbrev pub join_sign : Join → Text
join_sign join.Sum = codes "+"
join_sign join.Prod = codes "*"
join_sign join.And = codes "&"
join_sign join.Or = codes "|"
join_sign join.Xor = codes "^"
join_sign join.Max = codes "max"
join_sign join.Min = codes "min"

-- The listing of a function: its statements and expressions in the order of the text, but that in a statement the
-- names that are read
-- stand before the one that is bound.
use Rattle.std.specs.Prelude.{ℕ, ◌+◌, ◌==◌, Bool, true, false, ◌&&◌, if◌then◌else◌, List, [], ◌∷◌, ◌++◌, map}
use Rattle.std.specs.Prelude.{flat_map, codes, Option, Some, None}
use Rattle.std.specs.Option.{is_some}
use Rattle.krn_base.specs.declared.place.Loc.{Loc}
use Rattle.py_parse.specs.declared.tree.Arg.{Arg, out-Arg}
use Rattle.py_parse.specs.declared.tree.Expr.{Expr, out-Expr}
use Rattle.py_parse.specs.declared.tree.Expr.TheOpen.{Expr-F, Sub-F, Trailer-F, Arg-F}
use Rattle.py_parse.specs.declared.tree.Expr.TheFolds.{para-Expr, para-Sub, para-Trailer, para-Arg}
use Rattle.py_parse.specs.declared.tree.Function.{Function}
use Rattle.py_parse.specs.declared.tree.Name.{Name}
use Rattle.py_parse.specs.declared.tree.Stmt.{Stmt}
use Rattle.py_parse.specs.declared.tree.Stmt.TheOpen.{Stmt-F}
use Rattle.py_parse.specs.declared.tree.Stmt.TheFolds.{para-Stmt}
use Rattle.py_parse.specs.declared.tree.Sub.{Sub}
use Rattle.py_parse.specs.declared.tree.Trailer.{Trailer, out-Trailer}
use Rattle.module_names.specs.Nodes.{Maker, Node, Role, Operand, Whole, Iterated, Assigned, Updated, Shape, Kind}
use Rattle.module_names.specs.Nodes.{Statement, Expression, Trailing, Bound}
use Rattle.module_names.specs.Words.{is_among, is_word, filled}

abbrev pub Layer : Type 0
Layer = Expr-F Expr Sub Trailer Arg

-- the one element of a list
abbrev pub only : {A : Type 0} → List A → Option A
only (x ∷ []) = Some x
only _ = None

-- the name that an expression is
abbrev pub name_by : Layer → Option Name
name_by (Expr-F.Name name) = Some name
name_by _ = None

abbrev pub name_in : Expr → Option Name
name_in x = name_by (out-Expr x)

-- the name that a trailer asks for
abbrev pub attribute_by : Trailer-F Expr Sub Trailer Arg → Option Name
attribute_by (Trailer-F.Attr name) = Some name
attribute_by _ = None

abbrev pub attribute_in : Trailer → Option Name
attribute_in t = attribute_by (out-Trailer t)

abbrev pub attribute_of : Option Trailer → Option Name
attribute_of (Some t) = attribute_in t
attribute_of None = None

-- the attribute of a name that these trailers ask for, where they are no more than that
abbrev pub picked_by : Option Name → Option Name → Option (Name × Name)
picked_by (Some base) (Some attribute) = Some (base, attribute)
picked_by (Some base) None = None
picked_by None attribute = None

abbrev pub picked : Expr → List Trailer → Option (Name × Name)
picked head trailers = picked_by (name_in head) (attribute_of (only trailers))

abbrev pub maker_by : Option (Name × Name) → Option Maker
maker_by (Some p) =
    if is_among filled p.1 then Some (record { base = p.0; function = p.1; filled = true })
    else (if is_word (codes "arange") p.1 then Some (record { base = p.0; function = p.1; filled = false }) else None)
maker_by None = None

-- the maker that these trailers call, if a call follows
abbrev pub maker : Expr → List Trailer → Option Maker
maker head before = maker_by (picked head before)

-- where an argument stands: whether it has a key, and how many without one stand before it
abbrev pub argument_role : Option Maker → Bool → ℕ → Role
argument_role None keyed plain = Operand
argument_role (Some m) keyed plain =
    if keyed then Kind m
    else (if m.filled && plain == 0 then Shape m else (if m.filled && plain == 1 then Kind m else Operand))

abbrev pub Listed : Type 0
Listed = Role → List Node

abbrev pub ListedArg : Type 0
ListedArg = Role → List Node

abbrev pub ListedTrailer : Type 0
ListedTrailer = Option Maker → List Node

-- an expression, and what stands inside it
abbrev pub whole : Role → Expr × Listed → List Node
whole role p = Expression role p.0 ∷ p.1 role

abbrev pub operand : Expr × Listed → List Node
operand p = whole Operand p

-- what stands before trailers, where it is no name
abbrev pub head_by : Option Name → List Node → List Node
head_by (Some name) inner = []
head_by None inner = inner

abbrev pub head_nodes : Expr × Listed → List Node
head_nodes p = head_by (name_in p.0) (operand p)

abbrev pub is_keyed : Arg → Bool
is_keyed a = is_some (out-Arg a).key

abbrev pub counted : Bool → ℕ → ℕ
counted keyed plain = if keyed then plain else plain + 1

abbrev pub args_nodes : Option Maker → ℕ → List (Arg × ListedArg) → List Node
args_nodes m plain [] = []
args_nodes m plain (a ∷ rest) =
    a.1 (argument_role m (is_keyed a.0) plain) ++ args_nodes m (counted (is_keyed a.0) plain) rest

abbrev pub trailers_nodes : Role → Expr → List Trailer → List (Trailer × ListedTrailer) → List Node
trailers_nodes role head before [] = []
trailers_nodes role head before (t ∷ rest) =
    Trailing role head before t.0 (map (λ u. u.0) rest) ∷ (t.1 (maker head before) ++ trailers_nodes role head
    (before ++ t.0 ∷ []) rest)

abbrev pub bound_of : Option (Expr × Listed) → List Node
bound_of (Some p) = operand p
bound_of None = []

-- what stands inside an expression, a subscript, a trailer and an argument
abbrev pub expr_step : Expr-F (Expr × Listed) (Sub × List Node) (Trailer × ListedTrailer) (Arg × ListedArg) → Listed
expr_step (Expr-F.Name name) role = []
expr_step (Expr-F.Int value at) role = []
expr_step (Expr-F.Truth value at) role = []
expr_step (Expr-F.Tuple at items) role = flat_map operand items
expr_step (Expr-F.Chain first links) role = operand first ++ flat_map (λ l. operand l.2) links
expr_step (Expr-F.Logic conjunction first links) role = operand first ++ flat_map (λ l. operand l.1) links
expr_step (Expr-F.Not at x) role = operand x
expr_step (Expr-F.Prefix sign at x) role = operand x
expr_step (Expr-F.Power x at exponent) role = operand x
expr_step (Expr-F.Primary head trailers) role = head_nodes head ++ trailers_nodes role head.0 [] trailers

abbrev pub sub_step : Sub-F (Expr × Listed) (Sub × List Node) (Trailer × ListedTrailer) (Arg × ListedArg) → List Node
sub_step (Sub-F.At x) = operand x
sub_step (Sub-F.Cut start stop step) = bound_of start ++ (bound_of stop ++ bound_of step)

abbrev pub trailer_step : Trailer-F (Expr × Listed) (Sub × List Node) (Trailer × ListedTrailer) (Arg × ListedArg)
    → ListedTrailer
trailer_step (Trailer-F.Call at args) m = args_nodes m 0 args
trailer_step (Trailer-F.Pick at subs) m = flat_map (λ s. s.1) subs
trailer_step (Trailer-F.Attr name) m = []

abbrev pub arg_step : Arg-F (Expr × Listed) (Sub × List Node) (Trailer × ListedTrailer) (Arg × ListedArg) → ListedArg
arg_step a role = whole role a.value

unfoldable pub inner_nodes : Expr → Listed
inner_nodes = para-Expr Listed (List Node) ListedTrailer ListedArg expr_step sub_step trailer_step arg_step

unfoldable pub sub_nodes : Sub → List Node
sub_nodes = para-Sub Listed (List Node) ListedTrailer ListedArg expr_step sub_step trailer_step arg_step

unfoldable pub trailer_nodes : Trailer → ListedTrailer
trailer_nodes = para-Trailer Listed (List Node) ListedTrailer ListedArg expr_step sub_step trailer_step arg_step

unfoldable pub arg_nodes : Arg → ListedArg
arg_nodes = para-Arg Listed (List Node) ListedTrailer ListedArg expr_step sub_step trailer_step arg_step

abbrev pub paired_trailer : Trailer → Trailer × ListedTrailer
paired_trailer t = (t, trailer_nodes t)

abbrev pub paired_arg : Arg → Arg × ListedArg
paired_arg a = (a, arg_nodes a)

-- an expression that stands so, and what stands inside it
abbrev pub expr_nodes : Role → Expr → List Node
expr_nodes role x = Expression role x ∷ inner_nodes x role

abbrev pub bound_nodes : Option Expr → List Node
bound_nodes (Some x) = expr_nodes Operand x
bound_nodes None = []

-- ---- statements

abbrev pub values_by : List Expr → Option Expr → List Node
values_by values (Some value) = expr_nodes Whole value
values_by values None = flat_map (expr_nodes Operand) values

abbrev pub binding : Option Name → List Node
binding (Some name) = Bound name ∷ []
binding None = []

abbrev pub ListedStmt : Type 0
ListedStmt = Bool → List Node

abbrev pub is_empty : {A : Type 0} → List A → Bool
is_empty [] = true
is_empty (x ∷ xs) = false

-- the statements of a block, of which the last one is as last as the block is
abbrev pub block_of : Bool → List (Stmt × ListedStmt) → List Node
block_of last [] = []
block_of last (s ∷ rest) =
    Statement (last && is_empty rest) s.0 ∷ (s.1 (last && is_empty rest) ++ block_of last rest)

abbrev pub arm_of : Bool → Loc × Expr × List (Stmt × ListedStmt) → List Node
arm_of last arm = expr_nodes Operand arm.1 ++ block_of last arm.2

-- what stands inside a statement
abbrev pub stmt_step : Stmt-F (Stmt × ListedStmt) → ListedStmt
stmt_step Stmt-F.Doc last = []
stmt_step Stmt-F.Pass last = []
stmt_step (Stmt-F.Return at values) last = values_by values (only values)
stmt_step (Stmt-F.Alone x) last = expr_nodes Operand x
stmt_step (Stmt-F.Assign target at value) last = expr_nodes Assigned target ++ (expr_nodes Operand value
    ++ binding (name_in target))
stmt_step (Stmt-F.Augment target op at value) last = expr_nodes Updated target ++ (expr_nodes Operand value
    ++ binding (name_in target))
stmt_step (Stmt-F.If arms otherwise) last = flat_map (arm_of last) arms ++ block_of last otherwise
stmt_step (Stmt-F.For at variable over body) last = expr_nodes Iterated over ++ (Bound variable ∷ block_of false body)

unfoldable pub inside_stmt : Stmt → ListedStmt
inside_stmt = para-Stmt ListedStmt stmt_step

abbrev pub stmt_nodes : Bool → Stmt → List Node
stmt_nodes last s = Statement last s ∷ inside_stmt s last

abbrev pub paired_stmt : Stmt → Stmt × ListedStmt
paired_stmt s = (s, inside_stmt s)

abbrev pub block_nodes : Bool → List Stmt → List Node
block_nodes last block = block_of last (map paired_stmt block)

abbrev pub arm_nodes : Bool → Loc × Expr × List Stmt → List Node
arm_nodes last arm = expr_nodes Operand arm.1 ++ block_nodes last arm.2

-- the parameters of a function are bound, and then its body is carried out
abbrev pub function_nodes : Function → List Node
function_nodes f = map Bound f.params ++ block_nodes true f.body

-- The names that each path up to a point has bound, and the reads of other ones: what the code computes.
use Rattle.std.specs.Prelude.{ℕ, ◌+◌, Bool, true, false, ◌&&◌, ◌||◌, not, if◌then◌else◌, List, [], ◌∷◌, ◌++◌, map}
use Rattle.std.specs.Prelude.{flat_map, Option, Some, None}
use Rattle.std.specs.Str.{bytes_eq}
use Rattle.krn_base.specs.declared.place.Loc.{Loc}
use Rattle.module_names.specs.Listing.{expr_nodes, name_in}
use Rattle.module_names.specs.Nodes.{Role, Operand, Iterated, Assigned, Updated}
use Rattle.module_names.specs.Places.{mark}
use Rattle.module_names.specs.Words.{Bytes}
use Rattle.call_chains.specs.Sets.{marked}
use Rattle.py_parse.specs.declared.tree.Expr.{Expr}
use Rattle.py_parse.specs.declared.tree.Function.{Function}
use Rattle.py_parse.specs.declared.tree.Module.{Module}
use Rattle.py_parse.specs.declared.tree.Name.{Name}
use Rattle.py_parse.specs.declared.tree.Stmt.{Stmt}
use Rattle.py_parse.specs.declared.tree.Stmt.TheOpen.{Stmt-F}
use Rattle.py_parse.specs.declared.tree.Stmt.TheFolds.{fold-Stmt}
use Rattle.use_def.specs.Reads.{read_at}

-- A set of names. Where no path comes, each name is assigned.
abbrev pub Set : Type 0
Set = Bytes → Bool

abbrev pub everything : Set
everything text = true

abbrev pub nothing : Set
nothing text = false

abbrev pub with_text : Bytes → Set → Set
with_text text s other = s other || bytes_eq text other

abbrev pub with_name : Name → Set → Set
with_name name = with_text name.text

abbrev pub both : Set → Set → Set
both a b text = a text && b text

-- the set after statements, from the one before them, and the marks of their reads
abbrev pub Flow : Type 0
Flow = Set → Set × List (Option Loc)

abbrev pub read_mark : Set → Option Name → Option Loc
read_mark s (Some name) = mark (not (s name.text)) name.loc
read_mark s None = None

abbrev pub in_row : List Flow → Flow
in_row [] s = (s, [])
in_row (first ∷ rest) s = ((in_row rest (first s).0).0, (first s).1 ++ (in_row rest (first s).0).1)

abbrev pub with_target : Option Name → Set → Set
with_target (Some name) s = with_name name s
with_target None s = s

abbrev pub with_params : List Name → Set → Set
with_params [] s = s
with_params (name ∷ names) s = with_params names (with_name name s)

module _ (m : Module) where
  abbrev pub reads_marks : Set → Role → Expr → List (Option Loc)
  reads_marks s role x = map (λ node. read_mark s (read_at m node)) (expr_nodes role x)

  abbrev pub values_marks : Set → List Expr → List (Option Loc)
  values_marks s values = flat_map (reads_marks s Operand) values

  abbrev pub parts : List (Loc × Expr × List Flow) → Flow → Flow
  parts [] other s = other s
  parts (arm ∷ arms) other s = (
    both (in_row arm.2 s).0 (parts arms other s).0,
    reads_marks s Operand arm.1 ++ ((in_row arm.2 s).1 ++ (parts arms other s).1),
  )

  abbrev pub flow_step : Stmt-F Flow → Flow
  flow_step Stmt-F.Doc s = (s, [])
  flow_step Stmt-F.Pass s = (s, [])
  flow_step (Stmt-F.Return at values) s = (everything, values_marks s values)
  flow_step (Stmt-F.Alone x) s = (s, reads_marks s Operand x)
  flow_step (Stmt-F.Assign target at value) s =
      (with_target (name_in target) s, reads_marks s Operand value ++ reads_marks s Assigned target)
  flow_step (Stmt-F.Augment target op at value) s =
      (with_target (name_in target) s, reads_marks s Updated target ++ reads_marks s Operand value)
  flow_step (Stmt-F.If arms otherwise) s = parts arms (in_row otherwise) s
  flow_step (Stmt-F.For at variable over body) s =
      (s, reads_marks s Iterated over ++ (in_row body (with_name variable s)).1)

  abbrev pub flow : Stmt → Flow
  flow = fold-Stmt Flow flow_step

  abbrev pub block_flow : List Stmt → Flow
  block_flow block = in_row (map flow block)

  abbrev pub arm_flows : Loc × Expr × List Stmt → Loc × Expr × List Flow
  arm_flows arm = (arm.0, arm.1, map flow arm.2)

  abbrev pub parts_flow : List (Loc × Expr × List Stmt) → List Stmt → Flow
  parts_flow arms otherwise = parts (map arm_flows arms) (block_flow otherwise)

  -- the marks of a function, and those of each function that is marked
  abbrev pub function_marks : Function → List (Option Loc)
  function_marks f = (block_flow f.body (with_params f.params nothing)).1

  abbrev pub marks_where : Bool → Function → List (Option Loc)
  marks_where looked f = if looked then function_marks f else []

  abbrev pub marks_from : List Bool → ℕ → List Function → List (Option Loc)
  marks_from reached n [] = []
  marks_from reached n (f ∷ fs) = marks_where (marked reached n) f ++ marks_from reached (n + 1) fs

  abbrev pub all_marks : List Bool → List (Option Loc)
  all_marks reached = marks_from reached 0 m.functions

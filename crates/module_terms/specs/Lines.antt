-- The lines of a block: one line for each form of the tree.
use Rattle.std.specs.Prelude.{◌==◌, Bool, ◌&&◌, if◌then◌else◌, List, [], ◌∷◌, map, flat_map, Option, Some, None}
use Rattle.export_sig.specs.declared.directive.Directive.{Directive}
use Rattle.krn_base.specs.declared.operation.BinOp.{BinOp}
use Rattle.krn_base.specs.declared.operation.Join.{Join}
use Rattle.krn_base.specs.declared.place.Loc.{Loc}
use Rattle.py_parse.specs.declared.tree.Expr.{Expr, out-Expr}
use Rattle.py_parse.specs.declared.tree.Expr.TheOpen.{Expr-F}
use Rattle.py_parse.specs.declared.tree.Arg.{Arg}
use Rattle.py_parse.specs.declared.tree.Sub.{Sub}
use Rattle.py_parse.specs.declared.tree.Trailer.{Trailer}
use Rattle.py_parse.specs.declared.tree.Function.{Function}
use Rattle.py_parse.specs.declared.tree.Import.{Import}
use Rattle.py_parse.specs.declared.tree.Module.{Module}
use Rattle.py_parse.specs.declared.tree.Name.{Name}
use Rattle.py_parse.specs.declared.tree.Stmt.{Stmt}
use Rattle.py_parse.specs.declared.tree.Stmt.TheOpen.{Stmt-F}
use Rattle.py_parse.specs.declared.tree.Stmt.TheFolds.{fold-Stmt}
use Rattle.module_terms.specs.declared.term.Line.{Line}
use Rattle.module_terms.specs.declared.term.Line.TheVariants as l
use Rattle.module_terms.specs.declared.term.Loop.{Loop}
use Rattle.module_terms.specs.declared.term.Part.{Part}
use Rattle.module_terms.specs.declared.term.Routine.{Routine}
use Rattle.module_terms.specs.declared.term.Step.{Step, out-Step}
use Rattle.module_terms.specs.declared.term.Term.{Term, out-Term}
use Rattle.module_terms.specs.declared.term.Term.TheVariants as t
use Rattle.module_terms.specs.declared.term.Part.TheOpen.{Term-F, Step-F}
use Rattle.module_terms.specs.Expressions.{term, terms}

abbrev Layer : Type 0
Layer = Term-F Part Step Term

-- a statement alone is a call of an own function
abbrev alone_by : Layer → Option Line
alone_by (Term-F.Call name operands) = Some (l.Alone name operands)
alone_by _ = None

abbrev pub alone : Term → Option Line
alone x = alone_by (out-Term x)

-- the last of a list, behind the others
abbrev pub behind : Step → Option (List Step × Step) → List Step × Step
behind step None = ([], step)
behind step (Some (before, last)) = (step ∷ before, last)

abbrev pub split_last : List Step → Option (List Step × Step)
split_last [] = None
split_last (step ∷ steps) = Some (behind step (split_last steps))

-- a value after steps, of which there may be none
abbrev after_by : Term → Option (List Step × Step) → Term
after_by first None = first
after_by first (Some (before, last)) = t.Steps first before last

abbrev pub after : Term → List Step → Term
after first steps = after_by first (split_last steps)

abbrev LastStep : Type 0
LastStep = Step-F Part Step Term

abbrev store_by : LastStep → Term → Loc → Term → Option Line
store_by (Step-F.Pick bracket parts) array at value = Some (l.Store array bracket parts at value)
store_by _ array at value = None

abbrev pub store : Term → Step → Loc → Term → Option Line
store array last at value = store_by (out-Step last) array at value

-- a target is a name, or subscripts of an array
abbrev assign_by : Layer → Loc → Term → Option Line
assign_by (Term-F.Name name) at value = Some (l.Assign name at value)
assign_by (Term-F.Steps first before last) at value = store (after first before) last at value
assign_by _ at value = None

abbrev pub assign : Term → Loc → Term → Option Line
assign target at value = assign_by (out-Term target) at value

abbrev update_by : LastStep → Term → BinOp → Loc → Term → Option Line
update_by (Step-F.Pick bracket parts) array op at value = Some (l.AugmentPick array bracket parts op at value)
update_by _ array op at value = None

abbrev pub update : Term → Step → BinOp → Loc → Term → Option Line
update array last op at value = update_by (out-Step last) array op at value

abbrev augment_by : Layer → BinOp → Loc → Term → Option Line
augment_by (Term-F.Name name) op at value = Some (l.AugmentName name op at value)
augment_by (Term-F.Steps first before last) op at value = update (after first before) last op at value
augment_by _ op at value = None

abbrev pub augment : Term → BinOp → Loc → Term → Option Line
augment target op at value = augment_by (out-Term target) op at value

-- a loop runs through a call of `range`
abbrev head_by : Layer → Loc → Name → Option (List (Join × Name)) → Loop
head_by (Term-F.Call range args) at var omp = record { var = var; at = range.loc; args = args; omp = omp }
head_by _ at var omp = record { var = var; at = at; args = []; omp = omp }

abbrev pub head : Loc → Name → Term → Option (List (Join × Name)) → Loop
head at var over omp = head_by (out-Term over) at var omp

abbrev pub is_place : Loc → Loc → Bool
is_place a b = (a.line == b.line) && (a.col == b.col)

-- the reductions of the directive whose target is this place
abbrev pub reductions_at : Loc → List Directive → Option (List (Join × Name))
reductions_at at [] = None
reductions_at at (d ∷ ds) = if is_place d.target at then Some d.reductions else reductions_at at ds

abbrev pub given : Option Line → List Line
given (Some line) = line ∷ []
given None = []

abbrev pub joined : List (List Line) → List Line
joined blocks = flat_map (λ b. b) blocks

-- the values of a `return`: those of a tuple, where that is the one value
abbrev values_by : List Expr → Expr-F Expr Sub Trailer Arg → List Expr
values_by values (Expr-F.Tuple at items) = items
values_by values _ = values

abbrev pub values_in : List Expr → List Expr
values_in (x ∷ []) = values_by (x ∷ []) (out-Expr x)
values_in values = values

module _ (imports : List Import) where
  -- an `elif` is an `if` in the `else` of the one before it
  abbrev pub branches : List (Loc × Expr × List (List Line)) → List Line → List Line
  branches [] last = last
  branches (arm ∷ arms) last = l.If arm.0 (term imports arm.1) (joined arm.2) (branches arms last) ∷ []

  abbrev pub returned : Loc → List Expr → List Line
  returned at values = l.Return at (terms imports (values_in values)) ∷ []

  abbrev pub alone_line : Expr → List Line
  alone_line x = given (alone (term imports x))

  abbrev pub assigned : Expr → Loc → Expr → List Line
  assigned target at value = given (assign (term imports target) at (term imports value))

  abbrev pub augmented : Expr → BinOp → Loc → Expr → List Line
  augmented target op at value = given (augment (term imports target) op at (term imports value))

module _ (imports : List Import) (directives : List Directive) where
  abbrev pub looped : Loc → Name → Expr → List Line → List Line
  looped at var over body = l.For (head at var (term imports over) (reductions_at at directives)) body ∷ []

  abbrev pub stmt_step : Stmt-F (List Line) → List Line
  stmt_step Stmt-F.Doc = []
  stmt_step Stmt-F.Pass = []
  stmt_step (Stmt-F.Return at values) = returned imports at values
  stmt_step (Stmt-F.Alone x) = alone_line imports x
  stmt_step (Stmt-F.Assign target at value) = assigned imports target at value
  stmt_step (Stmt-F.Augment target op at value) = augmented imports target op at value
  stmt_step (Stmt-F.If arms otherwise) = branches imports arms (joined otherwise)
  stmt_step (Stmt-F.For at var over body) = looped at var over (joined body)

  abbrev pub lines : Stmt → List Line
  lines = fold-Stmt (List Line) stmt_step

  abbrev pub block : List Stmt → List Line
  block statements = joined (map lines statements)

  abbrev pub arm : Loc × Expr × List Stmt → Loc × Expr × List (List Line)
  arm a = (a.0, a.1, map lines a.2)

  abbrev pub routine : Function → Routine
  routine f = record { name = f.name; params = f.params; weight = f.weight; body = block f.body }

-- the routines of a module, in the order of its functions
abbrev pub routines : Module → List Directive → List Routine
routines m directives = map (routine m.imports directives) m.functions

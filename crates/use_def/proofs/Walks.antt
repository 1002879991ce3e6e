-- The walk of each statement fits its flow, and so do those of blocks and functions.
use Rattle.std.proofs.Common.{List, [], ◌∷◌, ◌++◌, Option, refl, ap, sym}
use Rattle.std.proofs.Common.{subst, map, flat_map, append-nil}
use Rattle.krn_base.specs.declared.place.Loc.{Loc}
use Rattle.module_names.specs.Listing.{expr_nodes, name_in}
use Rattle.module_names.specs.Nodes.{Node, Role, Operand, Iterated, Assigned, Updated}
use Rattle.module_names.specs.Places.{given, Among}
use Rattle.py_parse.specs.declared.tree.Expr.{Expr}
use Rattle.py_parse.specs.declared.tree.Function.{Function}
use Rattle.py_parse.specs.declared.tree.Module.{Module}
use Rattle.py_parse.specs.declared.tree.Name.{Name}
use Rattle.py_parse.specs.declared.tree.Stmt.{Stmt}
use Rattle.py_parse.specs.declared.tree.Stmt.TheOpen.{Stmt-F}
use Rattle.py_parse.specs.declared.tree.Stmt.TheFolds.{fold-roll-Stmt, map-Stmt}
use Rattle.py_parse.specs.declared.tree.Stmt.TheViews.{roll-Stmt}
use Rattle.use_def.specs.Flows.{Flow, everything, nothing, with_name, with_target, with_params, read_mark, in_row}
use Rattle.use_def.specs.Flows.{reads_marks, values_marks, parts, flow_step, flow, block_flow, function_marks}
use Rattle.use_def.specs.Paths.{Binds, Leaves, Walk, in_order, one_of, turns, read_event, reads}
use Rattle.use_def.specs.Paths.{binds, branches, walk_step, walk, block_walk, path}
use Rattle.use_def.specs.Reads.{read_at}
use Rattle.use_def.specs.Unassigned.{IsReadUnassigned}
use Rattle.use_def.proofs.Folds.{Good, by_layers}
use Rattle.use_def.proofs.Fits.{Fits, same_flow, nothing_fits, in_turn, behind_fits, row_fits, one_fits, turns_fit}
use Rattle.use_def.proofs.Fits.{read_fits, bind_fits, target_fits, leave_fits}
use Rattle.use_def.proofs.Runs.{read_is, is_read}

module _ (m : Module) where
  nodes_fit : (nodes : List Node) → Fits (λ o. flat_map (λ node. read_event (read_at m node)) nodes)
      (λ s. (s, map (λ node. read_mark s (read_at m node)) nodes))
  nodes_fit [] = nothing_fits
  nodes_fit (node ∷ nodes) =
      behind_fits (read_event (read_at m node)) (λ o. flat_map (λ n. read_event (read_at m n)) nodes)
      (λ s. (s, read_mark s (read_at m node) ∷ [])) (λ s. (s, map (λ n. read_mark s (read_at m n)) nodes))
      (read_fits (read_at m node)) (nodes_fit nodes)

  reads_fit : (role : Role) (x : Expr) → Fits (λ o. reads m role x) (λ s. (s, reads_marks m s role x))
  reads_fit role x = nodes_fit (expr_nodes role x)

  values_fit : (values : List Expr) → Fits (λ o. flat_map (reads m Operand) values)
      (λ s. (s, values_marks m s values))
  values_fit [] = nothing_fits
  values_fit (x ∷ values) =
      behind_fits (reads m Operand x) (λ o. flat_map (reads m Operand) values)
      (λ s. (s, reads_marks m s Operand x)) (λ s. (s, values_marks m s values)) (reads_fit Operand x)
      (values_fit values)

  -- two expressions, and the name that is bound behind them
  assign_fits : (first second : Role) (x y : Expr) (name : Option Name)
      → Fits (λ o. reads m first x ++ (reads m second y ++ binds name))
      (λ s. (with_target name s, reads_marks m s first x ++ reads_marks m s second y))
  assign_fits first second x y name =
      same_flow (λ o. reads m first x ++ (reads m second y ++ binds name))
      (λ s. (with_target name s, reads_marks m s first x ++ (reads_marks m s second y ++ [])))
      (λ s. (with_target name s, reads_marks m s first x ++ reads_marks m s second y))
      (λ s. ap (λ (l : List (Option Loc)). (with_target name s, reads_marks m s first x ++ l))
      (append-nil (reads_marks m s second y)))
      (behind_fits (reads m first x) (λ o. reads m second y ++ binds name) (λ s. (s, reads_marks m s first x))
      (λ s. (with_target name s, reads_marks m s second y ++ [])) (reads_fit first x)
      (behind_fits (reads m second y) (λ o. binds name) (λ s. (s, reads_marks m s second y))
      (λ s. (with_target name s, [])) (reads_fit second y) (target_fits name)))

  return_fits : (values : List Expr) → Fits (λ o. flat_map (reads m Operand) values ++ Leaves ∷ [])
      (λ s. (everything, values_marks m s values))
  return_fits values =
      same_flow (λ o. flat_map (reads m Operand) values ++ Leaves ∷ [])
      (λ s. (everything, values_marks m s values ++ [])) (λ s. (everything, values_marks m s values))
      (λ s. ap (λ (l : List (Option Loc)). (everything, l)) (append-nil (values_marks m s values)))
      (behind_fits (flat_map (reads m Operand) values) (λ o. Leaves ∷ []) (λ s. (s, values_marks m s values))
      (λ s. (everything, [])) (values_fit values) leave_fits)

  abbrev FitsStmt : Stmt → Type 0
  FitsStmt x = Fits (walk m x) (flow m x)

  abbrev plain : List (Good FitsStmt) → List Stmt
  plain = map (λ g. g.0)

  goods_fit : (gs : List (Good FitsStmt)) → Fits (in_order (map (walk m) (plain gs))) (in_row (map (flow m) (plain gs)))
  goods_fit [] = nothing_fits
  goods_fit (g ∷ gs) =
      row_fits (walk m g.0) (map (walk m) (plain gs)) (flow m g.0) (in_row (map (flow m) (plain gs))) g.1 (goods_fit gs)

  abbrev walked : Loc × Expr × List Stmt → Loc × Expr × List Walk
  walked arm = (arm.0, arm.1, map (walk m) arm.2)

  abbrev flowed : Loc × Expr × List Stmt → Loc × Expr × List Flow
  flowed arm = (arm.0, arm.1, map (flow m) arm.2)

  abbrev bare : Loc × Expr × List (Good FitsStmt) → Loc × Expr × List Stmt
  bare arm = (arm.0, arm.1, plain arm.2)

  arms_fit : (arms : List (Loc × Expr × List (Good FitsStmt))) (other : Walk) (f : Flow) → Fits other f
      → Fits (branches m (map walked (map bare arms)) other) (parts m (map flowed (map bare arms)) f)
  arms_fit [] other f fits = fits
  arms_fit (arm ∷ arms) other f fits =
      behind_fits (reads m Operand arm.1)
      (one_of (in_order (map (walk m) (plain arm.2))) (branches m (map walked (map bare arms)) other))
      (λ s. (s, reads_marks m s Operand arm.1)) _ (reads_fit Operand arm.1)
      (one_fits (in_order (map (walk m) (plain arm.2))) (branches m (map walked (map bare arms)) other)
      (in_row (map (flow m) (plain arm.2))) (parts m (map flowed (map bare arms)) f) (goods_fit arm.2)
      (arms_fit arms other f fits))

  loop_fits : (variable : Name) (over : Expr) (body : Walk) (f : Flow) → Fits body f
      → Fits (λ o. reads m Iterated over ++ turns (λ a. Binds variable ∷ body a) o)
      (λ s. (s, reads_marks m s Iterated over ++ (f (with_name variable s)).1))
  loop_fits variable over body f fits =
      behind_fits (reads m Iterated over) (turns (λ a. Binds variable ∷ body a))
      (λ s. (s, reads_marks m s Iterated over)) (λ s. (s, (f (with_name variable s)).1)) (reads_fit Iterated over)
      (turns_fit (λ a. Binds variable ∷ body a) (in_turn (λ s. (with_name variable s, [])) f)
      (behind_fits (Binds variable ∷ []) body (λ s. (with_name variable s, [])) f (bind_fits variable) fits))

  step_fits : (y : Stmt-F (Good FitsStmt))
      → Fits (walk_step m (map-Stmt Stmt Walk (walk m) (map-Stmt (Good FitsStmt) Stmt (λ g. g.0) y)))
      (flow_step m (map-Stmt Stmt Flow (flow m) (map-Stmt (Good FitsStmt) Stmt (λ g. g.0) y)))
  step_fits Stmt-F.Doc = nothing_fits
  step_fits Stmt-F.Pass = nothing_fits
  step_fits (Stmt-F.Return at values) = return_fits values
  step_fits (Stmt-F.Alone x) = reads_fit Operand x
  step_fits (Stmt-F.Assign target at value) = assign_fits Operand Assigned value target (name_in target)
  step_fits (Stmt-F.Augment target op at value) = assign_fits Updated Operand target value (name_in target)
  step_fits (Stmt-F.If arms otherwise) =
      arms_fit arms (in_order (map (walk m) (plain otherwise))) (in_row (map (flow m) (plain otherwise)))
      (goods_fit otherwise)
  step_fits (Stmt-F.For at variable over body) =
      loop_fits variable over (in_order (map (walk m) (plain body))) (in_row (map (flow m) (plain body)))
      (goods_fit body)

  layer_fits : (y : Stmt-F (Good FitsStmt)) → FitsStmt (roll-Stmt (map-Stmt (Good FitsStmt) Stmt (λ g. g.0) y))
  layer_fits y =
      let x : Stmt-F Stmt = map-Stmt (Good FitsStmt) Stmt (λ g. g.0) y in
      subst (λ (w : Walk). Fits w (flow m (roll-Stmt x))) (sym (fold-roll-Stmt Walk (walk_step m) x))
      (subst (Fits (walk_step m (map-Stmt Stmt Walk (walk m) x))) (sym (fold-roll-Stmt Flow (flow_step m) x))
      (step_fits y))

  pub stmt_fits : (x : Stmt) → FitsStmt x
  stmt_fits = by_layers FitsStmt layer_fits

  pub block_fits : (block : List Stmt) → Fits (block_walk m block) (block_flow m block)
  block_fits [] = nothing_fits
  block_fits (x ∷ xs) =
      row_fits (walk m x) (map (walk m) xs) (flow m x) (block_flow m xs) (stmt_fits x) (block_fits xs)

  params_fit : (params : List Name) (w : Walk) (f : Flow) → Fits w f
      → Fits (λ o. map Binds params ++ w o) (λ s. ((f (with_params params s)).0, (f (with_params params s)).1))
  params_fit [] w f fits = fits
  params_fit (name ∷ names) w f fits =
      behind_fits (Binds name ∷ []) (λ o. map Binds names ++ w o) (λ s. (with_name name s, []))
      (λ s. ((f (with_params names s)).0, (f (with_params names s)).1)) (bind_fits name) (params_fit names w f fits)

  -- exactly what some path reads unassigned is marked
  pub read_marked : (f : Function) (at : Loc) → IsReadUnassigned m f at → Among at (given (function_marks m f))
  read_marked f at r =
      let (x, first) = read_is at (path m f r.choice) r.read in
      (params_fit f.params (block_walk m f.body) (block_flow m f.body) (block_fits f.body)).marks nothing at x r.choice
      refl first

  pub marked_read : (f : Function) (at : Loc) → Among at (given (function_marks m f)) → IsReadUnassigned m f at
  marked_read f at h =
      let (x, o, un, first) =
      (params_fit f.params (block_walk m f.body) (block_flow m f.body) (block_fits f.body)).marked nothing at h in
      record { choice = o; read = is_read at x (path m f o) first }

-- The rules on assignments, nesting and returns for element operations and reductions, in plain form.
use Rattle.std.proofs.Common.{◌≡◌, refl, ℕ, Bool, true, false, List, [], ◌∷◌, map}
use Rattle.std.specs.Prelude.{slice_set, slice_index_or}
use Rattle.std.specs.List.{flat_map, list_all, list_any}
use Rattle.krn_base.specs.declared.kind.Kind.TheVariants.{Int64}
use Rattle.krn_base.specs.declared.place.Loc.{Loc}
use Rattle.array_ops.specs.declared.operation.MapOp.{MapOp}
use Rattle.array_ops.specs.declared.operation.MapOp.TheVariants as map_op
use Rattle.array_ops.specs.declared.operation.RedOp.{RedOp}
use Rattle.array_ops.specs.declared.operation.RedOp.TheVariants as red
use Rattle.eager_rules.specs.Sound.{Bindings, array_named, bound_in, given_types, has_type, operand_bound}
use Rattle.eager_rules.specs.Types.{Ty, map_type, reduce_type, types_of}
use Rattle.eager_rules.specs.declared.program.Oper.{Oper}
use Rattle.eager_rules.specs.declared.program.Oper.TheVariants as oper
use Rattle.lazy_expr.specs.Lowered.{reduced}
use Rattle.lazy_expr.specs.Plain.{fold_steps, join_of, lower_map, map_into, map_steps, names_it, operation_step}
use Rattle.lazy_expr.specs.Plain.{template}
use Rattle.lazy_expr.specs.Table.{number, register, table_of}
use Rattle.lazy_expr.proofs.Binds.{and_left, and_right}
use Rattle.lazy_expr.proofs.Operands.{array_named_given, some_given, typed_name}
use Rattle.lazy_expr.proofs.Reductions.{reduce_given}
use Rattle.lazy_expr.proofs.Templates.{map_given}
use Rattle.lazy_expr.proofs.ValidNames.{Holds, Stands, both}
use Rattle.lazy_expr.proofs.ValidPaths.{Tracks, assigned_here, assigned_still, follow_bound, follow_new, reads_assigned}
use Rattle.lazy_expr.proofs.ValidPaths.{set_more, steps_assigned, view_assigned}
use Rattle.lazy_expr.proofs.ValidSteps.{Leaves, Runs, runs_more, runs_one}
use Rattle.loop_prog.specs.Conditions.{is_there}
use Rattle.loop_prog.specs.Paths.{assign, is_assigned}
use Rattle.loop_prog.specs.Statements.{step_regs}
use Rattle.loop_prog.specs.Templates.{leaves}
use Rattle.loop_prog.specs.declared.paths.Paths.{Paths}
use Rattle.loop_prog.specs.declared.program.Kernel.{Kernel}
use Rattle.loop_prog.specs.declared.program.Reg.{Reg}
use Rattle.loop_prog.specs.declared.program.Reg.TheVariants as reg
use Rattle.loop_prog.specs.declared.program.Statement.{Statement}
use Rattle.loop_prog.specs.declared.program.Statement.TheOpen as l
use Rattle.loop_prog.specs.declared.program.Statement.TheVariants as v
use Rattle.loop_prog.specs.declared.program.TemplateStep.{TemplateStep}
use Rattle.loop_prog.specs.declared.program.Test.TheVariants.{Fits, Filled}

module _ (kernel : Kernel) (names : List Ty) (held : Holds names kernel) (depth : ℕ) (p : Paths) (b : Bindings)
    (t : Tracks names kernel b p) where
  abbrev regs : List Reg
  regs = table_of names

  abbrev assigned : Paths → List Reg → Bool
  assigned q read = list_all (is_assigned q) read

  still : (r : Reg) (read : List Reg) → assigned p read ≡ true → assigned (assign (r ∷ []) p) read ≡ true
  still r [] h = refl
  still r (x ∷ read) h =
      both (assigned_still names kernel held r x p (and_left (is_assigned p x) (assigned p read) h))
      (still r read (and_right (is_assigned p x) (assigned p read) h))

  -- a new buffer for a register, filled by a template whose registers are assigned, and what follows
  module _ (into : ℕ) (steps : List TemplateStep) (at : Loc) (there : is_there kernel (reg.View into) ≡ true)
      (read : assigned p (flat_map step_regs steps) ≡ true) (views : assigned p (map reg.View (leaves steps)) ≡ true)
    where
      abbrev filled : Paths
      filled = assign (reg.View into ∷ []) p

      here : is_assigned filled (reg.View into) ≡ true
      here = assigned_here names kernel held (reg.View into) b p there t

      before : (q : Paths) (rest : List Statement) → Runs kernel depth rest filled q →
          Runs kernel depth (v.Check Fits (leaves steps) at ∷ v.Like into (leaves steps) at ∷ rest) p q
      before q rest runs =
          runs_more kernel (l.Check Fits (leaves steps) at) _ (v.rolls-Check Fits (leaves steps) at) depth p p q _
          (both (both (reads_assigned names kernel held p (map reg.View (leaves steps)) views) refl) refl) refl
          (runs_more kernel (l.Like into (leaves steps) at) _ (v.rolls-Like into (leaves steps) at) depth p filled q
          rest
          (both (both (reads_assigned names kernel held p (map reg.View (leaves steps)) views) refl) refl) refl runs)

      nest_assigned : assigned filled (reg.View into ∷ flat_map step_regs steps) ≡ true
      nest_assigned = both here (still (reg.View into) (flat_map step_regs steps) read)

      filled_runs : Runs kernel depth (v.Check Fits (leaves steps) at ∷ v.Like into (leaves steps) at ∷
          v.Nest into (template steps) at ∷ []) p filled
      filled_runs =
          before filled _ (runs_one kernel (l.Nest into (template steps) at) _ (v.rolls-Nest into (template steps)
          at) depth
          filled filled (both (both (reads_assigned names kernel held filled
          (reg.View into ∷ flat_map step_regs steps) nest_assigned) refl) refl) refl refl)

      moved_runs : (to : ℕ) → Runs kernel depth (v.Check Fits (leaves steps) at ∷ v.Like into (leaves steps) at ∷
          v.Nest into (template steps) at ∷ v.Same to into ∷ []) p (assign (reg.View to ∷ []) filled)
      moved_runs to =
          before (assign (reg.View to ∷ []) filled) _
          (runs_more kernel (l.Nest into (template steps) at) _ (v.rolls-Nest into (template steps) at) depth
          filled filled (assign (reg.View to ∷ []) filled) _ (both (both (reads_assigned names kernel held filled
          (reg.View into ∷ flat_map step_regs steps) nest_assigned) refl) refl) refl
          (runs_one kernel (l.Same to into) _ (v.rolls-Same to into) depth filled (assign (reg.View to ∷ []) filled)
          (both (both (reads_assigned names kernel held filled (reg.View into ∷ []) (both here refl)) refl) refl) refl
          refl))

  map_leaves : (own : Bool) (u : Ty) (to k : ℕ) (steps : List TemplateStep) (at : Loc) →
      register regs to ≡ reg.View (number regs to) → is_there kernel (reg.View (number regs to)) ≡ true →
      assigned p (flat_map step_regs steps) ≡ true → assigned p (map reg.View (leaves steps)) ≡ true →
      Stands kernel k (map_into own u (number regs to) steps at k).fresh →
      Leaves kernel names held depth (map_into own u (number regs to) steps at k).body p b (slice_set b to true)
  map_leaves false u to k steps at is there read views new = record {
    after = assign (reg.View (number regs to) ∷ []) p;
    runs = filled_runs (number regs to) steps at there read views;
    follow = follow_bound names kernel held (reg.View (number regs to)) to b p is there t;
    more = set_more b to;
  }
  map_leaves true u to k steps at is there read views new = record {
    after = assign (reg.View (number regs to) ∷ []) (assign (reg.View k ∷ []) p);
    runs = moved_runs k steps at new.0.0 read views (number regs to);
    follow = follow_bound names kernel held (reg.View (number regs to)) to b (assign (reg.View k ∷ []) p) is there
        (follow_new names kernel held (reg.View k) b p t);
    more = set_more b to;
  }

  no_regs : (op : MapOp) → (assigned p (flat_map step_regs (operation_step op ∷ [])) ≡ true) ×
      (assigned p (map reg.View (leaves (operation_step op ∷ []))) ≡ true)
  no_regs (map_op.Bin op) = (refl, refl)
  no_regs (map_op.Un op) = (refl, refl)
  no_regs map_op.Select = (refl, refl)

  pub map_runs : (to : ℕ) (op : MapOp) (args : List Oper) (at : Loc) →
      given_types (types_of names args) (λ types. has_type names to (map_type op types)) ≡ true →
      list_all (operand_bound b) args ≡ true → (k : ℕ) →
      Stands kernel k (lower_map names regs to op args at k).fresh →
      Leaves kernel names held depth (lower_map names regs to op args at k).body p b (slice_set b to true)
  map_runs to op args at f bound k new =
      let taken = some_given (types_of names args) (λ types. has_type names to (map_type op types)) f in
      let named = typed_name names to (map_type op taken.0) taken.2 in
      let is = held.view to named.0 named.2 (map_given op taken.0 named.0 named.1).1 in
      let none = no_regs op in
      let read = steps_assigned names kernel held b p t args (operation_step op ∷ []) bound none.0 none.1 in
      map_leaves (list_any (names_it to) args) (slice_index_or names to (Int64, 0)) to k (map_steps regs op args) at
      is.register is.there read.0 read.1 new

  -- ---- reductions
  module _ (to : ℕ) (of : ℕ) (at : Loc) (is : register regs to ≡ reg.Word (number regs to))
      (there : is_there kernel (reg.Word (number regs to)) ≡ true)
      (array : is_assigned p (reg.View (number regs of)) ≡ true) where
    abbrev after : Paths
    after = assign (reg.Word (number regs to) ∷ []) p

    fold_read : (op : RedOp) → assigned p (flat_map step_regs (fold_steps op (number regs of))) ≡ true
    fold_read red.Sum = both array refl
    fold_read red.Prod = both array refl
    fold_read red.Min = both array refl
    fold_read red.Max = both array refl
    fold_read red.Any = both array refl
    fold_read red.All = both array refl

    fold_runs : (op : RedOp) → Runs kernel depth
        (v.Fold (number regs to) (join_of op) (template (fold_steps op (number regs of))) at ∷ []) p after
    fold_runs op =
        runs_one kernel (l.Fold (number regs to) (join_of op) (template (fold_steps op (number regs of))) at) _
        (v.rolls-Fold (number regs to) (join_of op) (template (fold_steps op (number regs of))) at) depth p after
        (both (both (reads_assigned names kernel held p (flat_map step_regs (fold_steps op (number regs of)))
        (fold_read op)) refl) refl) refl refl

    tested_runs : (rest : List Statement) → Runs kernel depth rest p after →
        Runs kernel depth (v.Check Filled (number regs of ∷ []) at ∷ rest) p after
    tested_runs rest runs =
        runs_more kernel (l.Check Filled (number regs of ∷ []) at) _ (v.rolls-Check Filled (number regs of ∷ []) at)
        depth p p after rest (both (both (reads_assigned names kernel held p (reg.View (number regs of) ∷ [])
        (both array refl)) refl) refl) refl runs

    reduced_runs : (op : RedOp) → Runs kernel depth (reduced (number regs to) op (number regs of) at) p after
    reduced_runs red.Sum = fold_runs red.Sum
    reduced_runs red.Prod = fold_runs red.Prod
    reduced_runs red.Min = tested_runs _ (fold_runs red.Min)
    reduced_runs red.Max = tested_runs _ (fold_runs red.Max)
    reduced_runs red.Any = fold_runs red.Any
    reduced_runs red.All = fold_runs red.All

  pub reduce_runs : (to : ℕ) (op : RedOp) (of : ℕ) (at : Loc) →
      given_types (array_named names of) (λ t. has_type names to (reduce_type op t)) ≡ true →
      list_all (operand_bound b) (oper.Name of ∷ []) ≡ true →
      Leaves kernel names held depth (reduced (number regs to) op (number regs of) at) p b (slice_set b to true)
  reduce_runs to op of at f bound =
      let array = array_named_given names of (λ t. has_type names to (reduce_type op t)) f in
      let named = typed_name names to (reduce_type op array.0) array.3 in
      let is = held.word to named.0 named.2 (reduce_given op array.0 named.0 named.1).1 in record {
        after = assign (reg.Word (number regs to) ∷ []) p;
        runs = reduced_runs to of at is.register is.there
            (view_assigned names kernel held b p t of array.0 array.1 array.2 (and_left (bound_in b of) true bound)) op;
        follow = follow_bound names kernel held (reg.Word (number regs to)) to b p is.register is.there t;
        more = set_more b to;
      }

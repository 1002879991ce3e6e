-- The rules on assignments, nesting and returns for statements without blocks, in plain form.
use Rattle.std.proofs.Common.{◌≡◌, ◌∙◌, ap, sym, refl, ℕ, Bool, true, false, ◌&&◌, List, [], ◌∷◌, ◌++◌, map}
use Rattle.std.proofs.Common.{length, Option, Some}
use Rattle.std.specs.Prelude.{slice_get, slice_set, ◌==◌}
use Rattle.std.specs.List.{flat_map, list_all}
use Rattle.std.proofs.lemmas.List.Folds.{list_all-append}
use Rattle.krn_base.specs.declared.kind.Kind.TheVariants.{Int64}
use Rattle.krn_base.specs.declared.place.Loc.{Loc}
use Rattle.array_ops.specs.declared.operation.Fill.{Fill}
use Rattle.eager_rules.specs.Sound.{Bindings, all_numbers, array_named, axis_fits, bound_in, given_types, has_type}
use Rattle.eager_rules.specs.Sound.{operand_bound}
use Rattle.eager_rules.specs.Types.{Ty, fresh_fits, is_array, is_scalar, may_store, pick_type, put_fits}
use Rattle.eager_rules.specs.Types.{store_fits, sub_fits, type_of, types_of, word_type}
use Rattle.eager_rules.specs.Works.{sub_operands}
use Rattle.eager_rules.specs.declared.program.CoreSub.{CoreSub}
use Rattle.eager_rules.specs.declared.program.Oper.{Oper}
use Rattle.eager_rules.specs.declared.program.Oper.TheVariants as oper
use Rattle.eager_rules.specs.declared.program.WordOp.{WordOp}
use Rattle.lazy_expr.specs.Lowered.{closing_in}
use Rattle.lazy_expr.specs.Plain.{closed, operand_step}
use Rattle.lazy_expr.specs.Plain.{template, with_end}
use Rattle.lazy_expr.specs.Table.{number, oper_of, opers_of, register, sub_of, table_of}
use Rattle.lazy_expr.proofs.ValidRules.{keeps_paths}
use Rattle.lazy_expr.proofs.Binds.{and_left, and_right}
use Rattle.lazy_expr.proofs.Operands.{array_named_given, numbers_scalar, of_types, one_given, some_given}
use Rattle.lazy_expr.proofs.Operands.{subs_given, subs_scalar, typed_name, types_scalar, word_scalars}
use Rattle.lazy_expr.proofs.Statements.{fresh_array, pick_array}
use Rattle.lazy_expr.proofs.TailEnds.{rolled}
use Rattle.lazy_expr.proofs.ValidNames.{Holds, both}
use Rattle.lazy_expr.proofs.ValidPaths.{Sub, Tracks, follow_bound}
use Rattle.lazy_expr.proofs.ValidPaths.{reads_assigned, scalar_assigned, scalars_assigned, set_more, steps_assigned}
use Rattle.lazy_expr.proofs.ValidPaths.{view_assigned}
use Rattle.lazy_expr.proofs.ValidTypes.{no_array}
use Rattle.loop_prog.specs.Check.{Findings, before_rest, findings, findings_step, has_some, with_findings}
use Rattle.loop_prog.specs.Conditions.{is_there}
use Rattle.loop_prog.specs.Judging.{block_by}
use Rattle.loop_prog.specs.Paths.{Flow, assign, block_flow, flow, flow_step, is_assigned}
use Rattle.loop_prog.specs.Statements.{oper_regs, opers_regs, step_regs}
use Rattle.loop_prog.specs.declared.kept.Site.{Site}
use Rattle.loop_prog.specs.declared.paths.Paths.{Paths}
use Rattle.loop_prog.specs.declared.program.Kernel.{Kernel}
use Rattle.loop_prog.specs.declared.program.Reg.{Reg}
use Rattle.loop_prog.specs.declared.program.Reg.TheVariants as reg
use Rattle.loop_prog.specs.declared.program.Statement.{Statement}
use Rattle.loop_prog.specs.declared.program.Statement.TheOpen as l
use Rattle.loop_prog.specs.declared.program.Statement.TheVariants as v
use Rattle.loop_prog.specs.declared.program.Statement.TheFolds.{fold-roll-Statement, map-Statement, para-roll-Statement}
use Rattle.loop_prog.specs.declared.program.Statement.TheViews.{roll-Statement}
use Rattle.loop_prog.specs.declared.program.TemplateStep.{TemplateStep}

-- where a statement stands that ends no block in tail position
abbrev pub mid : ℕ → Site
mid depth = record { depth = depth; ends = false }

pub before_mid : {A : Type 0} (depth : ℕ) (rest : List A) → before_rest (mid depth) rest ≡ mid depth
before_mid depth [] = refl
before_mid depth (x ∷ rest) = refl

pub closed_more : (s : Statement) (rest : List Statement) → has_some rest ≡ true → closed (s ∷ rest) ≡ s ∷ closed rest
closed_more s [] h = absurd (let e : false ≡ true = h in cc)
closed_more s (x ∷ rest) h = refl

pub flow_by : (y : l.Statement-F Statement) (s : Statement) → roll-Statement y ≡ s → (p : Paths) →
    flow s p ≡ flow_step (map-Statement Statement Flow flow y) p
flow_by y s e p =
    ap (λ (x : Statement). flow x p) (sym e) ∙ ap (λ (f : Flow). f p) (fold-roll-Statement Flow flow_step y)

module _ (kernel : Kernel) where
  abbrev pub Passes : List Statement → Site → Paths → Type 0
  Passes body site p = list_all keeps_paths (block_by kernel body site p) ≡ true

  -- what is found of a statement, by its parts
  abbrev pub Finds : l.Statement-F Statement → Site → Paths → Type 0
  Finds y site p =
      list_all keeps_paths (findings_step kernel
      (map-Statement Statement (Statement × Findings) (with_findings kernel) y) site p) ≡ true

  pub found_by : (y : l.Statement-F Statement) (s : Statement) → roll-Statement y ≡ s → (site : Site) (p : Paths) →
      Finds y site p → list_all keeps_paths (findings kernel s site p) ≡ true
  found_by y s e site p h =
      ap (λ (x : Statement). list_all keeps_paths (findings kernel x site p)) (sym e) ∙
      (ap (λ (f : Findings). list_all keeps_paths (f site p)) (para-roll-Statement Findings (findings_step kernel) y)
      ∙ h)

  pub one_passes : (y : l.Statement-F Statement) (s : Statement) → roll-Statement y ≡ s → (site : Site) (p : Paths) →
      Finds y site p → Passes (s ∷ []) site p
  one_passes y s e site p h =
      list_all-append keeps_paths (findings kernel s site p) [] ∙ both (found_by y s e site p h) refl

  -- statements that don't end a block in tail position, from paths to paths
  pub record Runs (depth : ℕ) (body : List Statement) (p q : Paths) : Type 0 where
    pub passes : Passes body (mid depth) p
    pub flows : block_flow body p ≡ q
    pub closes : closed body ≡ body ++ v.Return [] ∷ []
    pub some : has_some body ≡ true

  pub runs_one : (y : l.Statement-F Statement) (s : Statement) → roll-Statement y ≡ s → (depth : ℕ) (p q : Paths) →
      Finds y (mid depth) p → flow_step (map-Statement Statement Flow flow y) p ≡ q →
      closing_in s y ≡ s ∷ v.Return [] ∷ [] → Runs depth (s ∷ []) p q
  runs_one y s e depth p q h f c = record {
    passes = one_passes y s e (mid depth) p h;
    flows = flow_by y s e p ∙ f;
    closes = ap (λ (x : Statement). (with_end x).1) (sym e) ∙
        (rolled y ∙ (ap (λ (x : Statement). closing_in x y) e ∙ c));
    some = refl;
  }

  pub runs_more : (y : l.Statement-F Statement) (s : Statement) → roll-Statement y ≡ s → (depth : ℕ) (p q r : Paths)
      (rest : List Statement) → Finds y (mid depth) p → flow_step (map-Statement Statement Flow flow y) p ≡ q →
      Runs depth rest q r → Runs depth (s ∷ rest) p r
  runs_more y s e depth p q r rest h f runs =
      let next : flow s p ≡ q = flow_by y s e p ∙ f in record {
        passes = list_all-append keeps_paths (findings kernel s (before_rest (mid depth) (map (with_findings kernel)
            rest)) p)
            (block_by kernel rest (mid depth) (flow s p)) ∙
            both (ap (λ (site : Site). list_all keeps_paths (findings kernel s site p))
            (before_mid depth (map (with_findings kernel) rest)) ∙ found_by y s e (mid depth) p h)
            (ap (λ (x : Paths). list_all keeps_paths (block_by kernel rest (mid depth) x)) next ∙ runs.passes);
        flows = ap (block_flow rest) next ∙ runs.flows;
        closes = closed_more s rest runs.some ∙ ap (λ (xs : List Statement). s ∷ xs) runs.closes;
        some = refl;
      }

  module _ (names : List Ty) (held : Holds names kernel) where
    abbrev regs : List Reg
    regs = table_of names

    abbrev Follow : Bindings → Paths → Type 0
    Follow = Tracks names kernel

    abbrev assigned : Paths → List Reg → Bool
    assigned p read = list_all (is_assigned p) read

    -- a plain statement that takes what is bound from one list to another
    pub record Leaves (depth : ℕ) (body : List Statement) (p : Paths) (b c : Bindings) : Type 0 where
      pub after : Paths
      pub runs : Runs depth body p after
      pub follow : Follow c after
      pub more : Sub b c

    module _ (depth : ℕ) (p : Paths) (b : Bindings) (t : Follow b p) where
      -- a statement that binds one register or none
      pub binds_one : (y : l.Statement-F Statement) (s : Statement) → roll-Statement y ≡ s → (r : Reg) (to : ℕ) →
          Finds y (mid depth) p → flow_step (map-Statement Statement Flow flow y) p ≡ assign (r ∷ []) p →
          closing_in s y ≡ s ∷ v.Return [] ∷ [] → register regs to ≡ r → is_there kernel r ≡ true →
          Leaves depth (s ∷ []) p b (slice_set b to true)
      binds_one y s e r to h f c is there = record {
        after = assign (r ∷ []) p;
        runs = runs_one y s e depth p (assign (r ∷ []) p) h f c;
        follow = follow_bound names kernel held r to b p is there t;
        more = set_more b to;
      }

      binds_none : (y : l.Statement-F Statement) (s : Statement) → roll-Statement y ≡ s → Finds y (mid depth) p →
          flow_step (map-Statement Statement Flow flow y) p ≡ p → closing_in s y ≡ s ∷ v.Return [] ∷ [] →
          Leaves depth (s ∷ []) p b b
      binds_none y s e h f c = record {
        after = p;
        runs = runs_one y s e depth p p h f c;
        follow = t;
        more = λ n q. q;
      }

      pub word_runs : (to : ℕ) (op : WordOp) (args : List Oper) (at : Loc) →
          given_types (types_of names args) (λ types. has_type names to (word_type op types)) ≡ true →
          list_all (operand_bound b) args ≡ true →
          Leaves depth (v.Set (number regs to) op (opers_of regs args) at ∷ []) p b (slice_set b to true)
      word_runs to op args at f bound =
          let taken = some_given (types_of names args) (λ types. has_type names to (word_type op types)) f in
          let named = typed_name names to (word_type op taken.0) taken.2 in
          let scalars = word_scalars op taken.0 named.0 named.1 in
          let is = held.word to named.0 named.2 scalars.1 in
          binds_one (l.Set (number regs to) op (opers_of regs args) at) _
          (v.rolls-Set (number regs to) op (opers_of regs args) at) (reg.Word (number regs to)) to
          (both (both (reads_assigned names kernel held p (opers_regs (opers_of regs args))
          (scalars_assigned names kernel held b p t args
          (types_scalar names args taken.0 (of_types names args taken.0 taken.1) scalars.0) bound)) refl) refl)
          refl refl is.register is.there

      -- the array that a statement reads first
      array_read : (of : ℕ) (u : Ty) (rest : List Reg) → slice_get names of ≡ Some u → is_array u ≡ true →
          bound_in b of ≡ true → assigned p rest ≡ true → assigned p (reg.View (number regs of) ∷ rest) ≡ true
      array_read of u rest e a bound h = both (view_assigned names kernel held b p t of u e a bound) h

      pub extent_runs : (to of : ℕ) (axis : Option ℕ) →
          (given_types (array_named names of) (λ t. axis_fits axis t.1) && has_type names to (Some (Int64, 0))) ≡ true →
          list_all (operand_bound b) (oper.Name of ∷ []) ≡ true →
          Leaves depth (v.Extent (number regs to) (number regs of) axis ∷ []) p b (slice_set b to true)
      extent_runs to of axis f bound =
          let test = λ (t : Ty). axis_fits axis t.1 in
          let array = array_named_given names of test
          (and_left (given_types (array_named names of) test) (has_type names to (Some (Int64, 0))) f) in
          let is = held.word to (Int64, 0) (one_given (slice_get names to) (Int64, 0)
          (and_right (given_types (array_named names of) test) (has_type names to (Some (Int64, 0))) f)) refl in
          binds_one (l.Extent (number regs to) (number regs of) axis) _
          (v.rolls-Extent (number regs to) (number regs of) axis) (reg.Word (number regs to)) to
          (both (both (reads_assigned names kernel held p (reg.View (number regs of) ∷ [])
          (array_read of array.0 [] array.1 array.2 (and_left (bound_in b of) true bound) refl)) refl) refl)
          refl refl is.register is.there

      pub get_runs : (to of : ℕ) (index : List Oper) (at : Loc) →
          (given_types (array_named names of) (λ t. (length index == t.1) && has_type names to (Some (t.0, 0)))
          && all_numbers names index) ≡ true → list_all (operand_bound b) (oper.Name of ∷ index) ≡ true →
          Leaves depth (v.Get (number regs to) (number regs of) (opers_of regs index) at ∷ []) p b (slice_set b to true)
      get_runs to of index at f bound =
          let test = λ (t : Ty). (length index == t.1) && has_type names to (Some (t.0, 0)) in
          let numbers = and_right (given_types (array_named names of) test) (all_numbers names index) f in
          let array = array_named_given names of test
          (and_left (given_types (array_named names of) test) (all_numbers names index) f) in
          let is = held.word to (array.0.0, 0) (one_given (slice_get names to) (array.0.0, 0)
          (and_right (length index == array.0.1) (has_type names to (Some (array.0.0, 0))) array.3)) refl in
          binds_one (l.Get (number regs to) (number regs of) (opers_of regs index) at) _
          (v.rolls-Get (number regs to) (number regs of) (opers_of regs index) at) (reg.Word (number regs to)) to
          (both (both (reads_assigned names kernel held p (reg.View (number regs of) ∷ opers_regs (opers_of regs index))
          (array_read of array.0 (opers_regs (opers_of regs index)) array.1 array.2
          (and_left (bound_in b of) (list_all (operand_bound b) index) bound)
          (scalars_assigned names kernel held b p t index (numbers_scalar names index numbers)
          (and_right (bound_in b of) (list_all (operand_bound b) index) bound)))) refl) refl)
          refl refl is.register is.there

      pub put_runs : (of : ℕ) (index : List Oper) (value : Oper) (at : Loc) →
          (given_types (array_named names of) (λ t. (length index == t.1)
          && given_types (type_of names value) (λ v. put_fits t v)) && all_numbers names index) ≡ true →
          list_all (operand_bound b) (oper.Name of ∷ value ∷ index) ≡ true →
          Leaves depth (v.Put (number regs of) (opers_of regs index) (oper_of regs value) at ∷ []) p b b
      put_runs of index value at f bound =
          let test = λ (t : Ty). (length index == t.1) && given_types (type_of names value) (λ v. put_fits t v) in
          let numbers = and_right (given_types (array_named names of) test) (all_numbers names index) f in
          let array = array_named_given names of test
          (and_left (given_types (array_named names of) test) (all_numbers names index) f) in
          let given = some_given (type_of names value) (λ v. put_fits array.0 v)
          (and_right (length index == array.0.1) (given_types (type_of names value) (λ v. put_fits array.0 v))
          array.3) in
          let u = given.0 in
          let scalar = no_array u (and_right (is_array array.0) (is_scalar u)
          (and_left (is_array array.0 && is_scalar u) (may_store array.0.0 u.0) given.2)) in
          let rest = and_right (bound_in b of) (operand_bound b value && list_all (operand_bound b) index) bound in
          let read : List Reg = oper_regs (oper_of regs value) ++ opers_regs (opers_of regs index) in
          binds_none (l.Put (number regs of) (opers_of regs index) (oper_of regs value) at) _
          (v.rolls-Put (number regs of) (opers_of regs index) (oper_of regs value) at)
          (both (both (reads_assigned names kernel held p (reg.View (number regs of) ∷ read)
          (array_read of array.0 read array.1 array.2
          (and_left (bound_in b of) (operand_bound b value && list_all (operand_bound b) index) bound)
          (list_all-append (is_assigned p) (oper_regs (oper_of regs value)) (opers_regs (opers_of regs index)) ∙
          both (scalar_assigned names kernel held b p t value
          (record { type = u; is_type = given.1; scalar = scalar })
          (and_left (operand_bound b value) (list_all (operand_bound b) index) rest))
          (scalars_assigned names kernel held b p t index (numbers_scalar names index numbers)
          (and_right (operand_bound b value) (list_all (operand_bound b) index) rest))))) refl) refl)
          refl refl

      pub pick_runs : (to of : ℕ) (subs : List CoreSub) (at : Loc) →
          (given_types (array_named names of) (λ t. has_type names to (pick_type t subs))
          && list_all (sub_fits names) subs) ≡ true →
          list_all (operand_bound b) (oper.Name of ∷ flat_map sub_operands subs) ≡ true →
          Leaves depth (v.ViewOf (number regs to) (number regs of) (map (sub_of regs) subs) at ∷ []) p b
          (slice_set b to true)
      pick_runs to of subs at f bound =
          let test = λ (t : Ty). has_type names to (pick_type t subs) in
          let fit = and_right (given_types (array_named names of) test) (list_all (sub_fits names) subs) f in
          let array = array_named_given names of test
          (and_left (given_types (array_named names of) test) (list_all (sub_fits names) subs) f) in
          let named = typed_name names to (pick_type array.0 subs) array.3 in
          let is = held.view to named.0 named.2 (pick_array array.0 named.0 subs named.1) in
          let read : List Reg = opers_regs (flat_map sub_operands (map (sub_of regs) subs)) in
          binds_one (l.ViewOf (number regs to) (number regs of) (map (sub_of regs) subs) at) _
          (v.rolls-ViewOf (number regs to) (number regs of) (map (sub_of regs) subs) at) (reg.View (number regs to)) to
          (both (both (reads_assigned names kernel held p (reg.View (number regs of) ∷ read)
          (array_read of array.0 read array.1 array.2
          (and_left (bound_in b of) (list_all (operand_bound b) (flat_map sub_operands subs)) bound)
          (ap (λ (xs : List Oper). assigned p (opers_regs xs)) (subs_given regs subs) ∙
          scalars_assigned names kernel held b p t (flat_map sub_operands subs) (subs_scalar names subs fit)
          (and_right (bound_in b of) (list_all (operand_bound b) (flat_map sub_operands subs)) bound)))) refl) refl)
          refl refl is.register is.there

      module _ (to of : ℕ) (f : given_types (array_named names of) (λ t. has_type names to (Some t)) ≡ true)
          (bound : list_all (operand_bound b) (oper.Name of ∷ []) ≡ true) where
        pub flip_runs : Leaves depth (v.Flip (number regs to) (number regs of) ∷ []) p b (slice_set b to true)
        flip_runs =
            let array = array_named_given names of (λ t. has_type names to (Some t)) f in
            let is = held.view to array.0 (one_given (slice_get names to) array.0 array.3) array.2 in
            binds_one (l.Flip (number regs to) (number regs of)) _ (v.rolls-Flip (number regs to) (number regs of))
            (reg.View (number regs to)) to
            (both (both (reads_assigned names kernel held p (reg.View (number regs of) ∷ [])
            (array_read of array.0 [] array.1 array.2 (and_left (bound_in b of) true bound) refl)) refl) refl)
            refl refl is.register is.there

        pub alias_runs : Leaves depth (v.Same (number regs to) (number regs of) ∷ []) p b (slice_set b to true)
        alias_runs =
            let array = array_named_given names of (λ t. has_type names to (Some t)) f in
            let is = held.view to array.0 (one_given (slice_get names to) array.0 array.3) array.2 in
            binds_one (l.Same (number regs to) (number regs of)) _ (v.rolls-Same (number regs to) (number regs of))
            (reg.View (number regs to)) to
            (both (both (reads_assigned names kernel held p (reg.View (number regs of) ∷ [])
            (array_read of array.0 [] array.1 array.2 (and_left (bound_in b of) true bound) refl)) refl) refl)
            refl refl is.register is.there

      pub fresh_runs : (to : ℕ) (dims : List Oper) (fill : Fill) (at : Loc) →
          (given_types (slice_get names to) (fresh_fits fill (length dims)) && all_numbers names dims) ≡ true →
          list_all (operand_bound b) dims ≡ true →
          Leaves depth (v.Fresh (number regs to) (opers_of regs dims) fill at ∷ []) p b (slice_set b to true)
      fresh_runs to dims fill at f bound =
          let given = some_given (slice_get names to) (fresh_fits fill (length dims))
          (and_left (given_types (slice_get names to) (fresh_fits fill (length dims))) (all_numbers names dims) f) in
          let numbers = and_right (given_types (slice_get names to) (fresh_fits fill (length dims)))
          (all_numbers names dims) f in
          let is = held.view to given.0 given.1 (fresh_array fill (length dims) given.0 given.2) in
          binds_one (l.Fresh (number regs to) (opers_of regs dims) fill at) _
          (v.rolls-Fresh (number regs to) (opers_of regs dims) fill at) (reg.View (number regs to)) to
          (both (both (reads_assigned names kernel held p (opers_regs (opers_of regs dims))
          (scalars_assigned names kernel held b p t dims (numbers_scalar names dims numbers) bound)) refl) refl)
          refl refl is.register is.there

      pub store_runs : (of : ℕ) (value : Oper) (at : Loc) →
          given_types (slice_get names of) (λ t. given_types (type_of names value) (λ v. store_fits t v)) ≡ true →
          list_all (operand_bound b) (oper.Name of ∷ value ∷ []) ≡ true →
          Leaves depth (v.Nest (number regs of) (template (operand_step regs value ∷ [])) at ∷ []) p b b
      store_runs of value at f bound =
          let target = some_given (slice_get names of)
          (λ t. given_types (type_of names value) (λ v. store_fits t v)) f in
          let given = some_given (type_of names value) (λ v. store_fits target.0 v) target.2 in
          let fits = and_left (is_array target.0 && _) (may_store target.0.0 given.0.0) given.2 in
          let steps : List TemplateStep = operand_step regs value ∷ [] in
          binds_none (l.Nest (number regs of) (template steps) at) _ (v.rolls-Nest (number regs of) (template steps) at)
          (both (both (reads_assigned names kernel held p (reg.View (number regs of) ∷ flat_map step_regs steps)
          (array_read of target.0 (flat_map step_regs steps) target.1 (and_left (is_array target.0) _ fits)
          (and_left (bound_in b of) (list_all (operand_bound b) (value ∷ [])) bound)
          (steps_assigned names kernel held b p t (value ∷ []) []
          (and_right (bound_in b of) (list_all (operand_bound b) (value ∷ [])) bound) refl refl).0)) refl) refl)
          refl refl

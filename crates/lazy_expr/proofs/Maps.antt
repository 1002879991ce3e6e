-- An element operation and its plain form, into the name's register or through a new one.
use Rattle.std.proofs.Common.{◌≡◌, ◌∙◌, ◌≢◌, ap, sym, subst, refl, arith, ℕ, ◌+◌, ◌<◌, ◌≤◌, Bool, true, false}
use Rattle.std.proofs.Common.{ℤ, List, [], ◌∷◌, ◌++◌, map, length, set, Some, Result, Ok, Err, eq-eqb}
use Rattle.std.specs.Prelude.{slice_get, slice_index_or}
use Rattle.std.specs.List.{AllByRecursion, flat_map, list_any}
use Rattle.std.proofs.lemmas.List.{get_or-set_other, get_or-set_same}
use Rattle.krn_base.specs.declared.fault.Fault.{Fault}
use Rattle.krn_base.specs.declared.kind.Kind.{Kind}
use Rattle.krn_base.specs.declared.kind.Kind.TheVariants.{Int64}
use Rattle.krn_base.specs.declared.place.Loc.{Loc}
use Rattle.overlap.specs.Walks.{BothWaysAlike}
use Rattle.array_ops.specs.Arrays.{whole_of}
use Rattle.array_ops.specs.Elements.{Bound, Unbound, ArrayOf, extents_of, map_elements, shape_of}
use Rattle.array_ops.specs.declared.operation.MapOp.{MapOp}
use Rattle.array_ops.specs.declared.operation.MapOp.TheVariants as map_op
use Rattle.eager_rules.specs.Blocks.{End, GoesOn, Faulted}
use Rattle.eager_rules.specs.Eager.{finish, ready}
use Rattle.eager_rules.specs.Eager.{step as eager_step}
use Rattle.eager_rules.specs.Sound.{given_types, has_type}
use Rattle.eager_rules.specs.State.{bind, bound_of, operand, with_buffers}
use Rattle.eager_rules.specs.State.{State as Eager}
use Rattle.eager_rules.specs.Types.{Ty, is_array, map_type, types_of}
use Rattle.eager_rules.specs.Works.{made_new, map_work}
use Rattle.eager_rules.specs.declared.outcome.Counts.{Counts}
use Rattle.eager_rules.specs.declared.program.Oper.{Oper}
use Rattle.eager_rules.specs.declared.program.Oper.TheVariants as oper
use Rattle.lazy_expr.specs.Plain.{leaf_or_word, lower_map, map_into, map_steps, names_it, operand_step, operation_step}
use Rattle.lazy_expr.specs.Plain.{template}
use Rattle.lazy_expr.specs.Table.{is_array_name, number, register, table_of, view_types, word_kinds}
use Rattle.lazy_expr.proofs.Binds.{bind_agrees, buffers_agree, counts_agree, inside, is_array_by, new_agrees, not_both}
use Rattle.lazy_expr.proofs.Filled.{behind_it, filled_fault, filled_made}
use Rattle.lazy_expr.proofs.Follows.{Ends, ready_ends}
use Rattle.lazy_expr.proofs.Meanings.{block_one, means_Same}
use Rattle.lazy_expr.proofs.Operands.{IsScalar, OfTypes, of_types, scalar_extents, scalar_same, some_given, typed_name}
use Rattle.lazy_expr.proofs.Operands.{view_same}
use Rattle.lazy_expr.proofs.Relation.{Agree, Fitting, IsTable}
use Rattle.lazy_expr.proofs.Shapes.{EachSpreads, broadcast_small, whole_proper}
use Rattle.lazy_expr.proofs.Statements.{array_fits, view_register, word_register}
use Rattle.lazy_expr.proofs.Templates.{StepFor, StepsFor, map_given, map_made, operands_of, or_left, or_right}
use Rattle.lazy_expr.proofs.Templates.{shapes_same}
use Rattle.loop_prog.specs.Serial.{block}
use Rattle.loop_prog.specs.State.{State, view_in}
use Rattle.loop_prog.specs.State.{bind as bind_register, with_buffers as loop_buffers}
use Rattle.loop_prog.specs.Templates.{elements, leaf_values, leaves}
use Rattle.loop_prog.specs.declared.program.Reg.{Reg}
use Rattle.loop_prog.specs.declared.program.Reg.TheVariants as reg
use Rattle.loop_prog.specs.declared.program.Statement.{Statement}
use Rattle.loop_prog.specs.declared.program.Statement.TheVariants as v
use Rattle.loop_prog.specs.declared.program.TemplateStep.{TemplateStep}
use Rattle.loop_prog.specs.declared.program.Test.TheVariants.{Fits}

-- the array names among operands have registers that the views still hold
abbrev Reads : List Ty → List Bound → List Bound → Oper → Type 0
Reads names old views x =
    (n : ℕ) → x ≡ oper.Name n → n < length names → is_array_name names n ≡ true →
    view_in views (number (table_of names) n) ≡ view_in old (number (table_of names) n)

no_leaf : (op : MapOp) → leaves (operation_step op ∷ []) ≡ []
no_leaf (map_op.Bin op) = refl
no_leaf (map_op.Un op) = refl
no_leaf map_op.Select = refl

types_count : (names : List Ty) (args : List Oper) (types : List Ty) → OfTypes names args types →
    length args ≡ length types
types_count names [] [] h = refl
types_count names [] (t ∷ types) h = absurd h
types_count names (x ∷ args) [] h = absurd h
types_count names (x ∷ args) (t ∷ types) h = omega (arith, types_count names args types h.1)

module _ (names : List Ty) (views : ℕ) (table : IsTable names) (room : length (view_types names) ≤ views) where
  abbrev Alike : Eager → State → Type 0
  Alike = Agree names views

  abbrev regs : List Reg
  regs = table_of names

  abbrev kinds : List Kind
  kinds = word_kinds names

  module _ (s : Eager) (t : State) (r : Alike s t) where
    step_for : (seen : List Bound) (x : Oper) (u : Ty) → OfTypes names (x ∷ []) (u ∷ []) →
        Reads names t.views seen x → StepFor t.words seen (operand_step regs x) (operand s x)
    step_for seen (oper.Int z) u h reads = (refl, refl)
    step_for seen (oper.Truth b) u h reads = (refl, refl)
    step_for seen (oper.Name n) u h reads = by_class (is_array u) refl
      where
        by_class : (class : Bool) → is_array u ≡ class →
            StepFor t.words seen (leaf_or_word (register regs n)) (bound_of s n)
        by_class false e =
            let scalar : IsScalar names (oper.Name n) = record { type = u; is_type = h.0; scalar = e } in
            subst (λ (a : Reg). StepFor t.words seen (leaf_or_word a) (bound_of s n))
            (sym (word_register names views table room n u h.0 e)) (
              sym (scalar_same names views table s t r (oper.Name n) scalar),
              scalar_extents names views table s t r (oper.Name n) scalar,
            )
        by_class true e =
            subst (λ (a : Reg). StepFor t.words seen (leaf_or_word a) (bound_of s n))
            (sym (view_register names views table room n u h.0 e))
            (reads n refl (inside names n u h.0) (is_array_by names n u h.0 ∙ e) ∙
            sym (view_same names views table s t r n u h.0 e))

    pub steps_for : (seen : List Bound) (args : List Oper) (types : List Ty) → OfTypes names args types →
        AllByRecursion (Reads names t.views seen) args →
        AllByRecursion (λ x. StepFor t.words seen (operand_step regs x) (operand s x)) args
    steps_for seen [] types h reads = tt
    steps_for seen (x ∷ args) [] h reads = absurd h
    steps_for seen (x ∷ args) (u ∷ types) h reads =
        (step_for seen x u (h.0, tt) reads.0, steps_for seen args types h.1 reads.1)

  pub unchanged : (t : State) (args : List Oper) → AllByRecursion (Reads names t.views t.views) args
  unchanged t [] = tt
  unchanged t (x ∷ args) = ((λ n e h k. refl), unchanged t args)

  -- another register has another value
  changed_elsewhere : (t : State) (to : ℕ) (x : Bound) (args : List Oper) →
      AllByRecursion (λ y. (n : ℕ) → y ≡ oper.Name n → n < length names → is_array_name names n ≡ true →
      number regs n ≢ to) args → AllByRecursion (Reads names t.views (set t.views to x)) args
  changed_elsewhere t to x [] h = tt
  changed_elsewhere t to x (y ∷ args) h = (
    λ n e i a. get_or-set_other t.views to (number regs n) x Unbound (h.0 n e i a),
    changed_elsewhere t to x args h.1,
  )

  -- what follows a name that a register of its own stands for
  abbrev ApartFrom : ℕ → List Oper → Type 0
  ApartFrom into args =
      AllByRecursion (λ y. (n : ℕ) → y ≡ oper.Name n → n < length names → is_array_name names n ≡ true →
      number regs n ≢ into) args

  apart_new : (k : ℕ) (args : List Oper) → length (view_types names) ≤ k → ApartFrom k args
  apart_new k [] h = tt
  apart_new k (y ∷ args) h =
      ((λ n e i a same. absurd (omega (arith, same, h, table.view_below n i a))), apart_new k args h)

  apart_own : (to : ℕ) (u : Ty) (args : List Oper) → slice_get names to ≡ Some u → is_array u ≡ true →
      list_any (names_it to) args ≡ false → ApartFrom (number regs to) args
  apart_own to u [] g b h = tt
  apart_own to u (y ∷ args) g b h = (
    λ n e i a same.
        let alike : register regs n ≡ register regs to = table.view n i a ∙
        ap (λ (m : ℕ). reg.View m) same ∙ sym (view_register names views table room to u g b) in
        not_both (sym (eq-eqb n to (table.apart n to i (inside names to u g) alike)) ∙
        sym (ap (names_it to) e) ∙ or_left (names_it to y) (list_any (names_it to) args) h),
    apart_own to u args g b (or_right (names_it to y) (list_any (names_it to) args) h),
  )

  module _ (alike : BothWaysAlike) (spreads : EachSpreads) (to : ℕ) (op : MapOp) (args : List Oper) (at : Loc)
      (f : given_types (types_of names args) (λ types. has_type names to (map_type op types)) ≡ true) (s : Eager)
      (t : State) (r : Alike s t) where
    abbrev values : List Bound
    values = map (operand s) args

    abbrev steps : List TemplateStep
    steps = map_steps regs op args

    -- the new buffer behind those that there were, and the array of it
    abbrev more : List (List ℤ) → List ℕ → List (List ℤ)
    more buffers ns = buffers ++ map_elements buffers ns op values ∷ []

    abbrev array : List (List ℤ) → List ℕ → Bound
    array buffers ns = ArrayOf (whole_of (length buffers) ns)

    -- the state with the array in a register
    abbrev held : List (List ℤ) → ℕ → List ℕ → Counts → State
    held buffers into ns c = record {
      words = t.words;
      views = set t.views into (array buffers ns);
      buffers = more buffers ns;
      counts = c;
    }

    -- eager evaluation's state with the array bound to the name
    abbrev bound : List ℕ → Eager
    bound ns = bind to (array s.buffers ns) (with_buffers (more s.buffers ns) s)

    -- into a register that is none of the leaves'
    into_ends : (into : ℕ) (rest : List Statement) → into < length t.views → ApartFrom into args →
        ((ns : List ℕ) (c : Counts) → shape_of values ≡ Ok ns →
        Ends Alike (bound ns, GoesOn)
        (block kinds rest (held t.buffers into ns c))) →
        Ends Alike (eager_step args (to ∷ []) (map_work op at) s)
        (block kinds (v.Check Fits (leaves steps) at ∷ v.Like into (leaves steps) at ∷
        v.Nest into (template steps) at ∷ rest) t)
    into_ends into rest there apart closes =
        ready_ends State Alike (ready s args (to ∷ [])) (finish (to ∷ []) (map_work op at values s.buffers) s) s
        (block kinds (v.Check Fits (leaves steps) at ∷ v.Like into (leaves steps) at ∷
        v.Nest into (template steps) at ∷ rest) t)
        (λ b. by_shape (shape_of values) refl)
      where
        types : (ts : List Ty) × (types_of names args ≡ Some ts) × (has_type names to (map_type op ts) ≡ true)
        types = some_given (types_of names args) (λ ts. has_type names to (map_type op ts)) f

        typed : OfTypes names args types.0
        typed = of_types names args types.0 types.1

        count : length args ≡ operands_of op
        count = types_count names args types.0 typed ∙
            (map_given op types.0 (typed_name names to (map_type op types.0) types.2).0
            (typed_name names to (map_type op types.0) types.2).1).0

        before : flat_map extents_of (leaf_values t.views steps) ≡ flat_map extents_of values
        before = shapes_same t.words t.views [] [] (operand_step regs) (operand s) args (operation_step op ∷ [])
            (no_leaf op) (steps_for s t r t.views args types.0 typed (unchanged t args))

        stand : (x : Bound) → StepsFor t.words (set t.views into x) [] [] (operand_step regs) (operand s) args
        stand x = steps_for s t r (set t.views into x) args types.0 typed (changed_elsewhere t into x args apart)

        behind : (x : Bound) → flat_map extents_of (leaf_values (set t.views into x) steps) ≡ flat_map extents_of values
        behind x = shapes_same t.words (set t.views into x) [] [] (operand_step regs) (operand s) args
            (operation_step op ∷ []) (no_leaf op) (stand x)

        made : (x : Bound) (ns : List ℕ) (buffers : List (List ℤ)) →
            elements t.words (set t.views into x) steps ns buffers ≡ map_elements buffers ns op values
        made x ns buffers =
            map_made t.words (set t.views into x) ns buffers (operand_step regs) (operand s) op args count (stand x)

        by_shape : (x : Result (List ℕ) Fault) → shape_of values ≡ x →
            Ends Alike (finish (to ∷ []) (made_new s.buffers at (λ ns. map_elements s.buffers ns op values) x) s)
            (block kinds (v.Check Fits (leaves steps) at ∷ v.Like into (leaves steps) at ∷
            v.Nest into (template steps) at ∷ rest) t)
        by_shape (Err fault) e =
            subst (λ (q : State × End). Ends Alike (s, Faulted fault at) q)
            (sym (filled_fault alike spreads kinds t into op values steps at there before behind made rest fault e))
            (λ free. (r, refl))
        by_shape (Ok ns) e =
            subst (λ (q : State × End). Ends Alike
            (bound ns, GoesOn) q)
            (sym (filled_made alike spreads kinds t into op values steps at there before behind made rest ns e))
            (closes ns
            (behind_it alike spreads kinds t into op values steps at there before behind made rest ns e).counts
            e)

    module _ (u : Ty) (is_to : slice_get names to ≡ Some u) (class : is_array u ≡ true) where
      fit : (ns : List ℕ) → shape_of values ≡ Ok ns → Fitting names to (array s.buffers ns)
      fit ns e =
          array_fits names to (is_array_by names to u is_to ∙ class) (array s.buffers ns)
          (whole_proper (length s.buffers) ns (broadcast_small (flat_map extents_of values) ns e))

      -- the name bound to the array, and its register too, behind any state that agrees
      bound_alike : (ns : List ℕ) (q : State) → shape_of values ≡ Ok ns → Alike (with_buffers (more s.buffers ns) s) q →
          Alike (bound ns)
          (bind_register (reg.View (number regs to)) (array s.buffers ns) q)
      bound_alike ns q e h =
          subst (λ (a : Reg). Alike (bound ns)
          (bind_register a (array s.buffers ns) q)) (view_register names views table room to u is_to class)
          (bind_agrees names views table room to (array s.buffers ns) (with_buffers (more s.buffers ns) s) q
          (inside names to u is_to) (fit ns e) h)

      with_more : (ns : List ℕ) → Alike (with_buffers (more s.buffers ns) s) (loop_buffers (more s.buffers ns) t)
      with_more ns = buffers_agree names views table room (more s.buffers ns) (more s.buffers ns) s t refl r

      pub direct : list_any (names_it to) args ≡ false →
          Ends Alike (eager_step args (to ∷ []) (map_work op at) s)
          (block kinds (map_into false u (number regs to) steps at 0).body t)
      direct h =
          into_ends (number regs to) []
          (subst (λ (n : ℕ). number regs to < n) (sym r.views_size)
          (omega (arith, room, table.view_below to (inside names to u is_to) (is_array_by names to u is_to ∙ class))))
          (apart_own to u args is_to class h)
          (λ ns c e free. (
            subst (λ (buffers : List (List ℤ)). Alike
                (bound ns) (held buffers (number regs to) ns c))
                r.buffers
                (counts_agree names views table room c (bound ns)
                (bind_register (reg.View (number regs to)) (array s.buffers ns) (loop_buffers (more s.buffers ns) t))
                (bound_alike ns (loop_buffers (more s.buffers ns) t) e (with_more ns))),
            refl,
          ))

      -- the array of a new register is the name's too
      same_goes : (k : ℕ) (buffers : List (List ℤ)) (ns : List ℕ) (c : Counts) → k < length t.views →
          block kinds (v.Same (number regs to) k ∷ []) (held buffers k ns c) ≡
          (bind_register (reg.View (number regs to)) (array buffers ns) (held buffers k ns c), GoesOn)
      same_goes k buffers ns c h =
          block_one kinds (v.Same (number regs to) k) (held buffers k ns c) ∙
          ap (λ m. m (held buffers k ns c)) (means_Same kinds (number regs to) k) ∙
          ap (λ (x : Bound). (bind_register (reg.View (number regs to)) x (held buffers k ns c), GoesOn))
          (get_or-set_same t.views k (array buffers ns) Unbound h)

      pub through_new : (k : ℕ) → length (view_types names) ≤ k → k < views →
          Ends Alike (eager_step args (to ∷ []) (map_work op at) s)
          (block kinds (map_into true u (number regs to) steps at k).body t)
      through_new k h below =
          let there : k < length t.views = subst (λ (n : ℕ). k < n) (sym r.views_size) below in
          into_ends k (v.Same (number regs to) k ∷ []) there (apart_new k args h)
          (λ ns c e. subst (λ (q : State × End). Ends Alike
          (bound ns, GoesOn) q)
          (sym (same_goes k t.buffers ns c there))
          (λ free. (
            subst (λ (buffers : List (List ℤ)). Alike
                (bound ns)
                (bind_register (reg.View (number regs to)) (array buffers ns) (held buffers k ns c))) r.buffers
                (bound_alike ns (held s.buffers k ns c) e
                (counts_agree names views table room c (with_buffers (more s.buffers ns) s)
                (bind_register (reg.View k) (array s.buffers ns) (loop_buffers (more s.buffers ns) t))
                (new_agrees names views table room k (array s.buffers ns) (with_buffers (more s.buffers ns) s)
                (loop_buffers (more s.buffers ns) t) h (with_more ns)))),
            refl,
          )))

    pub map_ends : (k : ℕ) → length (view_types names) ≤ k →
        k + length (lower_map names regs to op args at k).fresh ≤ views →
        Ends Alike (eager_step args (to ∷ []) (map_work op at) s)
        (block kinds (lower_map names regs to op args at k).body t)
    map_ends k h below = by_own (list_any (names_it to) args) refl below
      where
        types : (ts : List Ty) × (types_of names args ≡ Some ts) × (has_type names to (map_type op ts) ≡ true)
        types = some_given (types_of names args) (λ ts. has_type names to (map_type op ts)) f

        named : (u : Ty) × (map_type op types.0 ≡ Some u) × (slice_get names to ≡ Some u)
        named = typed_name names to (map_type op types.0) types.2

        class : is_array named.0 ≡ true
        class = (map_given op types.0 named.0 named.1).1

        by_own : (own : Bool) → list_any (names_it to) args ≡ own →
            k + length (map_into own (slice_index_or names to (Int64, 0)) (number regs to) steps at k).fresh ≤ views →
            Ends Alike (eager_step args (to ∷ []) (map_work op at) s)
            (block kinds (map_into own (slice_index_or names to (Int64, 0)) (number regs to) steps at k).body t)
        by_own false e b = direct named.0 named.2 class e
        by_own true e b = through_new named.0 named.2 class k h (omega (arith, b))

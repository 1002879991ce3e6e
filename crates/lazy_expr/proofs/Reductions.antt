-- A reduction and its plain form, a fold of one leaf.
use Rattle.std.proofs.Common.{◌≡◌, ◌∙◌, ap, ap₂, sym, subst, refl, ℕ, zero, suc, ◌≤◌, ℤ, Bool, true, false}
use Rattle.std.proofs.Common.{◌&&◌, List, [], ◌∷◌, ◌++◌, map, length, set, Some, Result, Ok, Err, inl, inr, ◌⊎◌}
use Rattle.std.specs.Prelude.{slice_get, slice_index_or}
use Rattle.std.specs.List.{list_all, list_any}
use Rattle.std.proofs.lemmas.List.{get_or-set_same, length-map}
use Rattle.std.proofs.lemmas.Option.{get_or_from_slice_get}
use Rattle.krn_base.specs.Numbers.{truth, unary_result}
use Rattle.krn_base.specs.declared.fault.Fault.{Fault}
use Rattle.krn_base.specs.declared.fault.Fault.TheVariants.{ValueError}
use Rattle.krn_base.specs.declared.kind.Kind.{Kind}
use Rattle.krn_base.specs.declared.kind.Kind.TheVariants.{Int64, Bool as Boolean}
use Rattle.krn_base.specs.declared.operation.Join.{Join}
use Rattle.krn_base.specs.declared.operation.Join.TheVariants as joins
use Rattle.krn_base.specs.declared.operation.UnOp.TheVariants as un
use Rattle.krn_base.specs.declared.place.Loc.{Loc}
use Rattle.view_places.specs.Arrays.{element_count, spread}
use Rattle.view_places.specs.Laws.{IsOwnBroadcast, StaysOverItsShape}
use Rattle.array_ops.specs.Arrays.{ArrayRef, elements_at, elements_of, word_at}
use Rattle.array_ops.specs.Elements.{Bound, Unbound, WordOf, ArrayOf, is_set, joined, reduced, shape_of}
use Rattle.array_ops.specs.Elements.{unless_empty}
use Rattle.array_ops.specs.Subscripts.{and_then}
use Rattle.array_ops.specs.declared.operation.RedOp.{RedOp}
use Rattle.array_ops.specs.declared.operation.RedOp.TheVariants as red
use Rattle.eager_rules.specs.Blocks.{End, GoesOn, Faulted, given, then_do}
use Rattle.eager_rules.specs.Eager.{finish, ready, where_ready}
use Rattle.eager_rules.specs.Eager.{step as eager_step}
use Rattle.eager_rules.specs.Fits.{IsOfKind}
use Rattle.eager_rules.specs.Sound.{array_named, given_types, has_type}
use Rattle.eager_rules.specs.State.{bind, bound_of, is_bound}
use Rattle.eager_rules.specs.State.{State as Eager}
use Rattle.eager_rules.specs.TypedStates.{Each, EndOf, OfName, Row}
use Rattle.eager_rules.specs.Types.{Ty, is_array, reduce_kind, reduce_type}
use Rattle.eager_rules.specs.Works.{as_word, changed, reduce_work, valued}
use Rattle.eager_rules.specs.declared.program.Oper.TheVariants as oper
use Rattle.lazy_expr.specs.Plain.{fold_steps, join_of, some_before, template}
use Rattle.lazy_expr.specs.Table.{number, table_of, view_types, word_kinds}
use Rattle.lazy_expr.proofs.Binds.{and_left, bind_agrees, counts_agree, inside, is_array_by, not_both}
use Rattle.lazy_expr.proofs.Filled.{shape_end}
use Rattle.lazy_expr.proofs.Follows.{Ends, ready_ends}
use Rattle.lazy_expr.proofs.Joins.{all_joined, any_joined, truth_set}
use Rattle.lazy_expr.proofs.Meanings.{means_Check, means_Fold}
use Rattle.lazy_expr.proofs.Operands.{array_named_given, array_proper, none_some, some_same, typed_name, view_same}
use Rattle.lazy_expr.proofs.Relation.{Agree, IsArrayOrNothing, IsProper, IsTable}
use Rattle.lazy_expr.proofs.Statements.{one_ends, word_fits, word_register}
use Rattle.lazy_expr.proofs.Templates.{one_elements, unary_elements}
use Rattle.loop_prog.specs.Serial.{block, kind_of, meaning}
use Rattle.loop_prog.specs.Serial.{finish as loop_finish}
use Rattle.loop_prog.specs.State.{State, count_nest, view, with_counts}
use Rattle.loop_prog.specs.State.{bind as bind_register}
use Rattle.loop_prog.specs.Templates.{elements, leaf_values}
use Rattle.loop_prog.specs.Works.{as_kind, some_element}
use Rattle.loop_prog.specs.declared.program.Reg.{Reg}
use Rattle.loop_prog.specs.declared.program.Reg.TheVariants as reg
use Rattle.loop_prog.specs.declared.program.Statement.{Statement}
use Rattle.loop_prog.specs.declared.program.Statement.TheVariants as v
use Rattle.loop_prog.specs.declared.program.TemplateStep.{TemplateStep}
use Rattle.loop_prog.specs.declared.program.TemplateStep.TheVariants as step
use Rattle.loop_prog.specs.declared.program.Test.TheVariants.{Filled}

pub reduce_given : (op : RedOp) (t u : Ty) → reduce_type op t ≡ Some u → (u.0 ≡ reduce_kind op t.0) × (is_array u ≡
    false)
reduce_given op (kind, zero) u h = none_some u h
reduce_given op (kind, suc r) u h =
    let same : (reduce_kind op kind, 0) ≡ u = some_same (reduce_kind op kind, 0) u h in
    (sym (ap (λ (t : Ty). t.0) same), ap is_array (sym same))

each_at : {A B : Type 0} (R : A → B → Type 0) (xs : List A) (ys : List B) (k : ℕ) (x : A) (d : B) → Each R xs ys →
    slice_get xs k ≡ Some x → R x (slice_index_or ys k d)
each_at R [] ys k x d h e = none_some x e
each_at R (a ∷ xs) [] k x d h e = absurd h
each_at R (a ∷ xs) (y ∷ ys) zero x d h e = subst (λ b. R b y) (some_same a x e) h.0
each_at R (a ∷ xs) (y ∷ ys) (suc k) x d h e = each_at R xs ys k x d h.1 e

ready_typed : (rows : List Row) (names rets : List Ty) (test : Bool) (q : Eager × End) (s : Eager) → test ≡ true →
    EndOf rows names rets (where_ready test q s) → EndOf rows names rets q
ready_typed rows names rets true q s e h = h
ready_typed rows names rets false q s e h = not_both (sym e)

-- a word of a kind is what a register of the kind gets of it
kept_kind : (kind : Kind) (z : ℤ) → IsOfKind kind z → as_kind kind z ≡ z
kept_kind Int64 z h = refl
kept_kind Boolean z (inl e) = ap (λ (x : ℤ). truth (is_set x)) e ∙ sym e
kept_kind Boolean z (inr e) = ap (λ (x : ℤ). truth (is_set x)) e ∙ sym e

module _ (names : List Ty) (views : ℕ) (table : IsTable names) (room : length (view_types names) ≤ views)
    (own_shape : IsOwnBroadcast) (own_spread : StaysOverItsShape) where
  abbrev Alike : Eager → State → Type 0
  Alike = Agree names views

  abbrev regs : List Reg
  regs = table_of names

  abbrev kinds : List Kind
  kinds = word_kinds names

  module _ (to of : ℕ) (u : Ty) (is_to : slice_get names to ≡ Some u) (class : is_array u ≡ false) (at : Loc)
      (s : Eager) (t : State) (r : Alike s t) (a : ArrayRef) (proper : IsProper a)
      (is_array_of : view t (number regs of) ≡ ArrayOf a) where
    abbrev leaf : ℕ
    leaf = number regs of

    abbrev xs : List ℤ
    xs = elements_of s.buffers a

    kind_is : kind_of kinds (number regs to) ≡ u.0
    kind_is =
        table.kind to (inside names to u is_to) (is_array_by names to u is_to ∙ class) ∙
        ap (λ (t : Ty). t.0) (get_or_from_slice_get names to u (Int64, 0) is_to)

    leaf_shape : shape_of (view t leaf ∷ []) ≡ Ok a.extents
    leaf_shape = ap (λ (x : Bound). shape_of (x ∷ [])) is_array_of ∙ own_shape a.extents proper.small

    own_elements : elements_at t.buffers a.buffer (spread 0 a.extents a.extents a.places) ≡ xs
    own_elements = ap₂ (λ (buffers : List (List ℤ)) (places : List ℕ). elements_at buffers a.buffer places)
        (sym r.buffers) (own_spread a.extents a.places proper.count)

    -- a fold whose template has these elements
    fold_goes : (join : Join) (more : List TemplateStep) (words : List ℤ) →
        leaf_values t.views (step.Leaf leaf ∷ more) ≡ view t leaf ∷ [] →
        elements t.words t.views (step.Leaf leaf ∷ more) a.extents t.buffers ≡ words →
        meaning kinds (v.Fold (number regs to) join (template (step.Leaf leaf ∷ more)) at) t ≡ (
          with_counts (count_nest false t.counts) (bind_register (reg.Word (number regs to))
              (WordOf (as_kind (kind_of kinds (number regs to)) (joined join words))) t),
          GoesOn,
        )
    fold_goes join more words same made =
        ap (λ m. m t) (means_Fold kinds (number regs to) join (template (step.Leaf leaf ∷ more)) at) ∙
        ap (λ (x : Result (List ℕ) Fault). given x at (λ (ns : List ℕ) (q : State).
        with_counts (count_nest false q.counts) (bind_register (reg.Word (number regs to))
        (WordOf (as_kind (kind_of kinds (number regs to))
        (joined join (elements q.words q.views (step.Leaf leaf ∷ more) ns q.buffers)))) q)) t)
        (ap shape_of same ∙ leaf_shape) ∙
        ap (λ (ws : List ℤ). (
          with_counts (count_nest false t.counts) (bind_register (reg.Word (number regs to))
              (WordOf (as_kind (kind_of kinds (number regs to)) (joined join ws))) t),
          GoesOn,
        )) made

    fold_ends : (join : Join) (more : List TemplateStep) (words : List ℤ) (z : ℤ) →
        leaf_values t.views (step.Leaf leaf ∷ more) ≡ view t leaf ∷ [] →
        elements t.words t.views (step.Leaf leaf ∷ more) a.extents t.buffers ≡ words →
        as_kind (kind_of kinds (number regs to)) (joined join words) ≡ z →
        Ends Alike (bind to (WordOf z) s, GoesOn)
        (block kinds (v.Fold (number regs to) join (template (step.Leaf leaf ∷ more)) at ∷ []) t)
    fold_ends join more words z same made value =
        one_ends names views table room (bind to (WordOf z) s, GoesOn)
        (v.Fold (number regs to) join (template (step.Leaf leaf ∷ more)) at) t
        (with_counts (count_nest false t.counts) (bind_register (reg.Word (number regs to)) (WordOf z) t), GoesOn)
        (fold_goes join more words same made ∙
        ap (λ (x : ℤ). (
          with_counts (count_nest false t.counts)
              (bind_register (reg.Word (number regs to)) (WordOf x) t),
          GoesOn,
        )) value)
        (λ free. (
          counts_agree names views table room (count_nest false t.counts) (bind to (WordOf z) s)
              (bind_register (reg.Word (number regs to)) (WordOf z) t)
              (subst (λ (b : Reg). Alike (bind to (WordOf z) s) (bind_register b (WordOf z) t))
              (word_register names views table room to u is_to class)
              (bind_agrees names views table room to (WordOf z) s t (inside names to u is_to)
              (word_fits names to (is_array_by names to u is_to ∙ class) (WordOf z) refl) r)),
          refl,
        ))

    plain_ends : (join : Join) (z : ℤ) → as_kind (kind_of kinds (number regs to)) (joined join xs) ≡ z →
        Ends Alike (bind to (WordOf z) s, GoesOn)
        (block kinds (v.Fold (number regs to) join (template (step.Leaf leaf ∷ [])) at ∷ []) t)
    plain_ends join z value =
        fold_ends join [] xs z refl
        (one_elements t.words t.views a.extents t.buffers (step.Leaf leaf) (ArrayOf a) is_array_of ∙ own_elements) value

    test_ends : (join : Join) (z : ℤ) →
        as_kind (kind_of kinds (number regs to)) (joined join (map (unary_result un.Test) xs)) ≡ z →
        Ends Alike (bind to (WordOf z) s, GoesOn)
        (block kinds (v.Fold (number regs to) join (template (step.Leaf leaf ∷ step.Un un.Test ∷ [])) at ∷ []) t)
    test_ends join z value =
        fold_ends join (step.Un un.Test ∷ []) (map (unary_result un.Test) xs) z refl
        (unary_elements t.words t.views a.extents t.buffers (step.Leaf leaf) (ArrayOf a) un.Test is_array_of ∙
        ap (map (unary_result un.Test)) own_elements) value

    check_goes : (x : Result (List ℕ) Fault) → some_element a.extents (element_count a.extents) ≡ x →
        meaning kinds (v.Check Filled (leaf ∷ []) at) t ≡ shape_end at t x
    check_goes x e =
        ap (λ m. m t) (means_Check kinds Filled (leaf ∷ []) at) ∙
        ap (λ (shape : Result (List ℕ) Fault). loop_finish [] (changed t.buffers at (and_then
        (and_then shape (λ ns. some_element ns (element_count ns))) (λ ns. Ok t.buffers))) t) leaf_shape ∙
        ap (λ (shape : Result (List ℕ) Fault).
        loop_finish [] (changed t.buffers at (and_then shape (λ ns. Ok t.buffers))) t) e ∙ by_shape x
      where
        by_shape : (x : Result (List ℕ) Fault) →
            loop_finish [] (changed t.buffers at (and_then x (λ ns. Ok t.buffers))) t ≡ shape_end at t x
        by_shape (Ok ns) = refl
        by_shape (Err fault) = refl

    -- the least or the greatest: a fault where there is no element
    module _ (join : Join) where
      abbrev fold : Statement
      fold = v.Fold (number regs to) join (template (step.Leaf leaf ∷ [])) at

      extreme_ends : (words : List ℤ) → length words ≡ element_count a.extents →
          (as_kind (kind_of kinds (number regs to)) (joined join words) ≡ joined join words ⊎ (words ≡ [])) →
          words ≡ xs →
          Ends Alike
          (finish (to ∷ []) (valued s.buffers at (as_word (unless_empty words (joined join words)))) s)
          (block kinds (v.Check Filled (leaf ∷ []) at ∷ fold ∷ []) t)
      extreme_ends [] count value same =
          subst (λ (q : State × End). Ends Alike (s, Faulted ValueError at) (then_do q (block kinds (fold ∷ []))))
          (sym (check_goes (Err ValueError) (ap (some_element a.extents) (sym count)))) (λ free. (r, refl))
      extreme_ends (x ∷ words) count value same =
          subst (λ (q : State × End). Ends Alike (bind to (WordOf (joined join (x ∷ words))) s, GoesOn)
          (then_do q (block kinds (fold ∷ []))))
          (sym (check_goes (Ok a.extents) (ap (some_element a.extents) (sym count))))
          (plain_ends join (joined join (x ∷ words))
          (ap (λ (ws : List ℤ). as_kind (kind_of kinds (number regs to)) (joined join ws)) (sym same) ∙ kept value))
        where
          kept : (as_kind (kind_of kinds (number regs to)) (joined join (x ∷ words)) ≡ joined join (x ∷ words) ⊎
              (x ∷ words ≡ [])) →
              as_kind (kind_of kinds (number regs to)) (joined join (x ∷ words)) ≡ joined join (x ∷ words)
          kept (inl e) = e
          kept (inr e) = absurd (let h : x ∷ words ≡ [] = e in cc)

    words_count : length xs ≡ element_count a.extents
    words_count = length-map a.places (word_at s.buffers a.buffer) ∙ proper.count

    -- what a typed run binds is of the name's kind
    extreme_kept : (rows : List Row) (rets : List Ty) (words : List ℤ) (z : ℤ) →
        EndOf rows names rets (finish (to ∷ []) (valued s.buffers at (as_word (unless_empty words z))) s) →
        (as_kind (kind_of kinds (number regs to)) z ≡ z ⊎ (words ≡ []))
    extreme_kept rows rets [] z h = inr refl
    extreme_kept rows rets (x ∷ words) z h =
        let held : OfName h.0 u (slice_index_or (set s.names to (WordOf z)) to Unbound) =
        each_at (OfName h.0) names (set s.names to (WordOf z)) to u Unbound h.2.names is_to in
        let there : OfName h.0 u (WordOf z) =
        subst (OfName h.0 u) (get_or-set_same s.names to (WordOf z) Unbound
        (subst (λ (n : ℕ). suc to ≤ n) (sym r.size) (inside names to u is_to))) held in
        inl (ap (λ (kind : Kind). as_kind kind z) kind_is ∙ kept_kind u.0 z there.1)

    op_ends : (op : RedOp) (kind : Kind) → u.0 ≡ reduce_kind op kind → (rows : List Row) (rets : List Ty) →
        EndOf rows names rets (finish (to ∷ []) (valued s.buffers at (as_word (reduced op xs))) s) →
        Ends Alike (finish (to ∷ []) (valued s.buffers at (as_word (reduced op xs))) s)
        (block kinds (some_before op leaf at ++
        v.Fold (number regs to) (join_of op) (template (fold_steps op leaf)) at ∷ []) t)
    op_ends red.Sum kind e rows rets h =
        plain_ends joins.Sum (joined joins.Sum xs) (ap (λ (k : Kind). as_kind k (joined joins.Sum xs)) (kind_is ∙ e))
    op_ends red.Prod kind e rows rets h =
        plain_ends joins.Prod (joined joins.Prod xs) (ap (λ (k : Kind). as_kind k (joined joins.Prod xs)) (kind_is ∙ e))
    op_ends red.Min kind e rows rets h =
        extreme_ends joins.Min xs words_count (extreme_kept rows rets xs (joined joins.Min xs) h) refl
    op_ends red.Max kind e rows rets h =
        extreme_ends joins.Max xs words_count (extreme_kept rows rets xs (joined joins.Max xs) h) refl
    op_ends red.Any kind e rows rets h =
        test_ends joins.Or (truth (list_any is_set xs))
        (ap₂ as_kind (kind_is ∙ e) (any_joined xs) ∙ truth_set (list_any is_set xs))
    op_ends red.All kind e rows rets h =
        test_ends joins.Prod (truth (list_all is_set xs))
        (ap₂ as_kind (kind_is ∙ e) (all_joined xs) ∙ truth_set (list_all is_set xs))

  pub reduce_ends : (to : ℕ) (op : RedOp) (of : ℕ) (at : Loc) →
      given_types (array_named names of) (λ t. has_type names to (reduce_type op t)) ≡ true →
      (rows : List Row) (rets : List Ty) (s : Eager) (t : State) →
      EndOf rows names rets (eager_step (oper.Name of ∷ []) (to ∷ []) (reduce_work op at) s) → Alike s t →
      Ends Alike (eager_step (oper.Name of ∷ []) (to ∷ []) (reduce_work op at) s)
      (block kinds (some_before op (number regs of) at ++
      v.Fold (number regs to) (join_of op) (template (fold_steps op (number regs of))) at ∷ []) t)
  reduce_ends to op of at f rows rets s t h r =
      ready_ends State Alike (ready s (oper.Name of ∷ []) (to ∷ []))
      (finish (to ∷ []) (reduce_work op at (bound_of s of ∷ []) s.buffers) s) s
      (block kinds (some_before op (number regs of) at ++
      v.Fold (number regs to) (join_of op) (template (fold_steps op (number regs of))) at ∷ []) t)
      (λ b. by_value (bound_of s of) refl
      (array_proper names views table s t r of array.0 array.1 array.2)
      (and_left (is_bound (bound_of s of)) true (and_left (is_bound (bound_of s of) && true) _ b))
      (ready_typed rows names rets (ready s (oper.Name of ∷ []) (to ∷ []))
      (finish (to ∷ []) (reduce_work op at (bound_of s of ∷ []) s.buffers) s) s b h))
    where
      array : (a : Ty) × (slice_get names of ≡ Some a) × (is_array a ≡ true) ×
          (has_type names to (reduce_type op a) ≡ true)
      array = array_named_given names of (λ t. has_type names to (reduce_type op t)) f

      named : (u : Ty) × (reduce_type op array.0 ≡ Some u) × (slice_get names to ≡ Some u)
      named = typed_name names to (reduce_type op array.0) array.3

      by_value : (w : Bound) → bound_of s of ≡ w → IsArrayOrNothing w → is_bound w ≡ true →
          EndOf rows names rets (finish (to ∷ []) (reduce_work op at (w ∷ []) s.buffers) s) →
          Ends Alike (finish (to ∷ []) (reduce_work op at (w ∷ []) s.buffers) s)
          (block kinds (some_before op (number regs of) at ++
          v.Fold (number regs to) (join_of op) (template (fold_steps op (number regs of))) at ∷ []) t)
      by_value Unbound e p bound typed = not_both (sym bound)
      by_value (WordOf z) e p bound typed = absurd p
      by_value (ArrayOf a) e p bound typed =
          op_ends to of named.0 named.2 (reduce_given op array.0 named.0 named.1).1 at s t r a p
          (sym (view_same names views table s t r of array.0 array.1 array.2) ∙ e) op array.0.0
          (reduce_given op array.0 named.0 named.1).0 rows rets typed

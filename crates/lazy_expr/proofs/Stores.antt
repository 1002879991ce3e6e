-- An array store and its plain form, a nest whose template is the right side.
use Rattle.std.proofs.Common.{◌≡◌, ◌∙◌, ap, sym, subst, refl, Bool, true, false, ◌&&◌, ℕ, ◌≤◌, ℤ, pos, List, [], ◌∷◌}
use Rattle.std.proofs.Common.{◌++◌}
use Rattle.std.proofs.Common.{length, Ok, Err}
use Rattle.std.specs.Prelude.{slice_get, if◌then◌else◌, nat_le}
use Rattle.std.specs.List.{flat_map, list_all}
use Rattle.krn_base.specs.declared.fault.Fault.TheVariants.{ValueError}
use Rattle.krn_base.specs.declared.place.Loc.{Loc}
use Rattle.overlap.specs.Walks.{BothWaysAlike}
use Rattle.array_ops.specs.Arrays.{ArrayRef, with_words}
use Rattle.array_ops.specs.Elements.{Bound, Unbound, WordOf, ArrayOf, extents_of, operand_elements, spreads_to}
use Rattle.array_ops.specs.Subscripts.{and_then}
use Rattle.eager_rules.specs.Blocks.{End, GoesOn, Faulted}
use Rattle.eager_rules.specs.Eager.{finish, ready}
use Rattle.eager_rules.specs.Eager.{step as eager_step}
use Rattle.eager_rules.specs.Sound.{given_types}
use Rattle.eager_rules.specs.State.{bound_of, operand, with_buffers}
use Rattle.eager_rules.specs.State.{State as Eager}
use Rattle.eager_rules.specs.Types.{Ty, is_array, may_store, store_fits, type_of}
use Rattle.eager_rules.specs.Works.{array_in, changed, store_work}
use Rattle.eager_rules.specs.declared.program.Oper.{Oper}
use Rattle.eager_rules.specs.declared.program.Oper.TheVariants as oper
use Rattle.lazy_expr.specs.Plain.{operand_step, template}
use Rattle.lazy_expr.specs.Table.{number, table_of, view_types, word_kinds}
use Rattle.lazy_expr.proofs.Binds.{and_left, buffers_agree, counts_agree}
use Rattle.lazy_expr.proofs.Filled.{nest_made}
use Rattle.lazy_expr.proofs.Follows.{Ends, ready_ends}
use Rattle.lazy_expr.proofs.Maps.{steps_for, unchanged}
use Rattle.lazy_expr.proofs.Meanings.{means_Nest}
use Rattle.lazy_expr.proofs.Operands.{array_proper, some_given, view_same}
use Rattle.lazy_expr.proofs.Relation.{Agree, IsProper, IsTable}
use Rattle.lazy_expr.proofs.Shapes.{array_in_proper}
use Rattle.lazy_expr.proofs.Statements.{one_ends}
use Rattle.lazy_expr.proofs.Templates.{StepFor, one_elements, shapes_same}
use Rattle.loop_prog.specs.Serial.{block}
use Rattle.loop_prog.specs.State.{State, count_nest}
use Rattle.loop_prog.specs.State.{with_buffers as loop_buffers}
use Rattle.loop_prog.specs.Templates.{elements, leaf_values, some_clash}
use Rattle.loop_prog.specs.Works.{nest, nest_into}
use Rattle.eager_rules.specs.Blocks.{given}
use Rattle.loop_prog.specs.declared.program.Reg.{Reg}
use Rattle.loop_prog.specs.declared.program.Statement.TheVariants as v
use Rattle.loop_prog.specs.declared.program.TemplateStep.{TemplateStep}

one_shape : (v : Bound) → extents_of v ++ [] ≡ extents_of v
one_shape Unbound = refl
one_shape (WordOf z) = refl
one_shape (ArrayOf a) = refl

module _ (names : List Ty) (views : ℕ) (table : IsTable names) (room : length (view_types names) ≤ views)
    (alike : BothWaysAlike) where
  abbrev Alike : Eager → State → Type 0
  Alike = Agree names views

  abbrev regs : List Reg
  regs = table_of names

  -- a target, and a step that stands for the right side
  module _ (s : Eager) (t : State) (r : Alike s t) (a : ArrayRef) (proper : IsProper a) (p : TemplateStep) (w : Bound)
      (is_step : StepFor t.words t.views p w) (at : Loc) where
    leaf_shape : flat_map extents_of (leaf_values t.views (p ∷ [])) ≡ extents_of w
    leaf_shape =
        shapes_same t.words t.views [] [] (λ x. p) (λ x. w) (oper.Int (pos 0) ∷ []) [] refl
        (is_step, tt) ∙ one_shape w

    by_fit : (fit : Bool) → list_all (λ from. spreads_to from a.extents) (extents_of w) ≡ fit →
        Ends Alike
        (finish [] (changed s.buffers at (and_then (if fit then Ok a.extents else Err ValueError)
        (λ ns. Ok (with_words s.buffers a.buffer a.places (operand_elements s.buffers ns w))))) s)
        (nest a (p ∷ []) at t)
    by_fit false e = λ free.
        subst (λ (test : Bool). Ends Alike (s, Faulted ValueError at)
        (given (if test then Ok a.extents else Err ValueError) at
        (λ ns. nest_into a (some_clash a (leaf_values t.views (p ∷ []))) (p ∷ [])) t))
        (sym (ap (list_all (λ from. spreads_to from a.extents)) leaf_shape ∙ e)) (λ go. (r, refl)) free
    by_fit true e =
        subst (λ (q : State × End). Ends Alike
        (with_buffers (with_words s.buffers a.buffer a.places (operand_elements s.buffers a.extents w)) s, GoesOn) q)
        (sym (nest_made alike a (p ∷ []) at t proper.count
        (ap (list_all (λ from. spreads_to from a.extents)) leaf_shape ∙ e)))
        (λ free. (
          counts_agree names views table room
              (count_nest (some_clash a (leaf_values t.views (p ∷ []))) t.counts)
              (with_buffers (with_words s.buffers a.buffer a.places (operand_elements s.buffers a.extents w)) s)
              (loop_buffers (with_words t.buffers a.buffer a.places
              (elements t.words t.views (p ∷ []) a.extents t.buffers)) t)
              (buffers_agree names views table room
              (with_words s.buffers a.buffer a.places (operand_elements s.buffers a.extents w))
              (with_words t.buffers a.buffer a.places (elements t.words t.views (p ∷ []) a.extents t.buffers)) s t
              (ap (λ (buffers : List (List ℤ)).
              with_words buffers a.buffer a.places (operand_elements buffers a.extents w))
              r.buffers ∙
              ap (with_words t.buffers a.buffer a.places)
              (sym (one_elements t.words t.views a.extents t.buffers p w is_step))) r),
          refl,
        ))

  pub store_ends : (of : ℕ) (value : Oper) (at : Loc) →
      given_types (slice_get names of) (λ t. given_types (type_of names value) (λ v. store_fits t v)) ≡ true →
      (s : Eager) (t : State) → Alike s t →
      Ends Alike (eager_step (oper.Name of ∷ value ∷ []) [] (store_work at) s)
      (block (word_kinds names) (v.Nest (number regs of) (template (operand_step regs value ∷ [])) at ∷ []) t)
  store_ends of value at f s t r =
      let u = some_given (slice_get names of) (λ t. given_types (type_of names value) (λ v. store_fits t v)) f in
      let w = some_given (type_of names value) (λ v. store_fits u.0 v) u.2 in
      let class : is_array u.0 ≡ true = and_left (is_array u.0) (nat_le w.0.1 u.0.1)
      (and_left (is_array u.0 && nat_le w.0.1 u.0.1) (may_store u.0.0 w.0.0) w.2) in
      let a : ArrayRef = array_in (bound_of s of) in
      let is_step = (steps_for names views table room s t r t.views (value ∷ []) (w.0 ∷ []) (w.1, tt)
      (unchanged names views table room t (value ∷ []))).0 in
      one_ends names views table room (eager_step (oper.Name of ∷ value ∷ []) [] (store_work at) s)
      (v.Nest (number regs of) (template (operand_step regs value ∷ [])) at) t
      (nest a (operand_step regs value ∷ []) at t)
      (ap (λ m. m t) (means_Nest (word_kinds names) (number regs of) (template (operand_step regs value ∷ [])) at) ∙
      ap (λ (x : Bound). nest (array_in x) (operand_step regs value ∷ []) at t)
      (sym (view_same names views table s t r of u.0 u.1 class)))
      (ready_ends State Alike (ready s (oper.Name of ∷ value ∷ []) [])
      (finish [] (store_work at (bound_of s of ∷ operand s value ∷ []) s.buffers) s) s
      (nest a (operand_step regs value ∷ []) at t)
      (λ b. by_fit s t r a
      (array_in_proper (bound_of s of) (array_proper names views table s t r of u.0 u.1 class))
      (operand_step regs value) (operand s value) is_step at
      (list_all (λ from. spreads_to from a.extents) (extents_of (operand s value))) refl))

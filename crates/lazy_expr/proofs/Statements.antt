-- A statement that has no block and its plain form, where both are the same work on the same values.
use Rattle.std.proofs.Common.{◌≡◌, ◌∙◌, ap, ap₂, sym, subst, refl, arith, ℕ, zero, suc, ◌-◌, ◌<◌, ◌≤◌, ℤ, pos, Bool}
use Rattle.std.proofs.Common.{true}
use Rattle.std.proofs.Common.{false, ◌&&◌, not, List, [], ◌∷◌, map, length, Option, Some, None, Result, Ok, Err}
use Rattle.std.proofs.Common.{eqb-true, ltb-true}
use Rattle.std.proofs.Math.Dec.{eqb-suc-zero}
use Rattle.std.specs.Prelude.{slice_get, nat_lt, nat_le, ◌==◌, if◌then◌else◌}
use Rattle.std.specs.List.{AllByRecursion, flat_map, list_all}
use Rattle.krn_base.specs.declared.fault.Fault.{Fault}
use Rattle.krn_base.specs.declared.kind.Kind.{Kind}
use Rattle.krn_base.specs.declared.kind.Kind.TheVariants.{Int64}
use Rattle.krn_base.specs.declared.place.Loc.{Loc}
use Rattle.view_places.specs.Arrays.{element_count, is_small}
use Rattle.array_ops.specs.Arrays.{ArrayRef, whole_of, word_at}
use Rattle.array_ops.specs.Elements.{Bound, WordOf, ArrayOf, extents_of, filled, fresh_shape}
use Rattle.array_ops.specs.Subscripts.{and_then, element_place, flipped, picked}
use Rattle.array_ops.specs.declared.operation.Fill.{Fill}
use Rattle.array_ops.specs.declared.operation.Fill.TheVariants as fills
use Rattle.array_ops.specs.declared.subscript.Subscript.{Subscript}
use Rattle.eager_rules.specs.Blocks.{End, Returned}
use Rattle.eager_rules.specs.Eager.{where_ready, ready}
use Rattle.eager_rules.specs.Eager.{step as eager_step}
use Rattle.eager_rules.specs.Sound.{all_numbers, array_named, axis_fits, given_types, has_type}
use Rattle.eager_rules.specs.State.{bound_of, operand}
use Rattle.eager_rules.specs.State.{State as Eager}
use Rattle.eager_rules.specs.Types.{Ty, fresh_fits, is_array, pick_type, put_fits, removed, same_types, same_type}
use Rattle.eager_rules.specs.Types.{sub_fits}
use Rattle.eager_rules.specs.Types.{type_of, types_of, word_type, is_scalar, may_store}
use Rattle.eager_rules.specs.Works.{Work, array_in, as_array, as_word, extent_work, flip_work, fresh_work, get_work}
use Rattle.eager_rules.specs.Works.{made_new, move_work, pick_work, put_work, sub_operands, subscripts_of, valued}
use Rattle.eager_rules.specs.Works.{extent_of, word_of, word_result, word_work}
use Rattle.eager_rules.specs.declared.program.CoreSub.{CoreSub}
use Rattle.eager_rules.specs.declared.program.Oper.{Oper}
use Rattle.eager_rules.specs.declared.program.Oper.TheVariants as oper
use Rattle.eager_rules.specs.declared.program.WordOp.{WordOp}
use Rattle.eager_rules.specs.declared.program.WordOp.TheVariants as word_op
use Rattle.lazy_expr.specs.Table.{back_of, is_array_name, number, oper_of, opers_of, register, sub_of, table_of}
use Rattle.lazy_expr.specs.Table.{view_types, word_kinds}
use Rattle.lazy_expr.proofs.Binds.{DoneTakes, and_left, and_right, inside, is_array_by, not_both, step_ends, takes_none}
use Rattle.lazy_expr.proofs.Follows.{Ends, ready_ends}
use Rattle.lazy_expr.proofs.Meanings.{block_one, means_Extent, means_Flip, means_Fresh, means_Get, means_Put}
use Rattle.lazy_expr.proofs.Meanings.{means_Return, means_Same, means_Set, means_ViewOf}
use Rattle.lazy_expr.proofs.Operands.{AreScalar, IsScalar, array_named_given, array_proper, backs_same, none_some}
use Rattle.lazy_expr.proofs.Operands.{numbers_scalar, of_types, one_given, scalar_extents, scalar_same, scalars_same}
use Rattle.lazy_expr.proofs.Operands.{some_given, some_same, subs_given, subs_scalar, subscripts_same, typed_name}
use Rattle.lazy_expr.proofs.Operands.{types_scalar, view_same, word_scalars}
use Rattle.lazy_expr.proofs.Relation.{Agree, Fitting, IsArrayOrNothing, IsProper, IsTable}
use Rattle.lazy_expr.proofs.Shapes.{FlipsProper, PicksProper, array_in_proper, fresh_small, whole_proper}
use Rattle.loop_prog.specs.Serial.{block, meaning}
use Rattle.loop_prog.specs.Serial.{finish as loop_finish}
use Rattle.loop_prog.specs.State.{State, view}
use Rattle.loop_prog.specs.State.{operand as loop_operand}
use Rattle.loop_prog.specs.declared.program.Reg.{Reg}
use Rattle.loop_prog.specs.declared.program.Reg.TheVariants as reg
use Rattle.loop_prog.specs.declared.program.Statement.{Statement}
use Rattle.loop_prog.specs.declared.program.Statement.TheVariants as v

-- ---- values that names may stand for
module _ (names : List Ty) (n : ℕ) where
  pub word_fits : is_array_name names n ≡ false → (x : Bound) → extents_of x ≡ [] → Fitting names n x
  word_fits e x h = ((λ p. h), (λ p. not_both (sym p ∙ e)))

  pub array_fits : is_array_name names n ≡ true → (x : Bound) → IsArrayOrNothing x → Fitting names n x
  array_fits e x h = ((λ p. not_both (sym e ∙ p)), (λ p. h))

  pub word_taken : is_array_name names n ≡ false → (buffers : List (List ℤ)) (at : Loc) (r : Result ℤ Fault) →
      DoneTakes names (n ∷ []) (valued buffers at (as_word r))
  word_taken e buffers at (Ok z) = (word_fits e (WordOf z) refl, tt)
  word_taken e buffers at (Err fault) = tt

  place_taken : is_array_name names n ≡ false → (buffers : List (List ℤ)) (at : Loc) (r : Result ℕ Fault)
      (g : ℕ → ℤ) → DoneTakes names (n ∷ []) (valued buffers at (and_then r (λ p. Ok (WordOf (g p)))))
  place_taken e buffers at (Ok p) g = (word_fits e (WordOf (g p)) refl, tt)
  place_taken e buffers at (Err fault) g = tt

  array_taken : is_array_name names n ≡ true → (buffers : List (List ℤ)) (at : Loc) (r : Result ArrayRef Fault) →
      ((a : ArrayRef) → r ≡ Ok a → IsProper a) → DoneTakes names (n ∷ []) (valued buffers at (as_array r))
  array_taken e buffers at (Ok a) h = (array_fits e (ArrayOf a) (h a refl), tt)
  array_taken e buffers at (Err fault) h = tt

  pub new_taken : is_array_name names n ≡ true → (buffers : List (List ℤ)) (at : Loc) (words : List ℕ → List ℤ)
      (r : Result (List ℕ) Fault) → ((ns : List ℕ) → r ≡ Ok ns → is_small ns ≡ true) →
      DoneTakes names (n ∷ []) (made_new buffers at words r)
  new_taken e buffers at words (Ok ns) h =
      (array_fits e (ArrayOf (whole_of (length buffers) ns)) (whole_proper (length buffers) ns (h ns refl)), tt)
  new_taken e buffers at words (Err fault) h = tt

  moved_taken : (values : List Bound) (buffers : List (List ℤ)) → AllByRecursion (Fitting names n) values →
      DoneTakes names (n ∷ []) (move_work values buffers)
  moved_taken [] buffers h = tt
  moved_taken (x ∷ []) buffers h = (h.0, tt)
  moved_taken (x ∷ y ∷ values) buffers h = tt

  done_taken : is_array_name names n ≡ false → (op : WordOp) (at : Loc) (values : List Bound)
      (buffers : List (List ℤ)) → AllByRecursion (Fitting names n) values →
      DoneTakes names (n ∷ []) (word_work op at values buffers)
  done_taken e (word_op.Bin op) at values buffers h =
      word_taken e buffers at (word_result (word_op.Bin op) (map word_of values))
  done_taken e (word_op.Un op) at values buffers h =
      word_taken e buffers at (word_result (word_op.Un op) (map word_of values))
  done_taken e word_op.Move at values buffers h = moved_taken values buffers h

-- ---- types of results
pub positive : (n : ℕ) → 0 < n → not (n == 0) ≡ true
positive zero p = absurd (omega (arith, p))
positive (suc n) p = ap not (eqb-suc-zero n)

rank_left : (below : Bool) (rank gone : ℕ) (t u : Ty) → nat_lt gone rank ≡ below →
    (if below then Some (t.0, rank - gone) else None) ≡ Some u → is_array u ≡ true
rank_left true rank gone t u e h =
    let there : gone < rank = ltb-true gone rank e in
    ap is_array (sym (some_same (t.0, rank - gone) u h)) ∙ positive (rank - gone) (omega (arith, there))
rank_left false rank gone t u e h = none_some u h

pub pick_array : (t u : Ty) (subs : List CoreSub) → pick_type t subs ≡ Some u → is_array u ≡ true
pick_array t u subs h = by_test (nat_le (length subs) t.1) h
  where
    by_test : (test : Bool) →
        (if test then (if nat_lt (removed subs) t.1 then Some (t.0, t.1 - removed subs) else None) else None) ≡ Some u →
        is_array u ≡ true
    by_test true h = rank_left (nat_lt (removed subs) t.1) t.1 (removed subs) t u refl h
    by_test false h = none_some u h

dims_array : (dims : ℕ) (t : Ty) → ((nat_lt 0 dims && nat_le dims 4) && (t.1 == dims)) ≡ true → is_array t ≡ true
dims_array zero t h = not_both (sym h)
dims_array (suc n) t h =
    subst (λ (m : ℕ). not (m == 0) ≡ true)
    (sym (eqb-true t.1 (suc n) (and_right (nat_lt 0 (suc n) && nat_le (suc n) 4) (t.1 == suc n) h)))
    (positive (suc n) (omega arith))

pub fresh_array : (fill : Fill) (dims : ℕ) (t : Ty) → fresh_fits fill dims t ≡ true → is_array t ≡ true
fresh_array fills.Zero dims t h = dims_array dims t h
fresh_array fills.One dims t h = dims_array dims t h
fresh_array fills.Count dims t h =
    ap is_array (some_same t (Int64, 1)
    (one_given (Some t) (Int64, 1) (and_right (dims == 1) (same_type t (Int64, 1)) h)))

module _ (names : List Ty) (views : ℕ) (table : IsTable names) (room : length (view_types names) ≤ views) where
  abbrev Alike : Eager → State → Type 0
  Alike = Agree names views

  abbrev kinds : List Kind
  kinds = word_kinds names

  abbrev regs : List Reg
  regs = table_of names

  pub one_ends : (p : Eager × End) (y : Statement) (t : State) (q : State × End) → meaning kinds y t ≡ q →
      Ends Alike p q → Ends Alike p (block kinds (y ∷ []) t)
  one_ends p y t q e h = subst (λ (x : State × End). Ends Alike p x) (sym (block_one kinds y t ∙ e)) h

  pub word_register : (n : ℕ) (u : Ty) → slice_get names n ≡ Some u → is_array u ≡ false →
      register regs n ≡ reg.Word (number regs n)
  word_register n u e h = table.word n (inside names n u e) (is_array_by names n u e ∙ h)

  pub view_register : (n : ℕ) (u : Ty) → slice_get names n ≡ Some u → is_array u ≡ true →
      register regs n ≡ reg.View (number regs n)
  view_register n u e h = table.view n (inside names n u e) (is_array_by names n u e ∙ h)

  -- a statement that binds one name, and its plain form, which binds one register
  binds_one : (reads : List Oper) (to : ℕ) (u : Ty) (a : Reg) (work other : Work) (s : Eager) (t : State)
      (values : List Bound) (y : Statement) → slice_get names to ≡ Some u → register regs to ≡ a →
      meaning kinds y t ≡ loop_finish (a ∷ []) (other values t.buffers) t → work ≡ other →
      map (operand s) reads ≡ values → DoneTakes names (to ∷ []) (work (map (operand s) reads) s.buffers) → Alike s t →
      Ends Alike (eager_step reads (to ∷ []) work s) (block kinds (y ∷ []) t)
  binds_one reads to u a work other s t values y e is means alike same takes r =
      one_ends (eager_step reads (to ∷ []) work s) y t (loop_finish (a ∷ []) (other values t.buffers) t) means
      (subst (λ (b : Reg). Ends Alike (eager_step reads (to ∷ []) work s)
      (loop_finish (b ∷ []) (other values t.buffers) t)) is
      (step_ends names views table room reads (to ∷ []) work other s t values (inside names to u e, tt) alike same takes
      r))

  pub word_ends : (to : ℕ) (op : WordOp) (args : List Oper) (at : Loc) →
      given_types (types_of names args) (λ types. has_type names to (word_type op types)) ≡ true →
      (s : Eager) (t : State) → Alike s t →
      Ends Alike (eager_step args (to ∷ []) (word_work op at) s)
      (block kinds (v.Set (number regs to) op (opers_of regs args) at ∷ []) t)
  word_ends to op args at f s t r =
      let taken = some_given (types_of names args) (λ types. has_type names to (word_type op types)) f in
      let named = typed_name names to (word_type op taken.0) taken.2 in
      let scalars = word_scalars op taken.0 named.0 named.1 in
      let given : AreScalar names args =
      types_scalar names args taken.0 (of_types names args taken.0 taken.1) scalars.0 in
      let is_word : is_array_name names to ≡ false = is_array_by names to named.0 named.2 ∙ scalars.1 in
      binds_one args to named.0 (reg.Word (number regs to)) (word_work op at) (word_work op at) s t
      (map (loop_operand t) (opers_of regs args)) (v.Set (number regs to) op (opers_of regs args) at) named.2
      (word_register to named.0 named.2 scalars.1)
      (ap (λ m. m t) (means_Set kinds (number regs to) op (opers_of regs args) at)) refl
      (scalars_same names views table s t r args given)
      (done_taken names to is_word op at (map (operand s) args) s.buffers (all_fit is_word args given)) r
    where
      all_fit : is_array_name names to ≡ false → (xs : List Oper) → AreScalar names xs →
          AllByRecursion (Fitting names to) (map (operand s) xs)
      all_fit e [] h = tt
      all_fit e (x ∷ xs) h =
          (word_fits names to e (operand s x) (scalar_extents names views table s t r x h.0), all_fit e xs h.1)

  pub extent_ends : (to of : ℕ) (axis : Option ℕ) →
      (given_types (array_named names of) (λ t. axis_fits axis t.1) && has_type names to (Some (Int64, 0))) ≡ true →
      (s : Eager) (t : State) → Alike s t →
      Ends Alike (eager_step (oper.Name of ∷ []) (to ∷ []) (extent_work axis) s)
      (block kinds (v.Extent (number regs to) (number regs of) axis ∷ []) t)
  extent_ends to of axis f s t r =
      let first : Bool = given_types (array_named names of) (λ t. axis_fits axis t.1) in
      let a = array_named_given names of (λ t. axis_fits axis t.1)
      (and_left first (has_type names to (Some (Int64, 0))) f) in
      let is_to : slice_get names to ≡ Some (Int64, 0) =
      one_given (slice_get names to) (Int64, 0) (and_right first (has_type names to (Some (Int64, 0))) f) in
      binds_one (oper.Name of ∷ []) to (Int64, 0) (reg.Word (number regs to)) (extent_work axis) (extent_work axis) s t
      (view t (number regs of) ∷ []) (v.Extent (number regs to) (number regs of) axis) is_to
      (word_register to (Int64, 0) is_to refl)
      (ap (λ m. m t) (means_Extent kinds (number regs to) (number regs of) axis)) refl
      (ap (λ x. x ∷ []) (view_same names views table s t r of a.0 a.1 a.2)) (
        word_fits names to (is_array_by names to (Int64, 0) is_to)
            (WordOf (pos (extent_of axis (array_in (bound_of s of))))) refl,
        tt,
      ) r

  pub get_ends : (to of : ℕ) (index : List Oper) (at : Loc) →
      (given_types (array_named names of) (λ t. (length index == t.1) && has_type names to (Some (t.0, 0)))
      && all_numbers names index) ≡ true →
      (s : Eager) (t : State) → Alike s t →
      Ends Alike (eager_step (oper.Name of ∷ index) (to ∷ []) (get_work at) s)
      (block kinds (v.Get (number regs to) (number regs of) (opers_of regs index) at ∷ []) t)
  get_ends to of index at f s t r =
      let test : Ty → Bool = λ t. (length index == t.1) && has_type names to (Some (t.0, 0)) in
      let a = array_named_given names of test
      (and_left (given_types (array_named names of) test) (all_numbers names index) f) in
      let is_to : slice_get names to ≡ Some (a.0.0, 0) =
      one_given (slice_get names to) (a.0.0, 0)
      (and_right (length index == a.0.1) (has_type names to (Some (a.0.0, 0))) a.3) in
      let given : AreScalar names index = numbers_scalar names index
      (and_right (given_types (array_named names of) test) (all_numbers names index) f) in
      binds_one (oper.Name of ∷ index) to (a.0.0, 0) (reg.Word (number regs to)) (get_work at) (get_work at) s t
      (view t (number regs of) ∷ map (loop_operand t) (opers_of regs index))
      (v.Get (number regs to) (number regs of) (opers_of regs index) at) is_to
      (word_register to (a.0.0, 0) is_to refl)
      (ap (λ m. m t) (means_Get kinds (number regs to) (number regs of) (opers_of regs index) at)) refl
      (ap₂ (λ (x : Bound) (xs : List Bound). x ∷ xs) (view_same names views table s t r of a.0 a.1 a.2)
      (scalars_same names views table s t r index given))
      (place_taken names to (is_array_by names to (a.0.0, 0) is_to) s.buffers at
      (element_place (array_in (bound_of s of)) (map word_of (map (operand s) index)))
      (λ place. word_at s.buffers (array_in (bound_of s of)).buffer place)) r

  pub put_ends : (of : ℕ) (index : List Oper) (value : Oper) (at : Loc) →
      (given_types (array_named names of) (λ t. (length index == t.1)
      && given_types (type_of names value) (λ v. put_fits t v)) && all_numbers names index) ≡ true →
      (s : Eager) (t : State) → Alike s t →
      Ends Alike (eager_step (oper.Name of ∷ value ∷ index) [] (put_work at) s)
      (block kinds (v.Put (number regs of) (opers_of regs index) (oper_of regs value) at ∷ []) t)
  put_ends of index value at f s t r =
      let test : Ty → Bool = λ t. (length index == t.1) && given_types (type_of names value) (λ v. put_fits t v) in
      let a = array_named_given names of test
      (and_left (given_types (array_named names of) test) (all_numbers names index) f) in
      let w = some_given (type_of names value) (λ v. put_fits a.0 v)
      (and_right (length index == a.0.1) (given_types (type_of names value) (λ v. put_fits a.0 v)) a.3) in
      let given : AreScalar names index = numbers_scalar names index
      (and_right (given_types (array_named names of) test) (all_numbers names index) f) in
      let is_word : IsScalar names value = record {
        type = w.0;
        is_type = w.1;
        scalar = no_array_type w.0 (and_right (is_array a.0) (is_scalar w.0)
            (and_left (is_array a.0 && is_scalar w.0) (may_store a.0.0 w.0.0) w.2));
      } in
      one_ends (eager_step (oper.Name of ∷ value ∷ index) [] (put_work at) s)
      (v.Put (number regs of) (opers_of regs index) (oper_of regs value) at) t _
      (ap (λ m. m t) (means_Put kinds (number regs of) (opers_of regs index) (oper_of regs value) at))
      (step_ends names views table room (oper.Name of ∷ value ∷ index) [] (put_work at) (put_work at) s t
      (view t (number regs of) ∷ loop_operand t (oper_of regs value) ∷ map (loop_operand t) (opers_of regs index)) tt
      refl
      (ap₂ (λ (x : Bound) (xs : List Bound). x ∷ xs) (view_same names views table s t r of a.0 a.1 a.2)
      (ap₂ (λ (x : Bound) (xs : List Bound). x ∷ xs) (scalar_same names views table s t r value is_word)
      (scalars_same names views table s t r index given)))
      (takes_none names (put_work at (map (operand s) (oper.Name of ∷ value ∷ index)) s.buffers)) r)
    where
      no_array_type : (u : Ty) → is_scalar u ≡ true → is_array u ≡ false
      no_array_type u h = ap not h

  module _ (picks_proper : PicksProper) (flip_proper : FlipsProper) where
    pub pick_ends : (to of : ℕ) (subs : List CoreSub) (at : Loc) →
        (given_types (array_named names of) (λ t. has_type names to (pick_type t subs))
        && list_all (sub_fits names) subs) ≡ true →
        (s : Eager) (t : State) → Alike s t →
        Ends Alike (eager_step (oper.Name of ∷ flat_map sub_operands subs) (to ∷ []) (pick_work subs at) s)
        (block kinds (v.ViewOf (number regs to) (number regs of) (map (sub_of regs) subs) at ∷ []) t)
    pick_ends to of subs at f s t r =
        let test : Ty → Bool = λ t. has_type names to (pick_type t subs) in
        let a = array_named_given names of test
        (and_left (given_types (array_named names of) test) (list_all (sub_fits names) subs) f) in
        let named = typed_name names to (pick_type a.0 subs) a.3 in
        let array : is_array named.0 ≡ true = pick_array a.0 named.0 subs named.1 in
        let given : AreScalar names (flat_map sub_operands subs) = subs_scalar names subs
        (and_right (given_types (array_named names of) test) (list_all (sub_fits names) subs) f) in
        binds_one (oper.Name of ∷ flat_map sub_operands subs) to named.0 (reg.View (number regs to)) (pick_work subs at)
        (pick_work (map (sub_of regs) subs) at) s t
        (view t (number regs of) ∷ map (loop_operand t) (flat_map sub_operands (map (sub_of regs) subs)))
        (v.ViewOf (number regs to) (number regs of) (map (sub_of regs) subs) at) named.2
        (view_register to named.0 named.2 array)
        (ap (λ m. m t) (means_ViewOf kinds (number regs to) (number regs of) (map (sub_of regs) subs) at))
        (works subs at)
        (ap₂ (λ (x : Bound) (xs : List Bound). x ∷ xs) (view_same names views table s t r of a.0 a.1 a.2)
        (scalars_same names views table s t r (flat_map sub_operands subs) given ∙
        ap (map (loop_operand t)) (sym (subs_given regs subs))))
        (array_taken names to (is_array_by names to named.0 named.2 ∙ array) s.buffers at
        (picked (subscripts_of subs (map (operand s) (flat_map sub_operands subs))) (array_in (bound_of s of)))
        (λ b e. picks_proper (subscripts_of subs (map (operand s) (flat_map sub_operands subs)))
        (array_in (bound_of s of)) b
        (array_in_proper (bound_of s of) (array_proper names views table s t r of a.0 a.1 a.2)) e)) r
      where
        work_at : (subs : List CoreSub) (at : Loc) (values : List Bound) (buffers : List (List ℤ)) →
            pick_work subs at values buffers ≡ pick_work (map (sub_of regs) subs) at values buffers
        work_at subs at [] buffers = refl
        work_at subs at (x ∷ values) buffers =
            ap (λ (parts : List Subscript). valued buffers at (as_array (picked parts (array_in x))))
            (sym (subscripts_same regs subs values))

        works : (subs : List CoreSub) (at : Loc) → pick_work subs at ≡ pick_work (map (sub_of regs) subs) at
        works subs at = λ i values buffers. work_at subs at values buffers i

    pub flip_ends : (to of : ℕ) →
        given_types (array_named names of) (λ t. has_type names to (Some t)) ≡ true →
        (s : Eager) (t : State) → Alike s t →
        Ends Alike (eager_step (oper.Name of ∷ []) (to ∷ []) flip_work s)
        (block kinds (v.Flip (number regs to) (number regs of) ∷ []) t)
    flip_ends to of f s t r =
        let a = array_named_given names of (λ t. has_type names to (Some t)) f in
        let is_to : slice_get names to ≡ Some a.0 = one_given (slice_get names to) a.0 a.3 in
        binds_one (oper.Name of ∷ []) to a.0 (reg.View (number regs to)) flip_work flip_work s t
        (view t (number regs of) ∷ []) (v.Flip (number regs to) (number regs of)) is_to
        (view_register to a.0 is_to a.2) (ap (λ m. m t) (means_Flip kinds (number regs to) (number regs of))) refl
        (ap (λ x. x ∷ []) (view_same names views table s t r of a.0 a.1 a.2)) (
          array_fits names to (is_array_by names to a.0 is_to ∙ a.2) (ArrayOf (flipped (array_in (bound_of s of))))
              (flip_proper (array_in (bound_of s of))
              (array_in_proper (bound_of s of) (array_proper names views table s t r of a.0 a.1 a.2))),
          tt,
        ) r

  pub alias_ends : (to of : ℕ) →
      given_types (array_named names of) (λ t. has_type names to (Some t)) ≡ true →
      (s : Eager) (t : State) → Alike s t →
      Ends Alike (eager_step (oper.Name of ∷ []) (to ∷ []) move_work s)
      (block kinds (v.Same (number regs to) (number regs of) ∷ []) t)
  alias_ends to of f s t r =
      let a = array_named_given names of (λ t. has_type names to (Some t)) f in
      let is_to : slice_get names to ≡ Some a.0 = one_given (slice_get names to) a.0 a.3 in
      binds_one (oper.Name of ∷ []) to a.0 (reg.View (number regs to)) move_work move_work s t
      (view t (number regs of) ∷ []) (v.Same (number regs to) (number regs of)) is_to
      (view_register to a.0 is_to a.2) (ap (λ m. m t) (means_Same kinds (number regs to) (number regs of))) refl
      (ap (λ x. x ∷ []) (view_same names views table s t r of a.0 a.1 a.2)) (
        array_fits names to (is_array_by names to a.0 is_to ∙ a.2) (bound_of s of)
            (array_proper names views table s t r of a.0 a.1 a.2),
        tt,
      ) r

  pub fresh_ends : (to : ℕ) (dims : List Oper) (fill : Fill) (at : Loc) →
      (given_types (slice_get names to) (fresh_fits fill (length dims)) && all_numbers names dims) ≡ true →
      (s : Eager) (t : State) → Alike s t →
      Ends Alike (eager_step dims (to ∷ []) (fresh_work fill at) s)
      (block kinds (v.Fresh (number regs to) (opers_of regs dims) fill at ∷ []) t)
  fresh_ends to dims fill at f s t r =
      let first : Bool = given_types (slice_get names to) (fresh_fits fill (length dims)) in
      let u = some_given (slice_get names to) (fresh_fits fill (length dims))
      (and_left first (all_numbers names dims) f) in
      let array : is_array u.0 ≡ true = fresh_array fill (length dims) u.0 u.2 in
      let given : AreScalar names dims = numbers_scalar names dims (and_right first (all_numbers names dims) f) in
      binds_one dims to u.0 (reg.View (number regs to)) (fresh_work fill at) (fresh_work fill at) s t
      (map (loop_operand t) (opers_of regs dims)) (v.Fresh (number regs to) (opers_of regs dims) fill at) u.1
      (view_register to u.0 u.1 array)
      (ap (λ m. m t) (means_Fresh kinds (number regs to) (opers_of regs dims) fill at)) refl
      (scalars_same names views table s t r dims given)
      (new_taken names to (is_array_by names to u.0 u.1 ∙ array) s.buffers at
      (λ ns. filled fill (element_count ns)) (fresh_shape fill (map word_of (map (operand s) dims)))
      (λ ns e. fresh_small fill (map word_of (map (operand s) dims)) ns e)) r

  pub return_ends : (values : List Oper) (rets : List Ty) →
      given_types (types_of names values) (λ types. same_types types rets) ≡ true →
      (s : Eager) (t : State) → Alike s t →
      Ends Alike (where_ready (ready s values []) (s, Returned (map (operand s) values)) s)
      (block kinds (v.Return (map (back_of regs) values) ∷ []) t)
  return_ends values rets f s t r =
      let taken = some_given (types_of names values) (λ types. same_types types rets) f in
      one_ends (where_ready (ready s values []) (s, Returned (map (operand s) values)) s)
      (v.Return (map (back_of regs) values)) t _ (ap (λ m. m t) (means_Return kinds (map (back_of regs) values)))
      (ready_ends State Alike (ready s values []) (s, Returned (map (operand s) values)) s _
      (λ b free. (
        r,
        ap (λ (xs : List Bound). Returned xs)
            (backs_same names views table s t r values taken.0 (of_types names values taken.0 taken.1)),
      )))

-- Each statement of a sound program is ready, and each of its calls ends.
use Rattle.std.proofs.Common.{arith, ◌≡◌, ◌∙◌, ◌+◌, ◌<◌, ◌≤◌, ap, sym, subst, refl, ℕ, zero, suc, ℤ, Bool, true, false}
use Rattle.std.proofs.Common.{◌&&◌, List, [], ◌∷◌, ◌++◌, map, length, replicate, slice_get, take}
use Rattle.std.proofs.Common.{Option, Some, None, Result, Ok, Err}
use Rattle.std.proofs.lemmas.Grind.{flat_map-append}
use Rattle.std.proofs.lemmas.List.Elements.{recursion_from_All}
use Rattle.std.proofs.lemmas.Option.{slice_get-map, slice_get_within}
use Rattle.std.specs.Prelude.{option_map, slice_set}
use Rattle.std.specs.List.{AllByRecursion, flat_map, list_all, range_with_len}
use Rattle.krn_base.specs.declared.fault.Fault.{Fault}
use Rattle.krn_base.specs.declared.kind.Kind.TheVariants.{Int64}
use Rattle.krn_base.specs.declared.kind.ParamType.{ParamType}
use Rattle.krn_base.specs.declared.place.Loc.{Loc}
use Rattle.view_places.specs.declared.shape.Array.{Array}
use Rattle.view_places.specs.Arrays.{element_count}
use Rattle.array_ops.specs.Arrays.{ArrayRef, elements_of, with_word, with_words, word_at}
use Rattle.array_ops.specs.Elements.{Bound, Unbound, WordOf, filled, fresh_shape, map_elements}
use Rattle.array_ops.specs.Elements.{operand_elements, reduced, shape_of, stored_shape}
use Rattle.array_ops.specs.Subscripts.{and_then, element_place, picked}
use Rattle.eager_rules.proofs.Chains.{every_by, every_left, every_right, rank, rank_falls, rank_low}
use Rattle.eager_rules.proofs.Each.{none_some, some_same}
use Rattle.eager_rules.proofs.KeptBuffers.{at_number}
use Rattle.eager_rules.proofs.ListTests.{and_left, and_right}
use Rattle.eager_rules.proofs.Ready.{OfTest, Tests, Covers, FineEnd, SafeBy, GoodDone, bound_tests, step_safe}
use Rattle.eager_rules.proofs.Ready.{then_safe, none_safe, if_safe, for_safe, return_safe, right_false, values_bound}
use Rattle.eager_rules.proofs.Trees.{Good, by_layers, fused}
use Rattle.eager_rules.proofs.Typed.{Named}
use Rattle.eager_rules.proofs.TypedRuns.{add_given, names_given, some_given}
use Rattle.eager_rules.proofs.TypedWorks.{not_true, same_all}
use Rattle.eager_rules.specs.Blocks.{Meaning, End, GoesOn, Returned, Faulted, Stuck, in_order}
use Rattle.eager_rules.specs.Eager.{Calls, block, called, calls_at, done_of, entered, meaning, statement}
use Rattle.eager_rules.specs.Fits.{AreTaken}
use Rattle.eager_rules.specs.Laws.{IsNeverStuck, run_of}
use Rattle.eager_rules.specs.Outcome.{buffers_of}
use Rattle.eager_rules.specs.Sound.{Bindings, Head, IsSound, IsWellTyped, Shape, all_fit, at_start}
use Rattle.eager_rules.specs.Sound.{block_shape, call_fits, fits, fits_step, given_types, has_type}
use Rattle.eager_rules.specs.Sound.{all_numbers, reduction_fits, head_of, in_walk, is_assigned, named_types, put_all}
use Rattle.eager_rules.specs.Sound.{returns_values, shape_of_body, shape_step, takes_values, walk, walk_step}
use Rattle.eager_rules.specs.State.{State, bound_to, is_bound, operand}
use Rattle.eager_rules.specs.Statements.{calls_of, calls_step}
use Rattle.eager_rules.specs.TypedStates.{Each}
use Rattle.eager_rules.specs.Types.{Ty, is_truth, same_types, type_of, type_of_param, types_of, word_type}
use Rattle.eager_rules.specs.Works.{Done, Made, Failed, Blocked, array_in, as_array, as_word, changed, made_new}
use Rattle.eager_rules.specs.Works.{extent_work, flip_work, move_work, range_values, sub_operands, subscripts_of}
use Rattle.eager_rules.specs.Works.{valued, word_of, word_result}
use Rattle.eager_rules.specs.Works.{fresh_work, get_work, map_work, pick_work, put_work, reduce_work, store_work}
use Rattle.eager_rules.specs.Works.{word_work}
use Rattle.eager_rules.specs.declared.call.Arg.{Arg}
use Rattle.eager_rules.specs.declared.call.Arg.TheVariants as arg
use Rattle.eager_rules.specs.declared.program.Core.{Core}
use Rattle.eager_rules.specs.declared.program.Core.TheOpen as c
use Rattle.eager_rules.specs.declared.program.Core.TheFolds.{fold-Core, map-Core, fold-roll-Core}
use Rattle.eager_rules.specs.declared.program.Core.TheViews.{roll-Core}
use Rattle.eager_rules.specs.declared.program.Instance.{Instance}
use Rattle.eager_rules.specs.declared.program.Oper.{Oper}
use Rattle.eager_rules.specs.declared.program.Oper.TheVariants as oper
use Rattle.eager_rules.specs.declared.program.Program.{Program}
use Rattle.eager_rules.specs.declared.program.WordOp.{WordOp}
use Rattle.eager_rules.specs.declared.program.WordOp.TheVariants as word_op

-- Works that can be done.
good_word : (to : ℕ) (buffers : List (List ℤ)) (at : Loc) (r : Result ℤ Fault) →
    GoodDone (to ∷ []) (valued buffers at (as_word r))
good_word to buffers at (Ok z) = (refl, tt)
good_word to buffers at (Err fault) = tt

good_read : (to : ℕ) (buffers : List (List ℤ)) (at : Loc) (f : ℕ → ℤ) (r : Result ℕ Fault) →
    GoodDone (to ∷ []) (valued buffers at (and_then r (λ place. Ok (WordOf (f place)))))
good_read to buffers at f (Ok place) = (refl, tt)
good_read to buffers at f (Err fault) = tt

good_array : (to : ℕ) (buffers : List (List ℤ)) (at : Loc) (r : Result ArrayRef Fault) →
    GoodDone (to ∷ []) (valued buffers at (as_array r))
good_array to buffers at (Ok a) = (refl, tt)
good_array to buffers at (Err fault) = tt

good_change : {A : Type 0} (buffers : List (List ℤ)) (at : Loc) (f : A → List (List ℤ)) (r : Result A Fault) →
    GoodDone [] (changed buffers at (and_then r (λ x. Ok (f x))))
good_change buffers at f (Ok x) = tt
good_change buffers at f (Err fault) = tt

good_new : (to : ℕ) (buffers : List (List ℤ)) (at : Loc) (words : List ℕ → List ℤ) (r : Result (List ℕ) Fault) →
    GoodDone (to ∷ []) (made_new buffers at words r)
good_new to buffers at words (Ok ns) = (refl, tt)
good_new to buffers at words (Err fault) = tt

nothing_moved : {A : Type 0} (names : List Ty) (to : ℕ) (types : List Ty) → word_type word_op.Move types ≡ None →
    has_type names to (word_type word_op.Move types) ≡ true → A
nothing_moved names to types e h = not_true (sym (ap (λ (o : Option Ty). has_type names to o) e) ∙ h)

-- a move has one operand
good_move : (names : List Ty) (to : ℕ) (args : List Oper) (types : List Ty) (s : State) (buffers : List (List ℤ)) →
    types_of names args ≡ Some types → has_type names to (word_type word_op.Move types) ≡ true →
    list_all (λ x. is_bound (operand s x)) args ≡ true → GoodDone (to ∷ []) (move_work (map (operand s) args) buffers)
good_move names to [] types s buffers e h b =
    nothing_moved names to types (ap (word_type word_op.Move) (sym (some_same [] types e))) h
good_move names to (x ∷ []) types s buffers e h b = (and_left (is_bound (operand s x)) true b, tt)
good_move names to (x ∷ y ∷ args) types s buffers e h b =
    let one = add_given (type_of names x) (types_of names (y ∷ args)) types e in
    let two = add_given (type_of names y) (types_of names args) one.1 one.3 in
    nothing_moved names to types (ap (word_type word_op.Move)
    (sym one.4 ∙ ap (λ (ts : List Ty). one.0 ∷ ts) (sym two.4)) ∙ too_many one.0 two.0 two.1) h
  where
    too_many : (t u : Ty) (ts : List Ty) → word_type word_op.Move (t ∷ u ∷ ts) ≡ None
    too_many (a, zero) u ts = refl
    too_many (a, suc r) u ts = refl

good_op : (names : List Ty) (to : ℕ) (op : WordOp) (at : Loc) (args : List Oper) (types : List Ty) (s : State)
    (buffers : List (List ℤ)) → types_of names args ≡ Some types → has_type names to (word_type op types) ≡ true →
    list_all (λ x. is_bound (operand s x)) args ≡ true →
    GoodDone (to ∷ []) (word_work op at (map (operand s) args) buffers)
good_op names to (word_op.Bin op) at args types s buffers e h b =
    good_word to buffers at (word_result (word_op.Bin op) (map word_of (map (operand s) args)))
good_op names to (word_op.Un op) at args types s buffers e h b =
    good_word to buffers at (word_result (word_op.Un op) (map word_of (map (operand s) args)))
good_op names to word_op.Move at args types s buffers e h b = good_move names to args types s buffers e h b

-- Calls.
abbrev Counted : List Ty → List Bound → Type 0
Counted types values = Each (λ (t : Ty) v. is_bound v ≡ true) types values

-- a call gives a bound value for each type
abbrev Answers : List Ty → Done → Type 0
Answers rets (Made buffers values) = Counted rets values
Answers rets (Failed buffers fault at) = Unit {0}
Answers rets (Blocked buffers) = ⊥

covered : (names : List Ty) (to : List ℕ) (types : List Ty) (values : List Bound) → Named names to types →
    Counted types values → Covers to values
covered names [] types values n k = tt
covered names (name ∷ to) [] values n k = absurd n
covered names (name ∷ to) (t ∷ types) [] n k = absurd k
covered names (name ∷ to) (t ∷ types) (v ∷ values) n k = (k.0, covered names to types values n.1 k.1)

covered_by : (names : List Ty) (to : List ℕ) (rets : List Ty) (values : List Bound) →
    takes_values names to rets ≡ true →
    Counted rets values → Covers to values
covered_by names [] rets values f k = tt
covered_by names (name ∷ to) rets values f k =
    let found = some_given (named_types names (name ∷ to)) (λ types. same_types types rets) f in
    covered names (name ∷ to) rets values
    (subst (λ (ts : List Ty). Named names (name ∷ to) ts) (same_all found.0 rets found.2)
    (names_given names (name ∷ to) found.0 found.1)) k

answered : (names : List Ty) (to : List ℕ) (rets : List Ty) (d : Done) → takes_values names to rets ≡ true →
    Answers rets d → GoodDone to d
answered names to rets (Made buffers values) f a = covered_by names to rets values f a
answered names to rets (Failed buffers fault at) f a = tt
answered names to rets (Blocked buffers) f a = absurd a

-- what calls of these instances come to
abbrev Answer : List Head → Calls → ℕ → Type 0
Answer heads calls i =
    (head : Head) → slice_get heads i ≡ Some head → (args : List Bound) (buffers : List (List ℤ)) →
    Counted head.0 args → Answers head.1 (calls i args buffers)

good_call : (heads : List Head) (names : List Ty) (calls : Calls) (o : Option Head) (to : List ℕ) (instance : ℕ)
    (args : List Oper) (s : State) (buffers : List (List ℤ)) → slice_get heads instance ≡ o →
    call_fits names o to args ≡ true → Answer heads calls instance →
    list_all (λ x. is_bound (operand s x)) args ≡ true →
    GoodDone to (calls instance (map (operand s) args) buffers)
good_call heads names calls None to instance args s buffers e f k b = not_true f
good_call heads names calls (Some head) to instance args s buffers e f k b =
    let taken = some_given (types_of names args) (λ types. same_types types head.0)
    (and_left (given_types (types_of names args) (λ types. same_types types head.0)) (takes_values names to head.1) f)
    in
    answered names to head.1 (calls instance (map (operand s) args) buffers)
    (and_right (given_types (types_of names args) (λ types. same_types types head.0)) (takes_values names to head.1) f)
    (k head e (map (operand s) args) buffers
    (subst (λ (ts : List Ty). Counted ts (map (operand s) args)) (same_all taken.0 head.0 taken.2)
    (values_bound names s args taken.0 taken.1 b)))

module _ (heads : List Head) (rets names : List Ty) (calls : Calls) where
  abbrev called_in : Core → List ℕ
  called_in = fold-Core (List ℕ) calls_step

  abbrev walk_of : Core → Bindings → Option Bindings
  walk_of = fold-Core (Bindings → Option Bindings) walk_step

  abbrev shape_of_core : Core → Shape
  shape_of_core = fold-Core Shape shape_step

  abbrev Fine : Core → Type 0
  Fine x =
      fits heads rets names x ≡ true → AllByRecursion (Answer heads calls) (called_in x) →
      SafeBy rets (walk_of x) (shape_of_core x).shut (meaning calls x)

  abbrev Goods : Type 0
  Goods = List (Good Fine)

  abbrev all_fits : Goods → Bool
  all_fits gs = list_all (λ fit. fit) (map (λ (g : Good Fine). fits heads rets names g.0) gs)

  abbrev lists_by : Goods → List (List ℕ)
  lists_by gs = map (λ (g : Good Fine). called_in g.0) gs

  abbrev calls_by : Goods → List ℕ
  calls_by gs = flat_map (λ (xs : List ℕ). xs) (lists_by gs)

  abbrev walk_by : Goods → Bindings → Option Bindings
  walk_by gs = in_walk (map (λ (g : Good Fine). walk_of g.0) gs)

  abbrev shape_by : Goods → Shape
  shape_by gs = block_shape (map (λ (g : Good Fine). shape_of_core g.0) gs)

  abbrev run_by : Goods → Meaning State
  run_by gs = in_order (map (λ (g : Good Fine). meaning calls g.0) gs)

  block_safe : (gs : Goods) → all_fits gs ≡ true → AllByRecursion (Answer heads calls) (calls_by gs) →
      SafeBy rets (walk_by gs) (shape_by gs).shut (run_by gs)
  block_safe [] f k = none_safe rets
  block_safe (g ∷ []) f k =
      then_safe rets (walk_of g.0) (λ a. Some a) (shape_of_core g.0).shut false (shape_of_core g.0).shut
      (meaning calls g.0) (λ s. (s, GoesOn)) (λ e h. e)
      (g.1 (and_left (fits heads rets names g.0) true f)
      (every_left (Answer heads calls) (called_in g.0) [] k)) (none_safe rets)
  block_safe (g ∷ h ∷ gs) f k =
      then_safe rets (walk_of g.0) (walk_by (h ∷ gs)) (shape_of_core g.0).shut (shape_by (h ∷ gs)).shut
      (shape_by (g ∷ h ∷ gs)).shut (meaning calls g.0) (run_by (h ∷ gs))
      (λ e i. right_false (shape_of_core g.0).plain (shape_by (h ∷ gs)).shut i)
      (g.1 (and_left (fits heads rets names g.0) (all_fits (h ∷ gs)) f)
      (every_left (Answer heads calls) (called_in g.0) (calls_by (h ∷ gs)) k))
      (block_safe (h ∷ gs) (and_right (fits heads rets names g.0) (all_fits (h ∷ gs)) f)
      (every_right (Answer heads calls) (called_in g.0) (calls_by (h ∷ gs)) k))

  in_parts : (part other : Goods) →
      AllByRecursion (Answer heads calls) (flat_map (λ (xs : List ℕ). xs) (lists_by part ++ lists_by other)) →
      AllByRecursion (Answer heads calls) (calls_by part ++ calls_by other)
  in_parts part other h =
      subst (AllByRecursion (Answer heads calls)) (flat_map-append (λ (xs : List ℕ). xs) (lists_by part)
      (lists_by other)) h

  by_case : (y : c.Core-F (Good Fine)) →
      fits_step heads rets names (map-Core (Good Fine) Bool (λ g. fits heads rets names g.0) y) ≡ true →
      AllByRecursion (Answer heads calls) (calls_step (map-Core (Good Fine) (List ℕ) (λ g. called_in g.0) y)) →
      SafeBy rets (walk_step (map-Core (Good Fine) (Bindings → Option Bindings) (λ g. walk_of g.0) y))
      (shape_step (map-Core (Good Fine) Shape (λ g. shape_of_core g.0) y)).shut
      (statement calls (map-Core (Good Fine) (Meaning State) (λ g. meaning calls g.0) y))
  by_case (c.Word to op args at) f k =
      let taken = some_given (types_of names args) (λ types. has_type names to (word_type op types)) f in
      step_safe rets args (to ∷ []) (word_work op at)
      (λ s buffers b. good_op names to op at args taken.0 s buffers taken.1 taken.2 b)
  by_case (c.Extent to of axis) f k =
      step_safe rets (oper.Name of ∷ []) (to ∷ []) (extent_work axis) (λ s buffers b. (refl, tt))
  by_case (c.Get to of index at) f k =
      step_safe rets (oper.Name of ∷ index) (to ∷ []) (get_work at)
      (λ s buffers b. good_read to buffers at (word_at buffers (array_in (operand s (oper.Name of))).buffer)
      (element_place (array_in (operand s (oper.Name of))) (map word_of (map (operand s) index))))
  by_case (c.Put of index value at) f k =
      step_safe rets (oper.Name of ∷ value ∷ index) [] (put_work at)
      (λ s buffers b. good_change buffers at
      (λ (place : ℕ). with_word buffers (array_in (operand s (oper.Name of))).buffer place (word_of (operand s value)))
      (element_place (array_in (operand s (oper.Name of))) (map word_of (map (operand s) index))))
  by_case (c.Pick to of subs at) f k =
      step_safe rets (oper.Name of ∷ flat_map sub_operands subs) (to ∷ []) (pick_work subs at)
      (λ s buffers b. good_array to buffers at
      (picked (subscripts_of subs (map (operand s) (flat_map sub_operands subs)))
      (array_in (operand s (oper.Name of)))))
  by_case (c.Flip to of) f k =
      step_safe rets (oper.Name of ∷ []) (to ∷ []) flip_work (λ s buffers b. (refl, tt))
  by_case (c.Alias to of) f k =
      step_safe rets (oper.Name of ∷ []) (to ∷ []) move_work
      (λ s buffers b. (and_left (is_bound (operand s (oper.Name of))) true b, tt))
  by_case (c.Fresh to dims fill at) f k =
      step_safe rets dims (to ∷ []) (fresh_work fill at)
      (λ s buffers b. good_new to buffers at (λ ns. filled fill (element_count ns))
      (fresh_shape fill (map word_of (map (operand s) dims))))
  by_case (c.Map to op args at) f k =
      step_safe rets args (to ∷ []) (map_work op at)
      (λ s buffers b. good_new to buffers at (λ ns. map_elements buffers ns op (map (operand s) args))
      (shape_of (map (operand s) args)))
  by_case (c.Reduce to op of at) f k =
      step_safe rets (oper.Name of ∷ []) (to ∷ []) (reduce_work op at)
      (λ s buffers b. good_word to buffers at (reduced op (elements_of buffers (array_in (operand s (oper.Name of))))))
  by_case (c.Store of value at) f k =
      step_safe rets (oper.Name of ∷ value ∷ []) [] (store_work at)
      (λ s buffers b. good_change buffers at
      (λ (ns : List ℕ). with_words buffers (array_in (operand s (oper.Name of))).buffer
      (array_in (operand s (oper.Name of))).places (operand_elements buffers ns (operand s value)))
      (stored_shape (array_in (operand s (oper.Name of))).extents (operand s value)))
  by_case (c.Call to instance args) f k =
      step_safe rets args to (calls instance)
      (λ s buffers b. good_call heads names calls (slice_get heads instance) to instance args s buffers refl f k.0 b)
  by_case (c.If cond part other) f k =
      let parts : all_fits part && all_fits other ≡ true =
      and_right (is_truth (type_of names cond)) (all_fits part && all_fits other) f in
      let inside : AllByRecursion (Answer heads calls) (calls_by part ++ calls_by other) = in_parts part other k in
      if_safe rets cond (λ s. word_of (operand s cond)) (walk_by part) (walk_by other) (shape_by part).shut
      (shape_by other).shut (run_by part) (run_by other)
      (block_safe part (and_left (all_fits part) (all_fits other) parts)
      (every_left (Answer heads calls) (calls_by part) (calls_by other) inside))
      (block_safe other (and_right (all_fits part) (all_fits other) parts)
      (every_right (Answer heads calls) (calls_by part) (calls_by other) inside))
  by_case (c.For var lo hi by at omp body) f k =
      for_safe rets var (lo ∷ hi ∷ by ∷ []) at
      (λ s. range_values (word_of (operand s lo)) (word_of (operand s hi)) (word_of (operand s by)))
      (walk_by body) (shape_by body).shut (run_by body)
      (block_safe body (and_right ((all_numbers names (lo ∷ hi ∷ by ∷ []) && has_type names var (Some (Int64, 0)))
      && reduction_fits names omp) (all_fits body) f) k)
  by_case (c.Return values) f k =
      let taken = some_given (types_of names values) (λ types. same_types types rets) f in
      return_safe names rets values
      (taken.1 ∙ ap (λ (ts : List Ty). Some ts) (same_all taken.0 rets taken.2))

  layer : (y : c.Core-F (Good Fine)) → Fine (roll-Core (map-Core (Good Fine) Core (λ g. g.0) y))
  layer y f k =
      let x : c.Core-F Core = map-Core (Good Fine) Core (λ g. g.0) y in
      let same_fits : fits_step heads rets names (map-Core (Good Fine) Bool (λ g. fits heads rets names g.0) y) ≡
      fits heads rets names (roll-Core x) =
      ap (fits_step heads rets names) (fused Fine Bool (fits heads rets names) y) ∙
      sym (fold-roll-Core Bool (fits_step heads rets names) x) in
      let same_calls : calls_step (map-Core (Good Fine) (List ℕ) (λ g. called_in g.0) y) ≡ called_in (roll-Core x) =
      ap calls_step (fused Fine (List ℕ) called_in y) ∙ sym (fold-roll-Core (List ℕ) calls_step x) in
      let same_walk : walk_step (map-Core (Good Fine) (Bindings → Option Bindings) (λ g. walk_of g.0) y) ≡
      walk_of (roll-Core x) =
      ap walk_step (fused Fine (Bindings → Option Bindings) walk_of y) ∙
      sym (fold-roll-Core (Bindings → Option Bindings) walk_step x) in
      let same_shape : shape_step (map-Core (Good Fine) Shape (λ g. shape_of_core g.0) y) ≡
      shape_of_core (roll-Core x) =
      ap shape_step (fused Fine Shape shape_of_core y) ∙ sym (fold-roll-Core Shape shape_step x) in
      let same_meaning : statement calls (map-Core (Good Fine) (Meaning State) (λ g. meaning calls g.0) y) ≡
      meaning calls (roll-Core x) =
      ap (statement calls) (fused Fine (Meaning State) (meaning calls) y) ∙
      sym (fold-roll-Core (Meaning State) (statement calls) x) in
      subst (λ (w : Bindings → Option Bindings). SafeBy rets w (shape_of_core (roll-Core x)).shut
      (meaning calls (roll-Core x))) same_walk
      (subst (λ (h : Shape). SafeBy rets (walk_step (map-Core (Good Fine) (Bindings → Option Bindings)
      (λ g. walk_of g.0) y)) h.shut (meaning calls (roll-Core x))) same_shape
      (subst (SafeBy rets (walk_step (map-Core (Good Fine) (Bindings → Option Bindings) (λ g. walk_of g.0) y))
      (shape_step (map-Core (Good Fine) Shape (λ g. shape_of_core g.0) y)).shut) same_meaning
      (by_case y (same_fits ∙ f) (subst (AllByRecursion (Answer heads calls)) (sym same_calls) k))))

  core_safe : (x : Core) → Fine x
  core_safe = by_layers Fine layer

  -- a body is safe; its calls by one list
  pub body_safe : (body : List Core) → all_fit heads rets names body ≡ true →
      AllByRecursion (Answer heads calls) (calls_of body) →
      SafeBy rets (walk body) (shape_of_body body).shut (block calls body)
  body_safe [] f k = none_safe rets
  body_safe (x ∷ []) f k =
      then_safe rets (walk_of x) (λ a. Some a) (shape_of_core x).shut false (shape_of_core x).shut (meaning calls x)
      (λ s. (s, GoesOn)) (λ e h. e)
      (core_safe x (and_left (fits heads rets names x) true f) (every_left (Answer heads calls) (called_in x) [] k))
      (none_safe rets)
  body_safe (x ∷ z ∷ body) f k =
      then_safe rets (walk_of x) (walk (z ∷ body)) (shape_of_core x).shut (shape_of_body (z ∷ body)).shut
      (shape_of_body (x ∷ z ∷ body)).shut (meaning calls x) (block calls (z ∷ body))
      (λ e i. right_false (shape_of_core x).plain (shape_of_body (z ∷ body)).shut i)
      (core_safe x (and_left (fits heads rets names x) (all_fit heads rets names (z ∷ body)) f)
      (every_left (Answer heads calls) (called_in x) (calls_of (z ∷ body)) k))
      (body_safe (z ∷ body) (and_right (fits heads rets names x) (all_fit heads rets names (z ∷ body)) f)
      (every_right (Answer heads calls) (called_in x) (calls_of (z ∷ body)) k))

-- The state in which a call begins.
none_bound : (n : ℕ) → Each OfTest (replicate n false) (replicate n Unbound)
none_bound zero = tt
none_bound (suc n) = (tt, none_bound n)

put_none : (to : List ℕ) → put_all to [] ≡ []
put_none [] = refl
put_none (n ∷ to) = put_none to

put_later : (p a : ℕ) (x : Bool) (xs : Bindings) →
    put_all (range_with_len (suc a) p) (x ∷ xs) ≡ x ∷ put_all (range_with_len a p) xs
put_later zero a x xs = refl
put_later (suc p) a x xs =
    let next : suc a + 1 ≡ suc (a + 1) = omega arith in
    ap (λ (b : ℕ). put_all (range_with_len b p) (x ∷ slice_set xs a true)) next ∙
    put_later p (a + 1) x (slice_set xs a true)

take_false : (n m : ℕ) → n ≤ m → take n (replicate m false) ≡ replicate n false
take_false zero m le = refl
take_false (suc n) zero le = absurd (omega (arith, le))
take_false (suc n) (suc m) le = ap (λ (xs : List Bool). false ∷ xs) (take_false n m (omega (arith, le)))

start_put : (p n m : ℕ) → n ≤ m →
    put_all (range_with_len 0 p) (replicate n false) ≡ take n (replicate p true ++ replicate m false)
start_put zero n m le = sym (take_false n m le)
start_put (suc p) zero m le = put_none (range_with_len 0 (suc p))
start_put (suc p) (suc n) m le =
    let one : 0 + 1 ≡ suc 0 = omega arith in
    ap (λ (b : ℕ). put_all (range_with_len b p) (true ∷ replicate n false)) one ∙
    (put_later p 0 true (replicate n false) ∙
    ap (λ (xs : List Bool). true ∷ xs) (start_put p n m (omega (arith, le))))

covers_range : {A : Type 0} (ps : List A) (a : ℕ) (h : A → Ty) (args : List Bound) → Counted (map h ps) args →
    Covers (range_with_len a (length ps)) args
covers_range [] a h args k = tt
covers_range (p ∷ ps) a h [] k = absurd k
covers_range (p ∷ ps) a h (v ∷ args) k = (k.0, covers_range ps (a + 1) h args k.1)

entered_tests : (f : Instance) (args : List Bound) (buffers : List (List ℤ)) →
    Counted (map (λ p. type_of_param p.1) f.params) args →
    Tests (take (length f.names) (at_start f)) (entered f args buffers)
entered_tests f args buffers k =
    subst (λ (a : Bindings). Tests a (entered f args buffers))
    (start_put (length f.params) (length f.names) (length f.names) (omega arith))
    (bound_tests (range_with_len 0 (length f.params)) args (replicate (length f.names) false)
    (record { buffers = buffers; names = replicate (length f.names) Unbound })
    (covers_range f.params 0 (λ p. type_of_param p.1) args k) (none_bound (length f.names)))

-- What a body that is safe comes to.
returned_fine : (rets : List Ty) (out : Bindings) (shape : Shape) (q : State × End) → returns_values rets shape ≡ true →
    FineEnd rets out shape.shut q → Answers rets (done_of q)
returned_fine [] out shape (s, GoesOn) r f = tt
returned_fine (t ∷ rets) out shape (s, GoesOn) r f =
    not_true (sym f.1 ∙ and_right shape.tail shape.shut r)
returned_fine rets out shape (s, Returned values) r f = f
returned_fine rets out shape (s, Faulted fault at) r f = tt
returned_fine rets out shape (s, Stuck) r f = f

unstuck : (rets : List Ty) (out : Bindings) (shut : Bool) (q : State × End) → FineEnd rets out shut q → q.1 ≡ Stuck → ⊥
unstuck rets out shut (s, GoesOn) f e = let h = e in cc
unstuck rets out shut (s, Returned values) f e = let h = e in cc
unstuck rets out shut (s, Faulted fault at) f e = let h = e in cc
unstuck rets out shut (s, Stuck) f e = f

-- Calls, by the rank of the instance.
module _ (program : Program) (sound : IsSound program) where
  abbrev fs : List Instance
  fs = program.instances

  abbrev hs : List Head
  hs = map head_of program.instances

  abbrev rank_of : ℕ → ℕ
  rank_of = rank fs sound.typed.no_cycle

  abbrev Below : ℕ → Type 0
  Below depth = (i : ℕ) → rank_of i < depth → Answer hs (calls_at fs depth) i

  -- the end of a body whose calls are answered
  pub instance_fine : (i depth : ℕ) (f : Instance) → slice_get fs i ≡ Some f →
      ((j : ℕ) → j < length fs → rank_of j < rank_of i → Answer hs (calls_at fs depth) j) →
      (args : List Bound) (buffers : List (List ℤ)) → Counted (head_of f).0 args →
      (out : Bindings) × FineEnd f.rets out (shape_of_body f.body).shut
      (block (calls_at fs depth) f.body (entered f args buffers))
  instance_fine i depth f is k args buffers counted =
      let good : IsWellTyped hs f = at_number (IsWellTyped hs) fs i f sound.typed.instances is in
      let assigned : is_assigned f ≡ true = at_number (λ (g : Instance). is_assigned g ≡ true) fs i f sound.assigned is
      in
      let walked = some_given (walk f.body (take (length f.names) (at_start f))) (λ names. true) assigned in
      let safe = body_safe hs f.rets f.names (calls_at fs depth) f.body good.body
      (every_by (λ (j : ℕ). sound.typed.no_cycle.height j < sound.typed.no_cycle.height i)
      (Answer hs (calls_at fs depth)) (λ j lower. in_range j lower (slice_get fs j) refl)
      (calls_of f.body) (recursion_from_All (λ (j : ℕ). sound.typed.no_cycle.height j < sound.typed.no_cycle.height i)
      (calls_of f.body) (sound.typed.no_cycle.below i f is)))
      (take (length f.names) (at_start f)) walked.0 walked.1 in
      (walked.0, safe.1 (entered f args buffers) (entered_tests f args buffers counted))
    where
      in_range : (j : ℕ) → sound.typed.no_cycle.height j < sound.typed.no_cycle.height i → (o : Option Instance) →
          slice_get fs j ≡ o → Answer hs (calls_at fs depth) j
      in_range j lower None e = λ head h.
          none_some head (sym (slice_get-map head_of fs j ∙ ap (option_map head_of) e) ∙ h)
      in_range j lower (Some g) e =
          let within : j < length fs = slice_get_within fs j g e in
          k j within (rank_falls fs sound.typed.no_cycle i j lower within)

  called_fine : (i depth : ℕ) (o : Option Instance) → slice_get fs i ≡ o → Below depth → rank_of i < suc depth →
      (head : Head) → option_map head_of o ≡ Some head → (args : List Bound) (buffers : List (List ℤ)) →
      Counted head.0 args → Answers head.1 (called (calls_at fs depth) o args buffers)
  called_fine i depth None is k low head e args buffers counted = none_some head e
  called_fine i depth (Some f) is k low head e args buffers counted =
      let good : IsWellTyped hs f = at_number (IsWellTyped hs) fs i f sound.typed.instances is in
      let same : head_of f ≡ head = some_same (head_of f) head e in
      let fine = instance_fine i depth f is
      (λ j within less. k j (omega (arith, less, low))) args buffers
      (subst (λ (x : Head). Counted x.0 args) (sym same) counted) in
      subst (λ (x : Head). Answers x.1 (called (calls_at fs depth) (Some f) args buffers)) same
      (returned_fine f.rets fine.0 (shape_of_body f.body)
      (block (calls_at fs depth) f.body (entered f args buffers)) good.returns fine.1)

  below : (depth : ℕ) → Below depth
  below zero i low head e args buffers counted = absurd (omega (arith, low))
  below (suc depth) i low head e args buffers counted =
      called_fine i depth (slice_get fs i) refl (below depth) low head
      (sym (slice_get-map head_of fs i) ∙ e) args buffers counted

bound_arg : (x : Arg) → is_bound (bound_to x) ≡ true
bound_arg (arg.Word z) = refl
bound_arg (arg.Array v) = refl

args_counted : {A : Type 0} (arrays : List Array) (ps : List (A × ParamType)) (args : List Arg) →
    AreTaken arrays (map (λ p. p.1) ps) args → Counted (map (λ p. type_of_param p.1) ps) (map bound_to args)
args_counted arrays [] [] h = tt
args_counted arrays [] (x ∷ args) h = h
args_counted arrays (p ∷ ps) [] h = h
args_counted arrays (p ∷ ps) (x ∷ args) h = (bound_arg x, args_counted arrays ps args h.1)

pub never_stuck : (program : Program) → IsSound program → IsNeverStuck program
never_stuck program sound number f call is fit stuck =
    let fine = instance_fine program sound number (length program.instances) f is
    (λ j within less. below program sound (length program.instances) j
    (rank_low program.instances sound.typed.no_cycle j within))
    (map bound_to call.args) (buffers_of call) (args_counted call.buffers f.params call.args fit.args) in
    unstuck f.rets fine.0 (shape_of_body f.body).shut (run_of program f call) fine.1 stuck

-- The plain form of statements follows them: one case for each kind of statement, and the induction over blocks.
use Rattle.std.proofs.Common.{◌≡◌, ◌∙◌, ap, sym, subst, refl, arith, ℕ, zero, suc, ◌+◌, ◌≤◌, ℤ, Bool, true}
use Rattle.std.proofs.Common.{◌&&◌, List, [], ◌∷◌, ◌++◌, map, length, Option, Some, None, length-append}
use Rattle.std.specs.Prelude.{slice_get, slice_set}
use Rattle.std.specs.List.{flat_map, list_all}
use Rattle.std.proofs.lemmas.Grind.{flat_map-append}
use Rattle.krn_base.specs.declared.kind.Kind.{Kind}
use Rattle.krn_base.specs.declared.kind.Kind.TheVariants.{Int64}
use Rattle.krn_base.specs.declared.operation.Join.{Join}
use Rattle.krn_base.specs.declared.place.Loc.{Loc}
use Rattle.view_places.specs.Laws.{IsOwnBroadcast, StaysOverItsShape}
use Rattle.overlap.specs.Walks.{BothWaysAlike}
use Rattle.array_ops.specs.Elements.{Bound, WordOf}
use Rattle.eager_rules.specs.Blocks.{Meaning, End, GoesOn, Returned, Faulted, Stuck, then_do, in_order, choice}
use Rattle.eager_rules.specs.Blocks.{loop_over}
use Rattle.eager_rules.specs.Eager.{Calls, ready, statement, meaning, set_variable}
use Rattle.eager_rules.specs.Eager.{block as eager_block}
use Rattle.eager_rules.specs.Sound.{Head, all_fit, all_numbers, fits, fits_step, has_type, reduction_fits}
use Rattle.eager_rules.specs.State.{operand}
use Rattle.eager_rules.specs.State.{State as Eager}
use Rattle.eager_rules.specs.Statements.{calls_step}
use Rattle.eager_rules.specs.TypedStates.{Each, EndOf, MeaningOf, OfName, Row, StateOf}
use Rattle.eager_rules.specs.Types.{Ty, is_truth, type_of}
use Rattle.eager_rules.specs.Works.{range_values, word_of}
use Rattle.eager_rules.specs.declared.program.Core.{Core}
use Rattle.eager_rules.specs.declared.program.Core.TheOpen as c
use Rattle.eager_rules.specs.declared.program.Core.TheFolds.{fold-Core, fold-roll-Core, map-Core}
use Rattle.eager_rules.specs.declared.program.Core.TheViews.{roll-Core}
use Rattle.eager_rules.specs.declared.program.Oper.{Oper}
use Rattle.lazy_expr.specs.Plain.{Lowering, empty_guard, in_turn, loop_of, lowered, plain_of, plain_step, reduction_of}
use Rattle.lazy_expr.specs.Table.{number, oper_of, table_of, view_types, word_kinds}
use Rattle.lazy_expr.proofs.Binds.{and_left, and_right, bind_agrees, counts_agree, inside, is_array_by}
use Rattle.lazy_expr.proofs.Follows.{Ends, Follows, Goes, choice_follows, loop_follows, ready_ends, then_follows}
use Rattle.lazy_expr.proofs.Maps.{map_ends}
use Rattle.lazy_expr.proofs.Meanings.{block_joined, means_For, means_If, means_ParFor, then_nothing}
use Rattle.lazy_expr.proofs.Operands.{none_some, numbers_scalar, one_given, scalar_same, some_same}
use Rattle.lazy_expr.proofs.Operands.{truth_scalar}
use Rattle.lazy_expr.proofs.Reductions.{reduce_ends}
use Rattle.lazy_expr.proofs.Relation.{Agree, IsTable}
use Rattle.lazy_expr.proofs.Shapes.{EachSpreads, FlipsProper, PicksProper}
use Rattle.lazy_expr.proofs.Statements.{alias_ends, extent_ends, flip_ends, fresh_ends, get_ends, one_ends, pick_ends}
use Rattle.lazy_expr.proofs.Statements.{put_ends, return_ends, word_ends, word_fits, word_register}
use Rattle.lazy_expr.proofs.Stores.{store_ends}
use Rattle.lazy_expr.proofs.Trees.{Good, by_layers, fused}
use Rattle.loop_prog.specs.Guards.{guard_holds}
use Rattle.loop_prog.specs.Serial.{block}
use Rattle.loop_prog.specs.Serial.{meaning as loop_meaning, set_variable as set_register}
use Rattle.loop_prog.specs.State.{State, count_loop, with_counts}
use Rattle.loop_prog.specs.State.{operand as loop_operand, bind as bind_register}
use Rattle.loop_prog.specs.declared.program.Reg.{Reg}
use Rattle.loop_prog.specs.declared.program.Statement.{Statement}
use Rattle.loop_prog.specs.declared.program.Statement.TheVariants as v

none_left : (xs ys : List ℕ) → xs ++ ys ≡ [] → (xs ≡ []) × (ys ≡ [])
none_left [] ys h = (refl, h)
none_left (x ∷ xs) ys h = absurd (let e : x ∷ (xs ++ ys) ≡ [] = h in cc)

each_with : {A B : Type 0} (R : A → B → Type 0) (xs : List A) (ys : List B) (k : ℕ) (x : A) (y : B) → Each R xs ys →
    slice_get xs k ≡ Some x → R x y → Each R xs (slice_set ys k y)
each_with R [] ys k x y h e p = none_some x e
each_with R (a ∷ xs) [] k x y h e p = absurd h
each_with R (a ∷ xs) (b ∷ ys) zero x y h e p = (subst (λ z. R z y) (sym (some_same a x e)) p, h.1)
each_with R (a ∷ xs) (b ∷ ys) (suc k) x y h e p = (h.0, each_with R xs ys k x y h.1 e p)

-- an instance's names, the laws of what its runs keep, and those of shapes
module _ (heads : List Head) (rets names : List Ty) (views : ℕ) (calls : Calls)
    (typed : (x : Core) → fits heads rets names x ≡ true → MeaningOf names rets (meaning calls x))
    (table : IsTable names) (room : length (view_types names) ≤ views) (alike : BothWaysAlike) (spreads : EachSpreads)
    (own_shape : IsOwnBroadcast) (own_spread : StaysOverItsShape) (picks : PicksProper) (flips : FlipsProper) where
  abbrev Alike : Eager → State → Type 0
  Alike = Agree names views

  abbrev regs : List Reg
  regs = table_of names

  abbrev kinds : List Kind
  kinds = word_kinds names

  abbrev Kept : Eager → Type 0
  Kept s = (rows : List Row) × StateOf rows names s

  abbrev Follow : Meaning Eager → Meaning State → Type 0
  Follow = Follows Eager State Kept Alike

  -- ---- what runs keep
  goes_by : (rows : List Row) (q : Eager × End) → EndOf rows names rets q → Goes Kept q
  goes_by rows (s, GoesOn) h = (h.0, h.2)
  goes_by rows (s, Returned values) h = tt
  goes_by rows (s, Faulted fault at) h = tt
  goes_by rows (s, Stuck) h = tt

  core_keeps : (x : Core) → fits heads rets names x ≡ true → (s : Eager) → Kept s → Goes Kept (meaning calls x s)
  core_keeps x f s k = goes_by k.0 (meaning calls x s) (typed x f k.0 s k.1)

  then_goes : (p : Eager × End) (next : Meaning Eager) → Goes Kept p → ((s : Eager) → Kept s → Goes Kept (next s)) →
      Goes Kept (then_do p next)
  then_goes (s, GoesOn) next h k = k s h
  then_goes (s, Returned values) next h k = tt
  then_goes (s, Faulted fault at) next h k = tt
  then_goes (s, Stuck) next h k = tt

  variable_kept : (var : ℕ) (z : ℤ) (s : Eager) → slice_get names var ≡ Some (Int64, 0) → Kept s →
      Kept (set_variable var z s)
  variable_kept var z s e k = (
    k.0,
    record {
      buffers = k.1.buffers;
      names = each_with (OfName k.0) names s.names var (Int64, 0) (WordOf z) k.1.names e (refl, tt);
    },
  )

  variable_set : (var : ℕ) → slice_get names var ≡ Some (Int64, 0) → (z : ℤ) (s : Eager) (t : State) → Kept s →
      Alike s t → Kept (set_variable var z s) × Alike (set_variable var z s) (set_register (number regs var) z t)
  variable_set var e z s t k r = (
    variable_kept var z s e k,
    subst (λ (a : Reg). Alike (set_variable var z s) (bind_register a (WordOf z) t))
        (word_register names views table room var (Int64, 0) e refl)
        (bind_agrees names views table room var (WordOf z) s t (inside names var (Int64, 0) e)
        (word_fits names var (is_array_by names var (Int64, 0) e) (WordOf z) refl) r),
  )

  -- ---- what is proved of a statement, by its test, the calls in it, its plain form and its meaning
  abbrev DoneBy : Bool → List ℕ → Lowering → Meaning Eager → Type 0
  DoneBy test called low m =
      test ≡ true → called ≡ [] → (k : ℕ) → length (view_types names) ≤ k → k + length (low k).fresh ≤ views →
      Follow m (block kinds (low k).body)

  abbrev Fine : Core → Type 0
  Fine x = DoneBy (fits heads rets names x) (fold-Core (List ℕ) calls_step x) (plain_of names regs x) (meaning calls x)

  module _ {X : Type 0} (core : X → Core) (good : (x : X) → Fine (core x)) where
    abbrev each_fits : List X → Bool
    each_fits xs = list_all (λ fit. fit) (map (λ (x : X). fits heads rets names (core x)) xs)

    abbrev each_calls : List X → List ℕ
    each_calls xs = flat_map (λ names. names) (map (λ (x : X). fold-Core (List ℕ) calls_step (core x)) xs)

    abbrev each_low : List X → List Lowering
    each_low xs = map (λ (x : X). plain_of names regs (core x)) xs

    abbrev each_meaning : List X → List (Meaning Eager)
    each_meaning xs = map (λ (x : X). meaning calls (core x)) xs

    blocks_keep : (xs : List X) → each_fits xs ≡ true → (s : Eager) → Kept s → Goes Kept (in_order (each_meaning xs) s)
    blocks_keep [] f s k = k
    blocks_keep (x ∷ xs) f s k =
        then_goes (meaning calls (core x) s) (in_order (each_meaning xs))
        (core_keeps (core x) (and_left (fits heads rets names (core x)) (each_fits xs) f) s k)
        (blocks_keep xs (and_right (fits heads rets names (core x)) (each_fits xs) f))

    blocks_follow : (xs : List X) → each_fits xs ≡ true → each_calls xs ≡ [] → (k : ℕ) →
        length (view_types names) ≤ k → k + length (in_turn (each_low xs) k).fresh ≤ views →
        Follow (in_order (each_meaning xs)) (block kinds (in_turn (each_low xs) k).body)
    blocks_follow [] f n k h b s t kept r = λ free. (r, refl)
    blocks_follow (x ∷ xs) f n k h b s t kept r =
        let own : ℕ = length (plain_of names regs (core x) k).fresh in
        let others : ℕ = length (in_turn (each_low xs) (k + own)).fresh in
        let all : length ((plain_of names regs (core x) k).fresh ++ (in_turn (each_low xs) (k + own)).fresh) ≡
        own + others =
        length-append (plain_of names regs (core x) k).fresh (in_turn (each_low xs) (k + own)).fresh in
        let first : fits heads rets names (core x) ≡ true =
        and_left (fits heads rets names (core x)) (each_fits xs) f in
        let none = none_left (fold-Core (List ℕ) calls_step (core x)) (each_calls xs) n in
        subst (λ (q : State × End). Ends Alike (then_do (meaning calls (core x) s) (in_order (each_meaning xs))) q)
        (sym (block_joined kinds (plain_of names regs (core x) k).body (in_turn (each_low xs) (k + own)).body t))
        (then_follows Eager State Kept Alike (meaning calls (core x) s)
        (block kinds (plain_of names regs (core x) k).body t) (in_order (each_meaning xs))
        (block kinds (in_turn (each_low xs) (k + own)).body)
        (good x first none.0 k h (omega (arith, b, all)) s t kept r)
        (core_keeps (core x) first s kept)
        (blocks_follow xs (and_right (fits heads rets names (core x)) (each_fits xs) f) none.1 (k + own)
        (omega (arith, h)) (omega (arith, b, all))))

  abbrev first_of : Good Fine → Core
  first_of g = g.0

  abbrev is_good : (g : Good Fine) → Fine g.0
  is_good g = g.1

  abbrev parts_fit : List (Good Fine) → Bool
  parts_fit gs = each_fits first_of is_good gs

  -- the two parts of an `If`, the second behind the first
  if_follows : (cond : Oper) (part other : List (Good Fine)) →
      (is_truth (type_of names cond) && (parts_fit part && parts_fit other)) ≡ true →
      flat_map (λ names. names) (map (λ (g : Good Fine). fold-Core (List ℕ) calls_step g.0) part ++
      map (λ (g : Good Fine). fold-Core (List ℕ) calls_step g.0) other) ≡ [] →
      (k : ℕ) → length (view_types names) ≤ k →
      k + length ((in_turn (each_low first_of is_good part) k).fresh ++
      (in_turn (each_low first_of is_good other)
      (k + length (in_turn (each_low first_of is_good part) k).fresh)).fresh) ≤ views →
      Follow (statement calls (c.If cond (each_meaning first_of is_good part) (each_meaning first_of is_good other)))
      (block kinds (v.If (oper_of regs cond) (in_turn (each_low first_of is_good part) k).body
      (in_turn (each_low first_of is_good other)
      (k + length (in_turn (each_low first_of is_good part) k).fresh)).body ∷ []))
  if_follows cond part other f n k h b s t kept r =
      let own : ℕ = length (in_turn (each_low first_of is_good part) k).fresh in
      let yes_body : List Statement = (in_turn (each_low first_of is_good part) k).body in
      let no_body : List Statement = (in_turn (each_low first_of is_good other) (k + own)).body in
      let all : length ((in_turn (each_low first_of is_good part) k).fresh ++
      (in_turn (each_low first_of is_good other) (k + own)).fresh) ≡
      own + length (in_turn (each_low first_of is_good other) (k + own)).fresh =
      length-append (in_turn (each_low first_of is_good part) k).fresh
      (in_turn (each_low first_of is_good other) (k + own)).fresh in
      let fit : (parts_fit part && parts_fit other) ≡ true =
      and_right (is_truth (type_of names cond)) (parts_fit part && parts_fit other) f in
      let none = none_left (each_calls first_of is_good part) (each_calls first_of is_good other)
      (sym (flat_map-append (λ (names : List ℕ). names)
      (map (λ (g : Good Fine). fold-Core (List ℕ) calls_step g.0) part)
      (map (λ (g : Good Fine). fold-Core (List ℕ) calls_step g.0) other)) ∙ n) in
      let truth = truth_scalar names cond (and_left (is_truth (type_of names cond))
      (parts_fit part && parts_fit other) f) in
      one_ends names views table room
      (statement calls (c.If cond (each_meaning first_of is_good part) (each_meaning first_of is_good other)) s)
      (v.If (oper_of regs cond) yes_body no_body) t
      (choice (word_of (operand s cond)) (in_order (map (loop_meaning kinds) yes_body))
      (in_order (map (loop_meaning kinds) no_body)) t)
      (ap (λ m. m t) (means_If kinds (oper_of regs cond) yes_body no_body) ∙
      ap (λ (x : Bound). choice (word_of x) (in_order (map (loop_meaning kinds) yes_body))
      (in_order (map (loop_meaning kinds) no_body)) t)
      (sym (scalar_same names views table s t r cond truth)))
      (ready_ends State Alike (ready s (cond ∷ []) [])
      (choice (word_of (operand s cond)) (in_order (each_meaning first_of is_good part))
      (in_order (each_meaning first_of is_good other)) s) s _
      (λ go. choice_follows Eager State Kept Alike (word_of (operand s cond))
      (in_order (each_meaning first_of is_good part)) (in_order (each_meaning first_of is_good other))
      (block kinds yes_body) (block kinds no_body)
      (blocks_follow first_of is_good part (and_left (parts_fit part) (parts_fit other) fit) none.0 k h
      (omega (arith, b, all)))
      (blocks_follow first_of is_good other (and_right (parts_fit part) (parts_fit other) fit) none.1 (k + own)
      (omega (arith, h)) (omega (arith, b, all)))
      s t kept r))

  -- a loop, under a directive or not
  module _ (var : ℕ) (lo hi by : Oper) (at : Loc) (body : List (Good Fine))
      (numbers : all_numbers names (lo ∷ hi ∷ by ∷ []) ≡ true) (variable : slice_get names var ≡ Some (Int64, 0))
      (fit : parts_fit body ≡ true) (none : each_calls first_of is_good body ≡ []) (k : ℕ)
      (h : length (view_types names) ≤ k) (b : k + length (in_turn (each_low first_of is_good body) k).fresh ≤ views)
      (s : Eager) (t : State) (kept : Kept s) (r : Alike s t) where
    abbrev inner : List Statement
    inner = (in_turn (each_low first_of is_good body) k).body

    abbrev turns_by : ℤ → ℤ → ℤ → State → State × End
    turns_by x y z = loop_over (set_register (number regs var)) (in_order (map (loop_meaning kinds) inner)) at
        (range_values x y z)

    same_turns : (u : State) →
        turns_by (word_of (operand s lo)) (word_of (operand s hi)) (word_of (operand s by)) u ≡
        turns_by (word_of (loop_operand t (oper_of regs lo))) (word_of (loop_operand t (oper_of regs hi)))
        (word_of (loop_operand t (oper_of regs by))) u
    same_turns u =
        let given = numbers_scalar names (lo ∷ hi ∷ by ∷ []) numbers in
        ap (λ (x : Bound). turns_by (word_of x) (word_of (operand s hi)) (word_of (operand s by)) u)
        (scalar_same names views table s t r lo given.0) ∙
        ap (λ (x : Bound). turns_by (word_of (loop_operand t (oper_of regs lo))) (word_of x)
        (word_of (operand s by)) u) (scalar_same names views table s t r hi given.1.0) ∙
        ap (λ (x : Bound). turns_by (word_of (loop_operand t (oper_of regs lo)))
        (word_of (loop_operand t (oper_of regs hi))) (word_of x) u)
        (scalar_same names views table s t r by given.1.1.0)

    turns_end : (u : State) → Alike s u →
        Ends Alike (loop_over (set_variable var) (in_order (each_meaning first_of is_good body)) at
        (range_values (word_of (operand s lo)) (word_of (operand s hi)) (word_of (operand s by))) s)
        (turns_by (word_of (operand s lo)) (word_of (operand s hi)) (word_of (operand s by)) u)
    turns_end u q =
        loop_follows Eager State Kept Alike (set_variable var) (set_register (number regs var))
        (in_order (each_meaning first_of is_good body)) (block kinds inner) at (variable_set var variable)
        (blocks_keep first_of is_good body fit) (blocks_follow first_of is_good body fit none k h b)
        (range_values (word_of (operand s lo)) (word_of (operand s hi)) (word_of (operand s by))) s u kept q

    for_ends : (omp : Option (List (Join × ℕ))) →
        Ends Alike (statement calls (c.For var lo hi by at omp (each_meaning first_of is_good body)) s)
        (block kinds (loop_of regs (number regs var) (oper_of regs lo) (oper_of regs hi) (oper_of regs by) at omp
        inner ∷ []) t)
    for_ends None =
        one_ends names views table room
        (statement calls (c.For var lo hi by at None (each_meaning first_of is_good body)) s)
        (v.For (number regs var) (oper_of regs lo) (oper_of regs hi) (oper_of regs by) at inner) t
        (turns_by (word_of (operand s lo)) (word_of (operand s hi)) (word_of (operand s by)) t)
        (ap (λ m. m t) (means_For kinds (number regs var) (oper_of regs lo) (oper_of regs hi) (oper_of regs by) at
        inner) ∙ sym (same_turns t))
        (ready_ends State Alike (ready s (lo ∷ hi ∷ by ∷ []) (var ∷ [])) _ s _ (λ go. turns_end t r))
    for_ends (Some pairs) =
        let u : State = with_counts (count_loop (guard_holds t empty_guard) t.counts) t in
        one_ends names views table room
        (statement calls (c.For var lo hi by at (Some pairs) (each_meaning first_of is_good body)) s)
        (v.ParFor (number regs var) (oper_of regs lo) (oper_of regs hi) (oper_of regs by) at empty_guard
        (map (reduction_of regs) pairs) [] inner) t
        (turns_by (word_of (operand s lo)) (word_of (operand s hi)) (word_of (operand s by)) u)
        (ap (λ m. m t) (means_ParFor kinds (number regs var) (oper_of regs lo) (oper_of regs hi) (oper_of regs by) at
        empty_guard (map (reduction_of regs) pairs) [] inner) ∙
        then_nothing (turns_by (word_of (loop_operand t (oper_of regs lo)))
        (word_of (loop_operand t (oper_of regs hi))) (word_of (loop_operand t (oper_of regs by))) u) ∙
        sym (same_turns u))
        (ready_ends State Alike (ready s (lo ∷ hi ∷ by ∷ []) (var ∷ [])) _ s _
        (λ go. turns_end u
        (counts_agree names views table room (count_loop (guard_holds t empty_guard) t.counts) s t r)))

  by_case : (y : c.Core-F (Good Fine)) →
      DoneBy (fits_step heads rets names (map-Core (Good Fine) Bool (λ g. fits heads rets names g.0) y))
      (calls_step (map-Core (Good Fine) (List ℕ) (λ g. fold-Core (List ℕ) calls_step g.0) y))
      (plain_step names regs (map-Core (Good Fine) Lowering (λ g. plain_of names regs g.0) y))
      (statement calls (map-Core (Good Fine) (Meaning Eager) (λ g. meaning calls g.0) y))
  by_case (c.Word to op args at) f n k h b s t kept r = word_ends names views table room to op args at f s t r
  by_case (c.Extent to of axis) f n k h b s t kept r = extent_ends names views table room to of axis f s t r
  by_case (c.Get to of index at) f n k h b s t kept r = get_ends names views table room to of index at f s t r
  by_case (c.Put of index value at) f n k h b s t kept r = put_ends names views table room of index value at f s t r
  by_case (c.Pick to of subs at) f n k h b s t kept r =
      pick_ends names views table room picks flips to of subs at f s t r
  by_case (c.Flip to of) f n k h b s t kept r = flip_ends names views table room picks flips to of f s t r
  by_case (c.Alias to of) f n k h b s t kept r = alias_ends names views table room to of f s t r
  by_case (c.Fresh to dims fill at) f n k h b s t kept r = fresh_ends names views table room to dims fill at f s t r
  by_case (c.Map to op args at) f n k h b s t kept r =
      map_ends names views table room alike spreads to op args at f s t r k h b
  by_case (c.Reduce to op of at) f n k h b s t kept r =
      let y : c.Core-F Core = c.Reduce to op of at in
      reduce_ends names views table room own_shape own_spread to op of at f kept.0 rets s t
      (subst (λ (m : Meaning Eager). EndOf kept.0 names rets (m s))
      (fold-roll-Core (Meaning Eager) (statement calls) y)
      (typed (roll-Core y) (fold-roll-Core Bool (fits_step heads rets names) y ∙ f) kept.0 s kept.1)) r
  by_case (c.Store of value at) f n k h b s t kept r = store_ends names views table room alike of value at f s t r
  by_case (c.Call to instance args) f n k h b s t kept r = absurd (let e : instance ∷ [] ≡ [] = n in cc)
  by_case (c.If cond part other) f n k h b s t kept r = if_follows cond part other f n k h b s t kept r
  by_case (c.For var lo hi by at omp body) f n k h b s t kept r =
      let head = and_left ((all_numbers names (lo ∷ hi ∷ by ∷ []) && has_type names var (Some (Int64, 0)))
      && reduction_fits names omp) (parts_fit body) f in
      let numbers = and_left (all_numbers names (lo ∷ hi ∷ by ∷ []) && has_type names var (Some (Int64, 0)))
      (reduction_fits names omp) head in
      for_ends var lo hi by at body
      (and_left (all_numbers names (lo ∷ hi ∷ by ∷ [])) (has_type names var (Some (Int64, 0))) numbers)
      (one_given (slice_get names var) (Int64, 0)
      (and_right (all_numbers names (lo ∷ hi ∷ by ∷ [])) (has_type names var (Some (Int64, 0))) numbers))
      (and_right ((all_numbers names (lo ∷ hi ∷ by ∷ []) && has_type names var (Some (Int64, 0)))
      && reduction_fits names omp) (parts_fit body) f) n k h b s t kept r omp
  by_case (c.Return values) f n k h b s t kept r = return_ends names views table room values rets f s t r

  layer : (y : c.Core-F (Good Fine)) → Fine (roll-Core (map-Core (Good Fine) Core (λ g. g.0) y))
  layer y =
      let x : c.Core-F Core = map-Core (Good Fine) Core (λ g. g.0) y in
      let same_fits : fits_step heads rets names (map-Core (Good Fine) Bool (λ g. fits heads rets names g.0) y) ≡
      fits heads rets names (roll-Core x) =
      ap (fits_step heads rets names) (fused Fine Bool (fits heads rets names) y) ∙
      sym (fold-roll-Core Bool (fits_step heads rets names) x) in
      let same_calls : calls_step (map-Core (Good Fine) (List ℕ) (λ g. fold-Core (List ℕ) calls_step g.0) y) ≡
      fold-Core (List ℕ) calls_step (roll-Core x) =
      ap calls_step (fused Fine (List ℕ) (fold-Core (List ℕ) calls_step) y) ∙
      sym (fold-roll-Core (List ℕ) calls_step x) in
      let same_low : plain_step names regs (map-Core (Good Fine) Lowering (λ g. plain_of names regs g.0) y) ≡
      plain_of names regs (roll-Core x) =
      ap (plain_step names regs) (fused Fine Lowering (plain_of names regs) y) ∙
      sym (fold-roll-Core Lowering (plain_step names regs) x) in
      let same_meaning : statement calls (map-Core (Good Fine) (Meaning Eager) (λ g. meaning calls g.0) y) ≡
      meaning calls (roll-Core x) =
      ap (statement calls) (fused Fine (Meaning Eager) (meaning calls) y) ∙
      sym (fold-roll-Core (Meaning Eager) (statement calls) x) in
      subst (λ (m : Meaning Eager). DoneBy (fits heads rets names (roll-Core x))
      (fold-Core (List ℕ) calls_step (roll-Core x)) (plain_of names regs (roll-Core x)) m) same_meaning
      (subst (λ (low : Lowering). DoneBy (fits heads rets names (roll-Core x))
      (fold-Core (List ℕ) calls_step (roll-Core x)) low
      (statement calls (map-Core (Good Fine) (Meaning Eager) (λ g. meaning calls g.0) y))) same_low
      (subst (λ (called : List ℕ). DoneBy (fits heads rets names (roll-Core x)) called
      (plain_step names regs (map-Core (Good Fine) Lowering (λ g. plain_of names regs g.0) y))
      (statement calls (map-Core (Good Fine) (Meaning Eager) (λ g. meaning calls g.0) y))) same_calls
      (subst (λ (test : Bool). DoneBy test
      (calls_step (map-Core (Good Fine) (List ℕ) (λ g. fold-Core (List ℕ) calls_step g.0) y))
      (plain_step names regs (map-Core (Good Fine) Lowering (λ g. plain_of names regs g.0) y))
      (statement calls (map-Core (Good Fine) (Meaning Eager) (λ g. meaning calls g.0) y))) same_fits (by_case y))))

  core_follows : (x : Core) → Fine x
  core_follows = by_layers Fine layer

  pub body_follows : (body : List Core) → all_fit heads rets names body ≡ true →
      flat_map (λ names. names) (map (fold-Core (List ℕ) calls_step) body) ≡ [] →
      length (view_types names) + length (lowered names body).fresh ≤ views →
      Follow (eager_block calls body) (block kinds (lowered names body).body)
  body_follows body f n b =
      blocks_follow (λ x. x) core_follows body f n (length (view_types names)) (omega arith) b

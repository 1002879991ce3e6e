-- The flat form of statements follows them: one case for each kind of statement, and the induction over blocks.
use Rattle.std.proofs.Common.{◌≡◌, ◌∙◌, ap, ap₂, sym, subst, refl, arith, ℕ, ◌+◌, ◌<◌, ◌≤◌, Bool, true, false}
use Rattle.std.proofs.Common.{◌&&◌, List, [], ◌∷◌, ◌++◌, map, length, Option, ℤ}
use Rattle.std.proofs.lemmas.Bool.{lt-ltb, ltb-true}
use Rattle.std.proofs.lemmas.List.{length-append, length-map}
use Rattle.std.specs.Prelude.{nat_lt, slice_get, slice_index_or}
use Rattle.std.specs.List.{AllByRecursion, flat_map, list_all}
use Rattle.krn_base.specs.declared.operation.Join.{Join}
use Rattle.krn_base.specs.declared.place.Loc.{Loc}
use Rattle.array_ops.specs.Elements.{Bound, Unbound, WordOf}
use Rattle.eager_rules.specs.Blocks.{Meaning, End, Returned, in_order, loop_over, choice, then_do}
use Rattle.eager_rules.specs.Eager.{Calls, bind_all, block, finish, meaning, ready, set_variable, statement, step}
use Rattle.eager_rules.specs.Eager.{where_ready, word_at_operand}
use Rattle.eager_rules.specs.Sound.{Head, Shape, all_fit, block_shape, both_shapes, call_fits, fits, fits_step}
use Rattle.eager_rules.specs.Sound.{shape_of_body, shape_step, simple}
use Rattle.eager_rules.specs.State.{State, is_bound, operand, with_buffers}
use Rattle.eager_rules.specs.Types.{Ty, is_truth, type_of}
use Rattle.eager_rules.specs.Works.{Done, Made, Failed, Blocked, Work, extent_work, flip_work, fresh_work, get_work}
use Rattle.eager_rules.specs.Works.{map_work, move_work, pick_work, put_work, range_values, reduce_work, store_work}
use Rattle.eager_rules.specs.Works.{sub_operands, word_of, word_work}
use Rattle.eager_rules.specs.declared.program.Core.{Core}
use Rattle.eager_rules.specs.declared.program.Core.TheOpen as c
use Rattle.eager_rules.specs.declared.program.Core.TheVariants as v
use Rattle.eager_rules.specs.declared.program.Core.TheFolds.{fold-Core, fold-roll-Core, map-Core}
use Rattle.eager_rules.specs.declared.program.Core.TheViews.{roll-Core}
use Rattle.eager_rules.specs.declared.program.CoreSub.{CoreSub}
use Rattle.eager_rules.specs.declared.program.Oper.{Oper}
use Rattle.eager_rules.specs.declared.program.Oper.TheVariants as oper
use Rattle.inline.specs.Flat.{Inline, Lowered, Lowering, call_form, flat_block, flat_for, flat_if, flat_step}
use Rattle.inline.specs.Flat.{in_turn, only}
use Rattle.inline.specs.Flat.{unless_left}
use Rattle.inline.specs.Idle.{is_none, none_calm}
use Rattle.inline.specs.Own.{joined, only_name, returned, returned_step}
use Rattle.inline.specs.Places.{given_back, placed, renamed, renamed_pairs, renamed_sub}
use Rattle.inline.specs.declared.moves.Out.{Out}
use Rattle.inline.specs.declared.places.Place.{Place}
use Rattle.inline.proofs.Cuts.{picks_same, subs_read}
use Rattle.inline.proofs.Fates.{Closed, Fate, Follows, On, at_last, choice_follows, first_closed, loop_follows}
use Rattle.inline.proofs.Fates.{nothing_follows, on_simple, or_false, other_closed, part_closed, ready_follows}
use Rattle.inline.proofs.Fates.{rest_closed}
use Rattle.inline.proofs.Fates.{then_follows}
use Rattle.inline.proofs.Frames.{Held, IsBelow, and_both, and_left, and_right, bind_all_held, bind_held, bound_within}
use Rattle.inline.proofs.Frames.{buffers_held, like_held, names_low, not_both, operand_held, operands_held, placed_low}
use Rattle.inline.proofs.Frames.{reads_held}
use Rattle.inline.proofs.Moving.{block_joined, block_one, then_nothing}
use Rattle.inline.proofs.Takes.{CallFollows, Landed, call_takes, oper_below, takes_same}
use Rattle.inline.proofs.Trees.{Good, by_layers}

pub every_left : {A : Type 0} (P : A → Type 0) (xs ys : List A) → AllByRecursion P (xs ++ ys) → AllByRecursion P xs
every_left P [] ys h = tt
every_left P (x ∷ xs) ys h = (h.0, every_left P xs ys h.1)

pub every_right : {A : Type 0} (P : A → Type 0) (xs ys : List A) → AllByRecursion P (xs ++ ys) → AllByRecursion P ys
every_right P [] ys h = h
every_right P (x ∷ xs) ys h = every_right P xs ys h.1

-- no call is left out
pub none_left : (to : List ℕ) (i : ℕ) (form : Lowering) → unless_left (is_none to && none_calm i) form ≡ form
none_left [] i form = refl
none_left (n ∷ to) i form = refl

-- what calls do, in the flat form too; the body's types and names; where its names stand, what its Returns become,
-- the kernel's state before it; whether it may end without a Return, what each Return gives and what comes of it
module _ (calls others : Calls) (flat : Inline) (heads : List Head) (follow : CallFollows calls others flat heads)
    (rets names : List Ty) (p : Place) (out : Out) (size : ℕ) (t0 : State) (low : IsBelow p.first p.own)
    (room : p.first + size ≤ length t0.names) (free : Bool) (Gives : Option ℕ → Type 0)
    (Back : List Bound → State → State × End → Type 0)
    (returns : (values : List Oper) → Gives (only_name values) → (s t : State) → Held p size t0 s t →
    list_all (λ x. is_bound (operand s x)) values ≡ true →
    Back (map (operand s) values) s (block others (given_back out (map (renamed p) values)) t)) where
  abbrev form_of : Core → Lowering
  form_of = fold-Core Lowering (flat_step none_calm flat out p)

  abbrev fits_of : Core → Bool
  fits_of = fits heads rets names

  abbrev shape_of : Core → Shape
  shape_of = fold-Core Shape shape_step

  abbrev gives_of : Core → List (Option ℕ)
  gives_of = fold-Core (List (Option ℕ)) returned_step

  abbrev Ends : Bool → State × End → State × End → Type 0
  Ends = Fate p size t0 free Back

  abbrev Follow : Bool → Meaning State → Meaning State → Type 0
  Follow = Follows p size t0 free Back

  abbrev Shut : Bool → Shape → Type 0
  Shut = Closed p size t0 free Back

  abbrev Holds : State → State → Type 0
  Holds = Held p size t0

  abbrev AllBound : State → List Oper → Type 0
  AllBound s xs = list_all (λ x. is_bound (operand s x)) xs ≡ true

  abbrev AllBelow : ℕ → List ℕ → Type 0
  AllBelow k to = list_all (λ n. nat_lt n k) to ≡ true

  -- ---- what is ready
  reads_ready : (s : State) (reads : List Oper) (to : List ℕ) → ready s reads to ≡ true → AllBound s reads
  reads_ready s reads to h =
      and_left (list_all (λ x. is_bound (operand s x)) reads) (list_all (λ n. nat_lt n (length s.names)) to) h

  names_ready : (s t : State) (reads : List Oper) (to : List ℕ) → Holds s t → ready s reads to ≡ true →
      AllBelow size to
  names_ready s t reads to r h =
      ap (λ (k : ℕ). list_all (λ n. nat_lt n k) to) (sym r.size)
      ∙ and_right (list_all (λ x. is_bound (operand s x)) reads) (list_all (λ n. nat_lt n (length s.names)) to) h

  ready_held : (s t : State) (reads : List Oper) (to : List ℕ) → Holds s t → ready s reads to ≡ true →
      ready t (map (renamed p) reads) (map (placed p) to) ≡ true
  ready_held s t reads to r h =
      and_both (list_all (λ x. is_bound (operand t x)) (map (renamed p) reads))
      (list_all (λ n. nat_lt n (length t.names)) (map (placed p) to))
      (reads_held p size t0 low room s t reads r (reads_ready s reads to h))
      (names_low p size t0 low room (length t.names) to (omega (arith, room, r.total)) (names_ready s t reads to r h))

  -- ---- statements that have no block
  finished : (last : Bool) (to : List ℕ) (d : Done) (s t : State) → On p size t0 free Back last → AllBelow size to →
      Holds s t → Ends last (finish to d s) (finish (map (placed p) to) d t)
  finished last to (Made buffers values) s t on inside r = (
    (
      bind_all_held p size t0 low room to values (with_buffers buffers s) (with_buffers buffers t) inside
          (buffers_held p size t0 low room buffers s t r),
      refl,
    ),
    on,
  )
  finished last to (Failed buffers fault at) s t on inside r = (refl, refl)
  finished last to (Blocked buffers) s t on inside r = tt

  step_follows : (last : Bool) (reads : List Oper) (to : List ℕ) (work : Work) → On p size t0 free Back last →
      Follow last (step reads to work) (step (map (renamed p) reads) (map (placed p) to) work)
  step_follows last reads to work on s t r =
      ready_follows p size t0 free Back last (ready s reads to) (finish to (work (map (operand s) reads) s.buffers) s) s
      (step (map (renamed p) reads) (map (placed p) to) work t)
      (λ is.
      let d : Done = work (map (operand s) reads) s.buffers in
      let there : Done = work (map (operand t) (map (renamed p) reads)) t.buffers in
      let same : there ≡ d =
      ap₂ (λ (vs : List Bound) (bs : List (List ℤ)). work vs bs)
      (operands_held p size t0 low room s t reads r (reads_ready s reads to is)) (sym r.buffers) in
      let unfolded : step (map (renamed p) reads) (map (placed p) to) work t ≡ finish (map (placed p) to) d t =
      ap (λ (b : Bool). where_ready b (finish (map (placed p) to) there t) t) (ready_held s t reads to r is)
      ∙ ap (λ (e : Done). finish (map (placed p) to) e t) same in
      subst (Ends last (finish to d s)) (sym unfolded)
      (finished last to d s t on (names_ready s t reads to r is) r))

  abbrev DoneBy : Bool → Shape → List (Option ℕ) → Lowering → Meaning State → Type 0
  DoneBy test shape gives form m =
      (last : Bool) (k : ℕ) → test ≡ true → Shut last shape → AllByRecursion Gives gives → p.first + size ≤ k →
      k + length (form k).fresh ≤ length t0.names → Follow last m (block others (form k).body)

  abbrev Done1 : Core → Type 0
  Done1 x = DoneBy (fits_of x) (shape_of x) (gives_of x) (form_of x) (meaning calls x)

  step_done : (test : Bool) (reads : List Oper) (to : List ℕ) (work : Work)
      (y : c.Core-F Core) (x : Core) → roll-Core y ≡ x →
      ((t : State) → statement others (map-Core Core (Meaning State) (meaning others) y) t ≡
      step (map (renamed p) reads) (map (placed p) to) work t) →
      DoneBy test simple [] (only (x ∷ [])) (step reads to work)
  step_done test reads to work y x is same last k fit shut give le enough s t r =
      subst (Ends last (step reads to work s)) (sym (block_one others y x is t ∙ same t))
      (step_follows last reads to work (on_simple p size t0 free Back last shut) s t r)

  -- ---- calls
  args_low : (k : ℕ) (s t : State) (xs : List Oper) → p.first + size ≤ k → Holds s t → AllBound s xs →
      list_all (oper_below k) (map (renamed p) xs) ≡ true
  args_low k s t [] le r h = refl
  args_low k s t (x ∷ xs) le r h =
      and_both (oper_below k (renamed p x)) (list_all (oper_below k) (map (renamed p) xs))
      (by_oper x (and_left (is_bound (operand s x)) (list_all (λ y. is_bound (operand s y)) xs) h))
      (args_low k s t xs le r (and_right (is_bound (operand s x)) (list_all (λ y. is_bound (operand s y)) xs) h))
    where
      by_oper : (x : Oper) → is_bound (operand s x) ≡ true → oper_below k (renamed p x) ≡ true
      by_oper (oper.Int z) h = refl
      by_oper (oper.Truth b) h = refl
      by_oper (oper.Name n) h =
          let inside : n < length s.names = bound_within s n h in
          lt-ltb (placed p n) k (placed_low p.first p.own low n size k (omega (arith, inside, r.size)) le)

  landed_ends : (k : ℕ) (to : List ℕ) (d : Done) (s t : State) (q : State × End) → p.first + size ≤ k →
      AllBelow size to → Holds s t → Landed k (map (placed p) to) d t q → Ends false (finish to d s) q
  landed_ends k to (Made buffers values) s t q le inside r h = (
    (
      like_held p size t0 low room k (bind_all to values (with_buffers buffers s))
          (bind_all (map (placed p) to) values (with_buffers buffers t)) q.0 le h.0
          (bind_all_held p size t0 low room to values (with_buffers buffers s) (with_buffers buffers t) inside
          (buffers_held p size t0 low room buffers s t r)),
      h.1,
    ),
    tt,
  )
  landed_ends k to (Failed buffers fault at) s t q le inside r h = h
  landed_ends k to (Blocked buffers) s t q le inside r h = tt

  call_done : (to : List ℕ) (i : ℕ) (args : List Oper) →
      DoneBy (call_fits names (slice_get heads i) to args) simple [] (call_form none_calm flat p to i args)
      (step args to (calls i))
  call_done to i args last k fit shut give le enough s t r =
      let there : List Oper = map (renamed p) args in
      let targets : List ℕ = map (placed p) to in
      let form : Lowering = flat i targets there in
      let kept : call_form none_calm flat p to i args ≡ form = none_left to i form in
      ready_follows p size t0 free Back last (ready s args to)
      (finish to (calls i (map (operand s) args) s.buffers) s) s
      (block others (call_form none_calm flat p to i args k).body t)
      (λ is.
      let bound : AllBound s args = reads_ready s args to is in
      let inside : AllBelow size to = names_ready s t args to r is in
      let values : map (operand t) there ≡ map (operand s) args = operands_held p size t0 low room s t args r bound in
      let space : k + length (form k).fresh ≤ length t.names =
      subst (λ (l : Lowering). k + length (l k).fresh ≤ length t.names) kept (omega (arith, enough, r.total)) in
      let landed : Landed k targets (calls i (map (operand t) there) t.buffers) t (block others (form k).body t) =
      follow i targets there k t
      (takes_same (slice_get heads i) to targets (length-map to (placed p))
      (call_takes names (slice_get heads i) to args fit))
      space (reads_held p size t0 low room s t args r bound) (args_low k s t args le r bound)
      (names_low p size t0 low room k to le inside) in
      let same : calls i (map (operand t) there) t.buffers ≡ calls i (map (operand s) args) s.buffers =
      ap₂ (λ (vs : List Bound) (bs : List (List ℤ)). calls i vs bs) values (sym r.buffers) in
      at_last p size t0 free Back last (finish to (calls i (map (operand s) args) s.buffers) s)
      (block others (call_form none_calm flat p to i args k).body t) (on_simple p size t0 free Back last shut)
      (landed_ends k to (calls i (map (operand s) args) s.buffers) s t
      (block others (call_form none_calm flat p to i args k).body t) le inside r
      (subst (λ (l : Lowering). Landed k targets (calls i (map (operand s) args) s.buffers) t
      (block others (l k).body t)) (sym kept)
      (subst (λ (d : Done). Landed k targets d t (block others (form k).body t)) same landed))))

  -- ---- blocks
  turn_done : (last : Bool) (xs : List Core) → AllByRecursion Done1 xs → (k : ℕ) →
      list_all (λ fit. fit) (map fits_of xs) ≡ true → Shut last (block_shape (map shape_of xs)) →
      AllByRecursion Gives (joined (map gives_of xs)) → p.first + size ≤ k →
      k + length (in_turn (map form_of xs) k).fresh ≤ length t0.names →
      Follow last (in_order (map (meaning calls) xs)) (block others (in_turn (map form_of xs) k).body)
  turn_done last [] done k fit shut give le enough s t r = ((r, refl), on_simple p size t0 free Back last shut)
  turn_done last (x ∷ []) done k fit shut give le enough s t r =
      let form : Lowered = form_of x k in
      let count : length (form.fresh ++ []) ≡ length form.fresh + 0 = length-append form.fresh [] in
      nothing_follows p size t0 free Back last (meaning calls x s) (block others (form.body ++ []) t)
      (subst (Ends last (meaning calls x s))
      (sym (block_joined others form.body [] t ∙ then_nothing others (block others form.body t)))
      (done.0 last k (and_left (fits_of x) true fit) shut (every_left Gives (gives_of x) [] give) le
      (omega (arith, count, enough)) s t r))
  turn_done last (x ∷ y ∷ xs) done k fit shut give le enough s t r =
      let form : Lowered = form_of x k in
      let next : ℕ = k + length form.fresh in
      let rest : Lowered = in_turn (map form_of (y ∷ xs)) next in
      let count : length (form.fresh ++ rest.fresh) ≡ length form.fresh + length rest.fresh =
      length-append form.fresh rest.fresh in
      let more : Meaning State = in_order (map (meaning calls) (y ∷ xs)) in
      subst (Ends last (then_do (meaning calls x s) more)) (sym (block_joined others form.body rest.body t))
      (then_follows p size t0 free Back last (meaning calls x s) (block others form.body t) more
      (block others rest.body)
      (done.0 false k (and_left (fits_of x) (list_all (λ fit. fit) (map fits_of (y ∷ xs))) fit)
      (first_closed p size t0 free Back last (shape_of x) (shape_of y) (map shape_of xs) shut)
      (every_left Gives (gives_of x) (joined (map gives_of (y ∷ xs))) give) le (omega (arith, count, enough)) s t r)
      (turn_done last (y ∷ xs) done.1 next
      (and_right (fits_of x) (list_all (λ fit. fit) (map fits_of (y ∷ xs))) fit)
      (rest_closed p size t0 free Back last (shape_of x) (shape_of y) (map shape_of xs) shut)
      (every_right Gives (gives_of x) (joined (map gives_of (y ∷ xs))) give) (omega (arith, le))
      (omega (arith, count, enough))))

  if_done : (cond : Oper) (part other : List Core) → AllByRecursion Done1 part → AllByRecursion Done1 other →
      DoneBy (is_truth (type_of names cond) &&
      (list_all (λ fit. fit) (map fits_of part) && list_all (λ fit. fit) (map fits_of other)))
      (both_shapes (block_shape (map shape_of part)) (block_shape (map shape_of other)))
      (joined (map gives_of part) ++ joined (map gives_of other))
      (flat_if (renamed p cond) (map form_of part) (map form_of other))
      (statement calls (c.If cond (map (meaning calls) part) (map (meaning calls) other)))
  if_done cond part other good fine last k fit shut give le enough s t r =
      let first : Lowered = in_turn (map form_of part) k in
      let next : ℕ = k + length first.fresh in
      let second : Lowered = in_turn (map form_of other) next in
      let count : length (first.fresh ++ second.fresh) ≡ length first.fresh + length second.fresh =
      length-append first.fresh second.fresh in
      let one : Bool = list_all (λ fit. fit) (map fits_of part) in
      let two : Bool = list_all (λ fit. fit) (map fits_of other) in
      let both : (one && two) ≡ true = and_right (is_truth (type_of names cond)) (one && two) fit in
      let there : Oper = renamed p cond in
      let ends : State × End = choice (word_at_operand t there) (block others first.body) (block others second.body) t
      in
      let mine : State × End = choice (word_at_operand s cond) (in_order (map (meaning calls) part))
      (in_order (map (meaning calls) other)) s in
      ready_follows p size t0 free Back last (ready s (cond ∷ []) []) mine s
      (block others (v.If there first.body second.body ∷ []) t)
      (λ is.
      let bound : is_bound (operand s cond) ≡ true =
      and_left (is_bound (operand s cond)) true (reads_ready s (cond ∷ []) [] is) in
      let word : word_at_operand t there ≡ word_at_operand s cond =
      ap word_of (operand_held p size t0 low room s t cond r bound) in
      subst (Ends last mine)
      (sym (block_one others (c.If there first.body second.body) (v.If there first.body second.body)
      (v.rolls-If there first.body second.body) t
      ∙ (ap (λ (b : Bool). where_ready b ends t) (ready_held s t (cond ∷ []) [] r is)
      ∙ ap (λ (z : ℤ). choice z (block others first.body) (block others second.body) t) word)))
      (choice_follows p size t0 free Back last (word_at_operand s cond) (in_order (map (meaning calls) part))
      (in_order (map (meaning calls) other)) (block others first.body) (block others second.body)
      (turn_done last part good k (and_left one two both)
      (part_closed p size t0 free Back last (block_shape (map shape_of part)) (block_shape (map shape_of other)) shut)
      (every_left Gives (joined (map gives_of part)) (joined (map gives_of other)) give) le
      (omega (arith, count, enough)))
      (turn_done last other fine next (and_right one two both)
      (other_closed p size t0 free Back last (block_shape (map shape_of part)) (block_shape (map shape_of other)) shut)
      (every_right Gives (joined (map gives_of part)) (joined (map gives_of other)) give) (omega (arith, le))
      (omega (arith, count, enough))) s t r))

  -- a loop never returns
  loop_plain : (last : Bool) (b : Bool) → Shut last (record { plain = b; tail = b; shut = false }) → b ≡ true
  loop_plain false b h = h
  loop_plain true b h = h.0

  loop_on : (last : Bool) (b : Bool) → Shut last (record { plain = b; tail = b; shut = false }) →
      On p size t0 free Back last
  loop_on false b h = tt
  loop_on true b h = or_false free h.1

  abbrev turns : List Bound → Option (List ℤ)
  turns vs = range_values (word_of (slice_index_or vs 0 Unbound)) (word_of (slice_index_or vs 1 Unbound))
      (word_of (slice_index_or vs 2 Unbound))

  for_done : (test : Bool) (var : ℕ) (lo hi by : Oper) (at : Loc) (omp : Option (List (Join × ℕ))) (body : List Core) →
      AllByRecursion Done1 body →
      DoneBy (test && list_all (λ fit. fit) (map fits_of body))
      (record {
        plain = (block_shape (map shape_of body)).plain;
        tail = (block_shape (map shape_of body)).plain;
        shut = false;
      })
      (joined (map gives_of body))
      (flat_for (v.For (placed p var) (renamed p lo) (renamed p hi) (renamed p by) at (renamed_pairs p omp))
      (map form_of body))
      (statement calls (c.For var lo hi by at omp (map (meaning calls) body)))
  for_done test var lo hi by at omp body good last k fit shut give le enough s t r =
      let form : Lowered = in_turn (map form_of body) k in
      let reads : List Oper = lo ∷ hi ∷ by ∷ [] in
      let there : List Oper = map (renamed p) reads in
      let plain : Bool = (block_shape (map shape_of body)).plain in
      let pairs : Option (List (Join × ℕ)) = renamed_pairs p omp in
      let ends : State × End = loop_over (set_variable (placed p var)) (block others form.body) at
      (turns (map (operand t) there)) t in
      let mine : State × End = loop_over (set_variable var) (in_order (map (meaning calls) body)) at
      (turns (map (operand s) reads)) s in
      let loop : Core = v.For (placed p var) (renamed p lo) (renamed p hi) (renamed p by) at pairs form.body in
      ready_follows p size t0 free Back last (ready s reads (var ∷ [])) mine s (block others (loop ∷ []) t)
      (λ is.
      let bound : AllBound s reads = reads_ready s reads (var ∷ []) is in
      let inside : nat_lt var size ≡ true = and_left (nat_lt var size) true (names_ready s t reads (var ∷ []) r is) in
      subst (Ends last mine)
      (sym (block_one others (c.For (placed p var) (renamed p lo) (renamed p hi) (renamed p by) at pairs form.body)
      loop (v.rolls-For (placed p var) (renamed p lo) (renamed p hi) (renamed p by) at pairs form.body) t
      ∙ (ap (λ (b : Bool). where_ready b ends t) (ready_held s t reads (var ∷ []) r is)
      ∙ ap (λ (vs : List Bound). loop_over (set_variable (placed p var)) (block others form.body) at (turns vs) t)
      (operands_held p size t0 low room s t reads r bound))))
      (at_last p size t0 free Back last mine
      (loop_over (set_variable (placed p var)) (block others form.body) at (turns (map (operand s) reads)) t)
      (loop_on last plain shut)
      (loop_follows p size t0 free Back (set_variable var) (set_variable (placed p var))
      (in_order (map (meaning calls) body)) (block others form.body) at
      (λ i s t r. bind_held p size t0 low room var (WordOf i) s t (ltb-true var size inside) r)
      (turn_done false body good k (and_right test (list_all (λ fit. fit) (map fits_of body)) fit)
      (loop_plain last plain shut) give le enough)
      (turns (map (operand s) reads)) s t r)))

  return_done : (test : Bool) (values : List Oper) →
      DoneBy test (record { plain = false; tail = true; shut = true }) (only_name values ∷ [])
      (only (given_back out (map (renamed p) values))) (statement calls (c.Return values))
  return_done test values false k fit shut give le enough s t r = not_both (sym shut)
  return_done test values true k fit shut give le enough s t r =
      ready_follows p size t0 free Back true (ready s values []) (s, Returned (map (operand s) values)) s
      (block others (given_back out (map (renamed p) values)) t)
      (λ is. returns values give.0 s t r (reads_ready s values [] is))

  -- ---- each kind of statement
  abbrev DoneStep : c.Core-F Core → Type 0
  DoneStep z =
      DoneBy (fits_step heads rets names (map-Core Core Bool fits_of z))
      (shape_step (map-Core Core Shape shape_of z))
      (returned_step (map-Core Core (List (Option ℕ)) gives_of z))
      (flat_step none_calm flat out p (map-Core Core Lowering form_of z))
      (statement calls (map-Core Core (Meaning State) (meaning calls) z))

  all_good : (gs : List (Good Done1)) → AllByRecursion Done1 (map (λ (g : Good Done1). g.0) gs)
  all_good [] = tt
  all_good (g ∷ gs) = (g.1, all_good gs)

  pick_at : (to of : ℕ) (subs : List CoreSub) (at : Loc) (t : State) →
      step (oper.Name (placed p of) ∷ flat_map sub_operands (map (renamed_sub p) subs)) (placed p to ∷ [])
      (pick_work (map (renamed_sub p) subs) at) t ≡
      step (map (renamed p) (oper.Name of ∷ flat_map sub_operands subs)) (map (placed p) (to ∷ []))
      (pick_work subs at) t
  pick_at to of subs at t =
      ap₂ (λ (reads : List Oper) (work : Work). step (oper.Name (placed p of) ∷ reads) (placed p to ∷ []) work t)
      (sym (subs_read p subs)) (picks_same p subs at)

  by_case : (y : c.Core-F (Good Done1)) → DoneStep (map-Core (Good Done1) Core (λ g. g.0) y)
  by_case (c.Word to op args at) =
      step_done _ args (to ∷ []) (word_work op at) (c.Word (placed p to) op (map (renamed p) args) at)
      (v.Word (placed p to) op (map (renamed p) args) at) (v.rolls-Word (placed p to) op (map (renamed p) args) at)
      (λ t. refl)
  by_case (c.Extent to of axis) =
      step_done _ (oper.Name of ∷ []) (to ∷ []) (extent_work axis) (c.Extent (placed p to) (placed p of) axis)
      (v.Extent (placed p to) (placed p of) axis) (v.rolls-Extent (placed p to) (placed p of) axis) (λ t. refl)
  by_case (c.Get to of index at) =
      step_done _ (oper.Name of ∷ index) (to ∷ []) (get_work at)
      (c.Get (placed p to) (placed p of) (map (renamed p) index) at)
      (v.Get (placed p to) (placed p of) (map (renamed p) index) at)
      (v.rolls-Get (placed p to) (placed p of) (map (renamed p) index) at) (λ t. refl)
  by_case (c.Put of index value at) =
      step_done _ (oper.Name of ∷ value ∷ index) [] (put_work at)
      (c.Put (placed p of) (map (renamed p) index) (renamed p value) at)
      (v.Put (placed p of) (map (renamed p) index) (renamed p value) at)
      (v.rolls-Put (placed p of) (map (renamed p) index) (renamed p value) at) (λ t. refl)
  by_case (c.Pick to of subs at) =
      step_done _ (oper.Name of ∷ flat_map sub_operands subs) (to ∷ []) (pick_work subs at)
      (c.Pick (placed p to) (placed p of) (map (renamed_sub p) subs) at)
      (v.Pick (placed p to) (placed p of) (map (renamed_sub p) subs) at)
      (v.rolls-Pick (placed p to) (placed p of) (map (renamed_sub p) subs) at) (pick_at to of subs at)
  by_case (c.Flip to of) =
      step_done _ (oper.Name of ∷ []) (to ∷ []) flip_work (c.Flip (placed p to) (placed p of))
      (v.Flip (placed p to) (placed p of)) (v.rolls-Flip (placed p to) (placed p of)) (λ t. refl)
  by_case (c.Alias to of) =
      step_done _ (oper.Name of ∷ []) (to ∷ []) move_work (c.Alias (placed p to) (placed p of))
      (v.Alias (placed p to) (placed p of)) (v.rolls-Alias (placed p to) (placed p of)) (λ t. refl)
  by_case (c.Fresh to dims fill at) =
      step_done _ dims (to ∷ []) (fresh_work fill at) (c.Fresh (placed p to) (map (renamed p) dims) fill at)
      (v.Fresh (placed p to) (map (renamed p) dims) fill at)
      (v.rolls-Fresh (placed p to) (map (renamed p) dims) fill at) (λ t. refl)
  by_case (c.Map to op args at) =
      step_done _ args (to ∷ []) (map_work op at) (c.Map (placed p to) op (map (renamed p) args) at)
      (v.Map (placed p to) op (map (renamed p) args) at) (v.rolls-Map (placed p to) op (map (renamed p) args) at)
      (λ t. refl)
  by_case (c.Reduce to op of at) =
      step_done _ (oper.Name of ∷ []) (to ∷ []) (reduce_work op at) (c.Reduce (placed p to) op (placed p of) at)
      (v.Reduce (placed p to) op (placed p of) at) (v.rolls-Reduce (placed p to) op (placed p of) at) (λ t. refl)
  by_case (c.Store of value at) =
      step_done _ (oper.Name of ∷ value ∷ []) [] (store_work at) (c.Store (placed p of) (renamed p value) at)
      (v.Store (placed p of) (renamed p value) at) (v.rolls-Store (placed p of) (renamed p value) at) (λ t. refl)
  by_case (c.Call to i args) = call_done to i args
  by_case (c.If cond part other) =
      if_done cond (map (λ (g : Good Done1). g.0) part) (map (λ (g : Good Done1). g.0) other) (all_good part)
      (all_good other)
  by_case (c.For var lo hi by at omp body) =
      for_done _ var lo hi by at omp (map (λ (g : Good Done1). g.0) body) (all_good body)
  by_case (c.Return values) = return_done _ values

  layer : (y : c.Core-F (Good Done1)) → Done1 (roll-Core (map-Core (Good Done1) Core (λ g. g.0) y))
  layer y =
      let z : c.Core-F Core = map-Core (Good Done1) Core (λ g. g.0) y in
      let x : Core = roll-Core z in
      subst (λ (a : Bool). DoneBy a (shape_of x) (gives_of x) (form_of x) (meaning calls x))
      (sym (fold-roll-Core Bool (fits_step heads rets names) z))
      (subst (λ (a : Shape). DoneBy (fits_step heads rets names (map-Core Core Bool fits_of z)) a (gives_of x)
      (form_of x) (meaning calls x)) (sym (fold-roll-Core Shape shape_step z))
      (subst (λ (a : List (Option ℕ)). DoneBy (fits_step heads rets names (map-Core Core Bool fits_of z))
      (shape_step (map-Core Core Shape shape_of z)) a (form_of x) (meaning calls x))
      (sym (fold-roll-Core (List (Option ℕ)) returned_step z))
      (subst (λ (a : Lowering). DoneBy (fits_step heads rets names (map-Core Core Bool fits_of z))
      (shape_step (map-Core Core Shape shape_of z)) (returned_step (map-Core Core (List (Option ℕ)) gives_of z)) a
      (meaning calls x)) (sym (fold-roll-Core Lowering (flat_step none_calm flat out p) z))
      (subst (λ (a : Meaning State). DoneBy (fits_step heads rets names (map-Core Core Bool fits_of z))
      (shape_step (map-Core Core Shape shape_of z)) (returned_step (map-Core Core (List (Option ℕ)) gives_of z))
      (flat_step none_calm flat out p (map-Core Core Lowering form_of z)) a)
      (sym (fold-roll-Core (Meaning State) (statement calls) z)) (by_case y)))))

  each_done : (xs : List Core) → AllByRecursion Done1 xs
  each_done [] = tt
  each_done (x ∷ xs) = (by_layers Done1 layer x, each_done xs)

  pub body_follows : (body : List Core) → all_fit heads rets names body ≡ true → Shut true (shape_of_body body) →
      AllByRecursion Gives (returned body) → (k : ℕ) → p.first + size ≤ k →
      k + length (flat_block none_calm flat out p body k).fresh ≤ length t0.names →
      Follow true (block calls body) (block others (flat_block none_calm flat out p body k).body)
  body_follows body fit shut give k le enough = turn_done true body (each_done body) k fit shut give le enough

-- The flat form of statements fits its kernel, returns where they do, and binds what they bind.
use Rattle.std.proofs.Common.{◌≡◌, ◌∙◌, ap, ap₂, sym, subst, refl, ℕ, ◌+◌, ◌<◌, Bool, true, false}
use Rattle.std.proofs.Common.{◌&&◌, List, [], ◌∷◌, ◌++◌, append-nil, get_or, map, length, slice_get, Option, Some}
use Rattle.std.proofs.lemmas.Grind.{flat_map-append}
use Rattle.std.proofs.lemmas.List.{length-set}
use Rattle.std.proofs.lemmas.Option.{slice_get-get_or, slice_get_within}
use Rattle.std.specs.Prelude.{slice_set}
use Rattle.std.specs.List.{AllByRecursion, flat_map, list_all}
use Rattle.krn_base.specs.declared.kind.Kind.TheVariants.{Int64}
use Rattle.krn_base.specs.declared.operation.Join.{Join}
use Rattle.krn_base.specs.declared.place.Loc.{Loc}
use Rattle.eager_rules.specs.Sound.{Bindings, Head, Shape, all_fit, all_numbers, block_shape, both, both_shapes}
use Rattle.eager_rules.specs.Sound.{call_fits, fits, fits_step, has_type, in_walk, meet, names_fit, next, operand_bound}
use Rattle.eager_rules.specs.Sound.{put_all, reduction_fits, shape_of_body, shape_step, simple, stay, tested, walk}
use Rattle.eager_rules.specs.Sound.{walk_step}
use Rattle.eager_rules.specs.Statements.{calls_of, calls_step}
use Rattle.eager_rules.specs.Types.{Ty, is_truth, type_of}
use Rattle.eager_rules.specs.Works.{sub_operands}
use Rattle.eager_rules.specs.declared.program.Core.{Core}
use Rattle.eager_rules.specs.declared.program.Core.TheOpen as c
use Rattle.eager_rules.specs.declared.program.Core.TheVariants as v
use Rattle.eager_rules.specs.declared.program.Core.TheFolds.{fold-Core, fold-roll-Core, map-Core}
use Rattle.eager_rules.specs.declared.program.Core.TheViews.{roll-Core}
use Rattle.eager_rules.specs.declared.program.Oper.{Oper}
use Rattle.eager_rules.specs.declared.program.Oper.TheVariants as oper
use Rattle.inline.specs.Flat.{Inline, Lowered, Lowering, call_form, flat_block, flat_for, flat_if, flat_step, in_turn}
use Rattle.inline.specs.Flat.{only}
use Rattle.inline.specs.Idle.{none_calm}
use Rattle.inline.specs.Places.{given_back, placed, renamed, renamed_pairs, renamed_sub}
use Rattle.inline.specs.declared.moves.Out.{Out}
use Rattle.inline.specs.declared.places.Place.{Place}
use Rattle.inline.proofs.BoundTests.{AllIn, Kept, More, in_meet, kept_given, kept_meet, kept_more, kept_names}
use Rattle.inline.proofs.BoundTests.{kept_operand, kept_operands, kept_put, meet_more, same_more}
use Rattle.inline.proofs.Cuts.{subs_read}
use Rattle.inline.proofs.DropShapes.{Better, in_order, ordered}
use Rattle.inline.proofs.DropShapes.{same_better, shape, then_shape}
use Rattle.inline.proofs.DropSound.{next_given, walk_of, walks}
use Rattle.inline.proofs.FlatMoves.{AllFit, AllNamed, AllReady, Goes, Works, fit, fits_then, goes_then, layer_fits}
use Rattle.inline.proofs.FlatMoves.{layer_goes, leaf_goes, leaf_shape, shape_in}
use Rattle.inline.proofs.FlatShapes.{Has, both_meet, has_left, has_right, loop_shape, mode, mode_both, mode_loop}
use Rattle.inline.proofs.FlatShapes.{mode_simple, mode_then, stay_given, tested_given}
use Rattle.inline.proofs.Frames.{and_both}
use Rattle.inline.proofs.Simulation.{every_left, every_right, none_left}
use Rattle.inline.proofs.Trees.{Good, by_layers}
use Rattle.inline.proofs.TypePlaces.{alias_kept, and_kept, call_kept, extent_kept, fresh_kept, get_kept, has_kept}
use Rattle.inline.proofs.TypePlaces.{map_kept, numbers_kept, pick_kept, put_kept, reduce_kept, reduction_kept}
use Rattle.inline.proofs.TypePlaces.{store_kept, truth_kept, word_kept}
use Rattle.inline.proofs.TypeTests.{and_left, and_right, not_true, some_same}

-- The heads of the program; those of the flat one, and the kernel's values and table; an instance's values and names;
-- where its names stand, and what its Returns become; the instances whose calls have a form; the names that have the
-- values behind the body.
module _ (heads others : List Head) (backs table rets names : List Ty) (p : Place) (out : Out) (flat : Inline)
    (stands : (n : ℕ) (t : Ty) → slice_get names n ≡ Some t → slice_get table (placed p n) ≡ Some t)
    (Ok : ℕ → Type 0) (ends : List ℕ)
    (calls_work : (i : ℕ) → Ok i → (to : List ℕ) (args : List Oper) (k : ℕ) →
    call_fits table (slice_get heads i) to args ≡ true → Has table k (flat i to args k).fresh →
    Works others backs table (flat i to args k).body (λ b. AllReady others backs table args b)
    (λ d. AllNamed others backs table to d)) where
  pub inside : (n : ℕ) → n < length names → placed p n < length table
  inside n lt =
      let t : Ty = get_or names n (Int64, 0) in
      slice_get_within table (placed p n) t (stands n t (slice_get-get_or names n (Int64, 0) lt))

  abbrev pub Holds : Bindings → Bindings → Type 0
  Holds = Kept p (length names) (length table) inside

  abbrev pub FitsAll : List Core → Type 0
  FitsAll = AllFit others backs table

  -- what is bound behind statements of a shape
  abbrev pub After : Shape → Bindings → Bindings → Type 0
  After s mine theirs = (s.plain ≡ true → Holds mine theirs) × (s.shut ≡ true → AllIn theirs ends)

  abbrev pub Leads : Shape → (Bindings → Option Bindings) → List Core → Type 0
  Leads s walk ys =
      s.tail ≡ true → (a last b : Bindings) → walk a ≡ Some last → length b ≡ length table → Holds a b →
      (d : Bindings) × (Goes ys b d × After s last d)

  pub record Made (s : Shape) (walk : Bindings → Option Bindings) (ys : List Core) : Type 0 where
    pub fitting : FitsAll ys
    pub shaped : Better (mode out s) (shape_in ys)
    pub leads : Leads s walk ys

  module _ (returns : (values : List Oper) → fits_step heads rets names (c.Return values) ≡ true →
      Made (record { plain = false; tail = true; shut = true }) (walk_step (c.Return values))
      (given_back out (map (renamed p) values))) where
    abbrev form_of : Core → Lowering
    form_of = fold-Core Lowering (flat_step none_calm flat out p)

    abbrev fits_of : Core → Bool
    fits_of = fits heads rets names

    abbrev called_in : Core → List ℕ
    called_in = fold-Core (List ℕ) calls_step

    abbrev Walk : Type 0
    Walk = Bindings → Option Bindings

    abbrev DoneBy : Bool → Shape → List ℕ → Lowering → Walk → Type 0
    DoneBy test s calls form walk =
        (k : ℕ) → test ≡ true → AllByRecursion Ok calls → Has table k (form k).fresh → Made s walk (form k).body

    abbrev Done1 : Core → Type 0
    Done1 x = DoneBy (fits_of x) (shape x) (called_in x) (form_of x) (walk_of x)

    -- ---- statements without blocks
    leaf_made : (test : Bool) (walk : Walk) (reads : List Oper) (to : List ℕ) (y : c.Core-F Core) (x : Core) →
        roll-Core y ≡ x → (test ≡ true → fits_step others backs table (map-Core Core Bool (fit others backs table) y) ≡
        true) → shape_step (map-Core Core Shape shape y) ≡ simple →
        ((a : Bindings) → walk a ≡ tested (list_all (operand_bound a) reads && names_fit a to) (Some (put_all to a))) →
        ((b : Bindings) → walk_step (map-Core Core Walk walk_of y) b ≡
        tested (list_all (operand_bound b) (map (renamed p) reads) && names_fit b (map (placed p) to))
        (Some (put_all (map (placed p) to) b))) →
        DoneBy test simple [] (only (x ∷ [])) walk
    leaf_made test walk reads to y x is typed plain mine theirs k fit calls has = record {
      fitting = layer_fits others backs table y x is (typed fit);
      shaped = mode_simple out (shape_in (x ∷ [])) (leaf_shape y x is plain);
      leads = λ tail a last b walked long holds.
          let found = tested_given (list_all (operand_bound a) reads && names_fit a to) (Some (put_all to a)) last
          (sym (mine a) ∙ walked) in
          let ready : list_all (operand_bound a) reads ≡ true =
          and_left (list_all (operand_bound a) reads) (names_fit a to) found.0 in
          let named : names_fit a to ≡ true =
          and_right (list_all (operand_bound a) reads) (names_fit a to) found.0 in
          let behind : Holds (put_all to a) (put_all (map (placed p) to) b) =
          kept_put p (length names) (length table) inside to a b long named holds in (
            put_all (map (placed p) to) b,
            (
              leaf_goes y x is (map (renamed p) reads) (map (placed p) to) theirs b
                  (kept_operands p (length names) (length table) inside a b reads holds ready)
                  (kept_names p (length names) (length table) inside to a b long named holds),
              (
                (λ e. subst (λ (xs : Bindings). Holds xs (put_all (map (placed p) to) b))
                    (some_same (put_all to a) last found.1) behind),
                not_true,
              ),
            ),
          );
    }

    -- ---- calls
    call_made : (to : List ℕ) (i : ℕ) (args : List Oper) →
        DoneBy (call_fits names (slice_get heads i) to args) simple (i ∷ []) (call_form none_calm flat p to i args)
        (λ a. tested (list_all (operand_bound a) args && names_fit a to) (Some (put_all to a)))
    call_made to i args k fit calls has =
        let there : List Oper = map (renamed p) args in
        let targets : List ℕ = map (placed p) to in
        let form : Lowering = flat i targets there in
        let kept : call_form none_calm flat p to i args ≡ form = none_left to i form in
        subst (λ (l : Lowering). Made simple
        (λ a. tested (list_all (operand_bound a) args && names_fit a to) (Some (put_all to a))) (l k).body) (sym kept)
        (landed (form k).body (calls_work i calls.0 targets there k
        (call_kept names table p stands (slice_get heads i) to args fit)
        (subst (λ (l : Lowering). Has table k (l k).fresh) kept has)))
      where
        landed : (ys : List Core) → Works others backs table ys
            (λ b. AllReady others backs table (map (renamed p) args) b)
            (λ d. AllNamed others backs table (map (placed p) to) d) →
            Made simple (λ a. tested (list_all (operand_bound a) args && names_fit a to) (Some (put_all to a))) ys
        landed ys works = record {
          fitting = works.all_fit;
          shaped = mode_simple out (shape_in ys) works.plain;
          leads = λ tail a last b walked long holds.
              let found = tested_given (list_all (operand_bound a) args && names_fit a to) (Some (put_all to a)) last
              walked in
              let went = works.goes b long (kept_operands p (length names) (length table) inside a b args holds
              (and_left (list_all (operand_bound a) args) (names_fit a to) found.0)) in
              let d : Bindings = went.0 in (
                d,
                (
                  went.1.0,
                  (
                    (λ e. subst (λ (xs : Bindings). Holds xs d) (some_same (put_all to a) last found.1)
                        (kept_given p (length names) (length table) inside to a d
                        (kept_more p (length names) (length table) inside a b d holds went.1.0.1) went.1.1)),
                    not_true,
                  ),
                ),
              );
        }

    -- ---- blocks
    abbrev all_called : List Core → List ℕ
    all_called xs = flat_map (λ (calls : List ℕ). calls) (map called_in xs)

    abbrev test_of : List Core → Bool
    test_of xs = list_all (λ fits. fits) (map fits_of xs)

    made_then : (x : Core) (s : Shape) (walk : Walk) (ys zs : List Core) → Made (shape x) (walk_of x) ys →
        Made s walk zs → Made (then_shape (shape x) s) (λ a. next (walk_of x a) walk) (ys ++ zs)
    made_then x s walk ys zs f g = record {
      fitting = fits_then others backs table ys zs f.fitting g.fitting;
      shaped = mode_then out ys zs (shape x) s f.shaped g.shaped;
      leads = λ tail a last b walked long holds.
          let plain : (shape x).plain ≡ true = and_left (shape x).plain s.tail tail in
          let found = next_given (walk_of x a) walk last walked in
          let mid : Bindings = found.0 in
          let first = f.leads (ordered x plain) a mid b found.1 long holds in
          let d : Bindings = first.0 in
          let more : More b d = first.1.0.1 in
          let second = g.leads (and_right (shape x).plain s.tail tail) mid last d found.2 (more.size ∙ long)
          (first.1.1.0 plain) in (
            second.0,
            (
              goes_then ys zs b d second.0 first.1.0 second.1.0,
              (
                (λ e. second.1.1.0 (and_right (shape x).plain s.plain e)),
                (λ e. second.1.1.1 (and_right (shape x).plain s.shut e)),
              ),
            ),
          );
    }

    made_last : (x : Core) (ys : List Core) → Made (shape x) (walk_of x) ys →
        Made (shape x) (λ a. next (walk_of x a) (in_walk [])) (ys ++ [])
    made_last x ys f =
        subst (Made (shape x) (λ a. next (walk_of x a) (in_walk []))) (sym (append-nil ys)) (record {
          fitting = f.fitting;
          shaped = f.shaped;
          leads = λ tail a last b walked long holds.
              let found = next_given (walk_of x a) (in_walk []) last walked in
              f.leads tail a last b (found.1 ∙ found.2) long holds;
        })

    turn_made : (xs : List Core) → AllByRecursion Done1 xs →
        DoneBy (test_of xs) (block_shape (map shape xs)) (all_called xs) (in_turn (map form_of xs))
        (in_walk (map walk_of xs))
    turn_made [] done k fit calls has = record {
      fitting = refl;
      shaped = mode_simple out simple (same_better simple);
      leads = λ tail a last b walked long holds. (
        b,
        (
          (refl, same_more b),
          ((λ e. subst (λ (xs : Bindings). Holds xs b) (some_same a last walked) holds), not_true),
        ),
      );
    }
    turn_made (x ∷ []) done k fit calls has =
        made_last x (form_of x k).body
        (done.0 k (and_left (fits_of x) true fit) (every_left Ok (called_in x) [] calls)
        (has_left table k (form_of x k).fresh [] has))
    turn_made (x ∷ y ∷ xs) done k fit calls has =
        let form : Lowered = form_of x k in
        let next_k : ℕ = k + length form.fresh in
        let rest : Lowered = in_turn (map form_of (y ∷ xs)) next_k in
        made_then x (block_shape (map shape (y ∷ xs))) (in_walk (map walk_of (y ∷ xs))) form.body rest.body
        (done.0 k (and_left (fits_of x) (test_of (y ∷ xs)) fit)
        (every_left Ok (called_in x) (all_called (y ∷ xs)) calls) (has_left table k form.fresh rest.fresh has))
        (turn_made (y ∷ xs) done.1 next_k (and_right (fits_of x) (test_of (y ∷ xs)) fit)
        (every_right Ok (called_in x) (all_called (y ∷ xs)) calls) (has_right table k form.fresh rest.fresh has))

    abbrev walk_in : List Core → Walk
    walk_in xs = in_walk (map walk_of xs)

    choice_made : (cond : Oper) (sp so : Shape) (one two : Walk) (ys zs : List Core) →
        is_truth (type_of names cond) ≡ true → Made sp one ys → Made so two zs →
        Made (both_shapes sp so) (λ a. tested (operand_bound a cond) (both (one a) (two a)))
        (v.If (renamed p cond) ys zs ∷ [])
    choice_made cond sp so one two ys zs truth f g =
        let there : Oper = renamed p cond in
        let y : c.Core-F Core = c.If there ys zs in
        let x : Core = v.If there ys zs in
        let is : roll-Core y ≡ x = v.rolls-If there ys zs in
        record {
          fitting = layer_fits others backs table y x is
              (and_both (is_truth (type_of table there))
              (all_fit others backs table ys && all_fit others backs table zs)
              (truth_kept names table p stands cond truth)
              (and_both (all_fit others backs table ys) (all_fit others backs table zs) f.fitting g.fitting));
          shaped = subst (λ (s : Shape). Better (mode out (both_shapes sp so)) s)
              (sym (ap shape (sym is) ∙ fold-roll-Core Shape shape_step y))
              (mode_both out sp so (shape_in ys) (shape_in zs) f.shaped g.shaped);
          leads = λ tail a last b walked long holds.
              let found = tested_given (operand_bound a cond) (both (one a) (two a)) last walked
              in
              let paths = both_meet (one a) (two a) last found.1 in
              let first = f.leads (and_left sp.tail so.tail tail) a paths.0 b paths.2 long holds in
              let second = g.leads (and_right sp.tail so.tail tail) a paths.1 b paths.3 long holds in
              let ready : operand_bound b there ≡ true =
              kept_operand p (length names) (length table) inside a b cond holds found.0 in
              let d : Bindings = first.0 in
              let e : Bindings = second.0 in (
                meet d e,
                (
                  layer_goes y x is b (meet d e)
                      (ap (λ (t : Bool). tested t (both (walks ys b) (walks zs b))) ready
                      ∙ ap₂ (λ (o q : Option Bindings). both o q) first.1.0.0 second.1.0.0)
                      (meet_more b d e first.1.0.1 second.1.0.1),
                  (
                    (λ h. subst (λ (xs : Bindings). Holds xs (meet d e)) paths.4
                        (kept_meet p (length names) (length table) inside paths.0 paths.1 d e
                        (first.1.1.0 (and_left sp.plain so.plain h)) (second.1.1.0 (and_right sp.plain so.plain h)))),
                    (λ h. in_meet d e ends (first.1.1.1 (and_left sp.shut so.shut h))
                        (second.1.1.1 (and_right sp.shut so.shut h))),
                  ),
                ),
              );
        }

    if_made : (cond : Oper) (part other : List Core) → AllByRecursion Done1 part → AllByRecursion Done1 other →
        DoneBy (is_truth (type_of names cond) && (test_of part && test_of other))
        (both_shapes (block_shape (map shape part)) (block_shape (map shape other)))
        (flat_map (λ (calls : List ℕ). calls) (map called_in part ++ map called_in other))
        (flat_if (renamed p cond) (map form_of part) (map form_of other))
        (walk_step (c.If cond (map walk_of part) (map walk_of other)))
    if_made cond part other good fine k fit calls has =
        let first : Lowered = in_turn (map form_of part) k in
        let next_k : ℕ = k + length first.fresh in
        let second : Lowered = in_turn (map form_of other) next_k in
        let tests : (test_of part && test_of other) ≡ true =
        and_right (is_truth (type_of names cond)) (test_of part && test_of other) fit in
        let all : AllByRecursion Ok (all_called part ++ all_called other) =
        subst (AllByRecursion Ok) (flat_map-append (λ (calls : List ℕ). calls) (map called_in part)
        (map called_in other)) calls in
        choice_made cond (shape_in part) (shape_in other) (walk_in part) (walk_in other) first.body second.body
        (and_left (is_truth (type_of names cond)) (test_of part && test_of other) fit)
        (turn_made part good k (and_left (test_of part) (test_of other) tests)
        (every_left Ok (all_called part) (all_called other) all) (has_left table k first.fresh second.fresh has))
        (turn_made other fine next_k (and_right (test_of part) (test_of other) tests)
        (every_right Ok (all_called part) (all_called other) all) (has_right table k first.fresh second.fresh has))

    abbrev numbers : ℕ → Oper → Oper → Oper → Option (List (Join × ℕ)) → Bool
    numbers var lo hi by omp =
        (all_numbers names (lo ∷ hi ∷ by ∷ []) && has_type names var (Some (Int64, 0))) && reduction_fits names omp

    loop_made : (var : ℕ) (lo hi by : Oper) (at : Loc) (omp : Option (List (Join × ℕ))) (test : Bool) (s : Shape)
        (turn : Walk) (ys : List Core) → (s.plain ≡ true → s.tail ≡ true) → numbers var lo hi by omp && test ≡ true →
        Made s turn ys →
        Made (loop_shape s)
        (λ a. tested (list_all (operand_bound a) (lo ∷ hi ∷ by ∷ []) && names_fit a (var ∷ []))
        (stay a (turn (slice_set a var true))))
        (v.For (placed p var) (renamed p lo) (renamed p hi) (renamed p by) at (renamed_pairs p omp) ys ∷ [])
    loop_made var lo hi by at omp test s turn ys order fit f =
        let pairs : Option (List (Join × ℕ)) = renamed_pairs p omp in
        let y : c.Core-F Core = c.For (placed p var) (renamed p lo) (renamed p hi) (renamed p by) at pairs ys in
        let x : Core = v.For (placed p var) (renamed p lo) (renamed p hi) (renamed p by) at pairs ys in
        let is : roll-Core y ≡ x =
        v.rolls-For (placed p var) (renamed p lo) (renamed p hi) (renamed p by) at pairs ys in
        record {
          fitting = layer_fits others backs table y x is
              (and_kept (numbers var lo hi by omp) test ((all_numbers table (map (renamed p) (lo ∷ hi ∷ by ∷ []))
              && has_type table (placed p var) (Some (Int64, 0))) && reduction_fits table pairs)
              (all_fit others backs table ys) fit
              (λ e. and_kept (all_numbers names (lo ∷ hi ∷ by ∷ []) && has_type names var (Some (Int64, 0)))
              (reduction_fits names omp) (all_numbers table (map (renamed p) (lo ∷ hi ∷ by ∷ []))
              && has_type table (placed p var) (Some (Int64, 0))) (reduction_fits table pairs) e
              (λ d. and_kept (all_numbers names (lo ∷ hi ∷ by ∷ [])) (has_type names var (Some (Int64, 0)))
              (all_numbers table (map (renamed p) (lo ∷ hi ∷ by ∷ [])))
              (has_type table (placed p var) (Some (Int64, 0))) d
              (numbers_kept names table p stands (lo ∷ hi ∷ by ∷ []))
              (has_kept names table p stands var (Some (Int64, 0))))
              (reduction_kept names table p stands omp))
              (λ e. f.fitting));
          shaped = subst (λ (t : Shape). Better (mode out (loop_shape s)) t)
              (sym (ap shape (sym is) ∙ fold-roll-Core Shape shape_step y))
              (mode_loop out s (shape_in ys) f.shaped);
          leads = λ plain a last b walked long holds.
              let found = tested_given (list_all (operand_bound a) (lo ∷ hi ∷ by ∷ []) && names_fit a (var ∷ []))
              (stay a (turn (slice_set a var true))) last walked in
              let ready : list_all (operand_bound a) (lo ∷ hi ∷ by ∷ []) ≡ true =
              and_left (list_all (operand_bound a) (lo ∷ hi ∷ by ∷ [])) (names_fit a (var ∷ [])) found.0 in
              let named : names_fit a (var ∷ []) ≡ true =
              and_right (list_all (operand_bound a) (lo ∷ hi ∷ by ∷ [])) (names_fit a (var ∷ [])) found.0 in
              let stays = stay_given a (turn (slice_set a var true)) last found.1 in
              let begun : Bindings = slice_set b (placed p var) true in
              let led = f.leads (order plain) (slice_set a var true) stays.0 begun stays.1
              (length-set b (placed p var) true ∙ long)
              (kept_put p (length names) (length table) inside (var ∷ []) a b long named holds) in (
                b,
                (
                  layer_goes y x is b b
                      (ap (λ (t : Bool). tested t (stay b (walks ys begun)))
                      (and_both (list_all (operand_bound b) (map (renamed p) (lo ∷ hi ∷ by ∷ [])))
                      (names_fit b (placed p var ∷ []))
                      (kept_operands p (length names) (length table) inside a b (lo ∷ hi ∷ by ∷ []) holds ready)
                      (kept_names p (length names) (length table) inside (var ∷ []) a b long named holds))
                      ∙ ap (stay b) led.1.0.0)
                      (same_more b),
                  ((λ e. subst (λ (xs : Bindings). Holds xs b) stays.2 holds), not_true),
                ),
              );
        }

    for_made : (var : ℕ) (lo hi by : Oper) (at : Loc) (omp : Option (List (Join × ℕ))) (body : List Core) →
        AllByRecursion Done1 body →
        DoneBy (((all_numbers names (lo ∷ hi ∷ by ∷ []) && has_type names var (Some (Int64, 0)))
        && reduction_fits names omp) && test_of body) (loop_shape (block_shape (map shape body))) (all_called body)
        (flat_for (v.For (placed p var) (renamed p lo) (renamed p hi) (renamed p by) at (renamed_pairs p omp))
        (map form_of body))
        (walk_step (c.For var lo hi by at omp (map walk_of body)))
    for_made var lo hi by at omp body good k fit calls has =
        loop_made var lo hi by at omp (test_of body) (shape_in body) (walk_in body)
        (in_turn (map form_of body) k).body (in_order body) fit
        (turn_made body good k (and_right (numbers var lo hi by omp) (test_of body) fit) calls has)

    -- ---- each kind of statement
    abbrev DoneStep : c.Core-F Core → Type 0
    DoneStep z =
        DoneBy (fits_step heads rets names (map-Core Core Bool fits_of z)) (shape_step (map-Core Core Shape shape z))
        (calls_step (map-Core Core (List ℕ) called_in z))
        (flat_step none_calm flat out p (map-Core Core Lowering form_of z))
        (walk_step (map-Core Core Walk walk_of z))

    all_good : (gs : List (Good Done1)) → AllByRecursion Done1 (map (λ (g : Good Done1). g.0) gs)
    all_good [] = tt
    all_good (g ∷ gs) = (g.1, all_good gs)

    by_case : (y : c.Core-F (Good Done1)) → DoneStep (map-Core (Good Done1) Core (λ g. g.0) y)
    by_case (c.Word to op args at) =
        leaf_made _ _ args (to ∷ []) (c.Word (placed p to) op (map (renamed p) args) at)
        (v.Word (placed p to) op (map (renamed p) args) at) (v.rolls-Word (placed p to) op (map (renamed p) args) at)
        (word_kept names table p stands heads others rets backs to op args at) refl (λ a. refl) (λ b. refl)
    by_case (c.Extent to of axis) =
        leaf_made _ _ (oper.Name of ∷ []) (to ∷ []) (c.Extent (placed p to) (placed p of) axis)
        (v.Extent (placed p to) (placed p of) axis) (v.rolls-Extent (placed p to) (placed p of) axis)
        (extent_kept names table p stands heads others rets backs to of axis) refl (λ a. refl) (λ b. refl)
    by_case (c.Get to of index at) =
        leaf_made _ _ (oper.Name of ∷ index) (to ∷ [])
        (c.Get (placed p to) (placed p of) (map (renamed p) index) at)
        (v.Get (placed p to) (placed p of) (map (renamed p) index) at)
        (v.rolls-Get (placed p to) (placed p of) (map (renamed p) index) at)
        (get_kept names table p stands heads others rets backs to of index at) refl (λ a. refl) (λ b. refl)
    by_case (c.Put of index value at) =
        leaf_made _ _ (oper.Name of ∷ value ∷ index) []
        (c.Put (placed p of) (map (renamed p) index) (renamed p value) at)
        (v.Put (placed p of) (map (renamed p) index) (renamed p value) at)
        (v.rolls-Put (placed p of) (map (renamed p) index) (renamed p value) at)
        (put_kept names table p stands heads others rets backs of index value at) refl (λ a. refl) (λ b. refl)
    by_case (c.Pick to of subs at) =
        leaf_made _ _ (oper.Name of ∷ flat_map sub_operands subs) (to ∷ [])
        (c.Pick (placed p to) (placed p of) (map (renamed_sub p) subs) at)
        (v.Pick (placed p to) (placed p of) (map (renamed_sub p) subs) at)
        (v.rolls-Pick (placed p to) (placed p of) (map (renamed_sub p) subs) at)
        (pick_kept names table p stands heads others rets backs to of subs at) refl (λ a. refl)
        (λ b. ap (λ (xs : List Oper). tested (list_all (operand_bound b) (oper.Name (placed p of) ∷ xs)
        && names_fit b (placed p to ∷ [])) (Some (put_all (placed p to ∷ []) b))) (sym (subs_read p subs)))
    by_case (c.Flip to of) =
        leaf_made _ _ (oper.Name of ∷ []) (to ∷ []) (c.Flip (placed p to) (placed p of))
        (v.Flip (placed p to) (placed p of)) (v.rolls-Flip (placed p to) (placed p of))
        (alias_kept names table p stands heads others rets backs to of) refl (λ a. refl) (λ b. refl)
    by_case (c.Alias to of) =
        leaf_made _ _ (oper.Name of ∷ []) (to ∷ []) (c.Alias (placed p to) (placed p of))
        (v.Alias (placed p to) (placed p of)) (v.rolls-Alias (placed p to) (placed p of))
        (alias_kept names table p stands heads others rets backs to of) refl (λ a. refl) (λ b. refl)
    by_case (c.Fresh to dims fill at) =
        leaf_made _ _ dims (to ∷ []) (c.Fresh (placed p to) (map (renamed p) dims) fill at)
        (v.Fresh (placed p to) (map (renamed p) dims) fill at)
        (v.rolls-Fresh (placed p to) (map (renamed p) dims) fill at)
        (fresh_kept names table p stands heads others rets backs to dims fill at) refl (λ a. refl) (λ b. refl)
    by_case (c.Map to op args at) =
        leaf_made _ _ args (to ∷ []) (c.Map (placed p to) op (map (renamed p) args) at)
        (v.Map (placed p to) op (map (renamed p) args) at) (v.rolls-Map (placed p to) op (map (renamed p) args) at)
        (map_kept names table p stands heads others rets backs to op args at) refl (λ a. refl) (λ b. refl)
    by_case (c.Reduce to op of at) =
        leaf_made _ _ (oper.Name of ∷ []) (to ∷ []) (c.Reduce (placed p to) op (placed p of) at)
        (v.Reduce (placed p to) op (placed p of) at) (v.rolls-Reduce (placed p to) op (placed p of) at)
        (reduce_kept names table p stands heads others rets backs to op of at) refl (λ a. refl) (λ b. refl)
    by_case (c.Store of value at) =
        leaf_made _ _ (oper.Name of ∷ value ∷ []) [] (c.Store (placed p of) (renamed p value) at)
        (v.Store (placed p of) (renamed p value) at) (v.rolls-Store (placed p of) (renamed p value) at)
        (store_kept names table p stands heads others rets backs of value at) refl (λ a. refl) (λ b. refl)
    by_case (c.Call to i args) = call_made to i args
    by_case (c.If cond part other) =
        if_made cond (map (λ (g : Good Done1). g.0) part) (map (λ (g : Good Done1). g.0) other) (all_good part)
        (all_good other)
    by_case (c.For var lo hi by at omp body) =
        for_made var lo hi by at omp (map (λ (g : Good Done1). g.0) body) (all_good body)
    by_case (c.Return values) = λ k fit calls has. returns values fit

    layer : (y : c.Core-F (Good Done1)) → Done1 (roll-Core (map-Core (Good Done1) Core (λ g. g.0) y))
    layer y =
        let z : c.Core-F Core = map-Core (Good Done1) Core (λ g. g.0) y in
        let x : Core = roll-Core z in
        let test : Bool = fits_step heads rets names (map-Core Core Bool fits_of z) in
        let s : Shape = shape_step (map-Core Core Shape shape z) in
        let calls : List ℕ = calls_step (map-Core Core (List ℕ) called_in z) in
        let form : Lowering = flat_step none_calm flat out p (map-Core Core Lowering form_of z) in
        subst (λ (a : Bool). DoneBy a (shape x) (called_in x) (form_of x) (walk_of x))
        (sym (fold-roll-Core Bool (fits_step heads rets names) z))
        (subst (λ (a : Shape). DoneBy test a (called_in x) (form_of x) (walk_of x))
        (sym (fold-roll-Core Shape shape_step z))
        (subst (λ (a : List ℕ). DoneBy test s a (form_of x) (walk_of x))
        (sym (fold-roll-Core (List ℕ) calls_step z))
        (subst (λ (a : Lowering). DoneBy test s calls a (walk_of x))
        (sym (fold-roll-Core Lowering (flat_step none_calm flat out p) z))
        (subst (λ (a : Walk). DoneBy test s calls form a) (sym (fold-roll-Core Walk walk_step z)) (by_case y)))))

    each_done : (xs : List Core) → AllByRecursion Done1 xs
    each_done [] = tt
    each_done (x ∷ xs) = (by_layers Done1 layer x, each_done xs)

    gathered : (xs : List Core) → calls_of xs ≡ all_called xs
    gathered [] = refl
    gathered (x ∷ xs) = ap (λ (rest : List ℕ). called_in x ++ rest) (gathered xs)

    pub body_made : (body : List Core) (k : ℕ) → all_fit heads rets names body ≡ true →
        AllByRecursion Ok (calls_of body) → Has table k (flat_block none_calm flat out p body k).fresh →
        Made (shape_of_body body) (walk body) (flat_block none_calm flat out p body k).body
    body_made body k fit calls has =
        turn_made body (each_done body) k fit (subst (AllByRecursion Ok) (gathered body) calls) has

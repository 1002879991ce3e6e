-- A called body in place of its call is sound in its kernel, to every depth of calls.
use Rattle.std.proofs.Common.{◌≡◌, ◌∙◌, ap, sym, subst, refl, arith, ℕ, zero, suc, ◌+◌, ◌<◌, ◌≤◌, Bool, true, false}
use Rattle.std.proofs.Common.{List, [], ◌∷◌, ◌++◌, map, take, length, replicate, slice_get, Option, Some, None}
use Rattle.std.proofs.lemmas.List.Elements.{recursion_from_All}
use Rattle.std.proofs.lemmas.Option.{slice_get-map, slice_get_within}
use Rattle.std.specs.Prelude.{option_map}
use Rattle.std.specs.List.{AllByRecursion, list_all}
use Rattle.eager_rules.specs.Sound.{Bindings, HasNoCycle, Head, IsWellTyped, Shape, at_start, bound_in, call_fits}
use Rattle.eager_rules.specs.Sound.{fits_step, given_types, head_of, is_assigned, named_types, operand_bound}
use Rattle.eager_rules.specs.Sound.{shape_of_body, simple, takes_values, walk, walk_step}
use Rattle.eager_rules.specs.Statements.{calls_of}
use Rattle.eager_rules.specs.Types.{Ty, same_types, type_of_param, types_of}
use Rattle.eager_rules.specs.declared.program.Core.{Core}
use Rattle.eager_rules.specs.declared.program.Core.TheOpen as c
use Rattle.eager_rules.specs.declared.program.Instance.{Instance}
use Rattle.eager_rules.specs.declared.program.Oper.{Oper}
use Rattle.inline.specs.Flat.{Inline, Lowered, flat_at, flat_block, in_place_of}
use Rattle.inline.specs.Idle.{none_calm}
use Rattle.inline.specs.Own.{own_among, own_of, returned}
use Rattle.inline.specs.Places.{moves, numbered, place_for, placed, renamed, targets}
use Rattle.inline.specs.declared.moves.Out.{Out}
use Rattle.inline.specs.declared.moves.Out.TheVariants.{Moves}
use Rattle.inline.specs.declared.places.Own.{Own}
use Rattle.inline.specs.declared.places.Place.{Place}
use Rattle.inline.proofs.BoundTests.{AllIn, Kept, More, kept_operands}
use Rattle.inline.proofs.DropShapes.{append_better}
use Rattle.inline.proofs.Entry.{Gives, own_facts, params_count, returns_shut, returns_tail}
use Rattle.inline.proofs.FlatMoves.{AllNamed, AllReady, Pairs, Works, fits_then, goes_then, moves_work, names_of}
use Rattle.inline.proofs.FlatShapes.{Has, has_left, has_right, tested_given}
use Rattle.inline.proofs.FlatStatements.{Made, body_made, inside}
use Rattle.inline.proofs.Frames.{by_place}
use Rattle.inline.proofs.OwnTypes.{HasItsType, all_typed}
use Rattle.inline.proofs.Ranks.{rank, rank_falls}
use Rattle.inline.proofs.Takes.{call_takes}
use Rattle.inline.proofs.TypePlaces.{types_kept}
use Rattle.inline.proofs.TypeTests.{Named, Reads, and_left, and_right, names_given, none_some, not_true, reads_given}
use Rattle.inline.proofs.TypeTests.{same_all, some_given, taken_get}

-- ---- the names that are bound at the start
none_bound : (n i : ℕ) → bound_in (replicate n false) i ≡ true → ⊥
none_bound zero i h = not_true h
none_bound (suc n) zero h = not_true h
none_bound (suc n) (suc i) h = none_bound n i h

first_bound : (m n i : ℕ) → bound_in (replicate m true ++ replicate n false) i ≡ true → i < m
first_bound zero n i h = absurd (none_bound n i h)
first_bound (suc m) n zero h = omega arith
first_bound (suc m) n (suc i) h = let rest : i < m = first_bound m n i h in omega (arith, rest)

pub taken_most : (n : ℕ) (xs : Bindings) → length (take n xs) ≤ n
taken_most zero xs = omega arith
taken_most (suc n) [] = omega arith
taken_most (suc n) (x ∷ xs) = let rest : length (take n xs) ≤ n = taken_most n xs in omega (arith, rest)

taken_bound : (n i : ℕ) (xs : Bindings) → bound_in (take n xs) i ≡ true → bound_in xs i ≡ true
taken_bound n i xs h =
    let found = some_given (slice_get (take n xs) i) (λ bound. bound) h in
    ap (λ (o : Option Bool). given_types o (λ bound. bound)) (taken_get xs n i found.0 found.1) ∙ found.2

pub start_bound : (f : Instance) (i : ℕ) → bound_in (take (length f.names) (at_start f)) i ≡ true →
    i < length f.params
start_bound f i h =
    first_bound (length f.params) (length f.names) i (taken_bound (length f.names) i (at_start f) h)

pub assigned_given : (f : Instance) → is_assigned f ≡ true →
    (last : Bindings) × (walk f.body (take (length f.names) (at_start f)) ≡ Some last)
assigned_given f h =
    let found = some_given (walk f.body (take (length f.names) (at_start f))) (λ names. true) h in
    (found.0, found.1)

takes_named : (table : List Ty) (to : List ℕ) (rets : List Ty) → takes_values table to rets ≡ true →
    Named table to rets
takes_named table [] rets h = tt
takes_named table (n ∷ to) rets h =
    let found = some_given (named_types table (n ∷ to)) (λ types. same_types types rets) h in
    subst (Named table (n ∷ to)) (same_all found.0 rets found.2)
    (names_given table (n ∷ to) found.0 found.1)

-- operands of these types
pub typed_reads : (table : List Ty) (xs : List Oper) (types : List Ty) →
    given_types (types_of table xs) (λ ts. same_types ts types) ≡ true → Reads table xs types
typed_reads table xs types h =
    let found = some_given (types_of table xs) (λ ts. same_types ts types) h in
    subst (Reads table xs) (same_all found.0 types found.2) (reads_given table xs found.0 found.1)

own_type : (heads : List Head) (f : Instance) (os : List (Option ℕ)) (name : ℕ) → own_among f os ≡ Some name →
    AllByRecursion (HasItsType heads f.rets f.names) os →
    (t : Ty) × (slice_get f.names name ≡ Some t) × (f.rets ≡ t ∷ [])
own_type heads f [] name e h = none_some name e
own_type heads f (None ∷ os) name e h = none_some name e
own_type heads f (Some n ∷ []) name e h = h.0 name (own_facts f (Some n ∷ []) name e).1.0
own_type heads f (Some n ∷ o ∷ os) name e h = none_some name e

module _ (others : List Head) (backs table : List Ty) where
  abbrev Done : List Core → (Bindings → Type 0) → (Bindings → Type 0) → Type 0
  Done = Works others backs table

  works_then : (xs ys : List Core) (P Q R : Bindings → Type 0) → Done xs P Q → Done ys Q R → Done (xs ++ ys) P R
  works_then xs ys P Q R f g = record {
    all_fit = fits_then others backs table xs ys f.all_fit g.all_fit;
    plain = append_better xs ys simple simple f.plain g.plain;
    goes = λ b long ready.
        let first = f.goes b long ready in
        let more : More b first.0 = first.1.0.1 in
        let second = g.goes first.0 (more.size ∙ long) first.1.1 in
        (second.0, (goes_then xs ys b first.0 second.0 first.1.0 second.1.0, second.1.1));
  }

  pairs_numbered : (k : ℕ) (types : List Ty) (xs : List Oper) → Reads table xs types → Has table k types →
      Pairs others backs table (numbered k types) xs
  pairs_numbered k [] xs h has = tt
  pairs_numbered k (t ∷ types) [] h has = absurd h
  pairs_numbered k (t ∷ types) (x ∷ xs) h has =
      ((h.0, here), pairs_numbered (k + 1) types xs h.1 later)
    where
      here : slice_get table k ≡ Some t
      here = let same : k + 0 ≡ k = omega arith in ap (slice_get table) (sym same) ∙ has 0 t refl

      later : Has table (k + 1) types
      later n u e =
          let same : k + suc n ≡ (k + 1) + n = omega arith in
          ap (slice_get table) (sym same) ∙ has (suc n) u e

  bound_numbered : (k : ℕ) (types : List Ty) (d : Bindings) → AllIn d (names_of others backs table (numbered k types)) →
      (n : ℕ) → n < length types → bound_in d (k + n) ≡ true
  bound_numbered k [] d h n lt = absurd (omega (arith, lt))
  bound_numbered k (t ∷ types) d h zero lt =
      let same : k + 0 ≡ k = omega arith in
      ap (bound_in d) same
      ∙ and_left (bound_in d k) (list_all (bound_in d) (names_of others backs table (numbered (k + 1) types))) h
  bound_numbered k (t ∷ types) d h (suc n) lt =
      let same : k + suc n ≡ (k + 1) + n = omega arith in
      ap (bound_in d) same
      ∙ bound_numbered (k + 1) types d
      (and_right (bound_in d k) (list_all (bound_in d) (names_of others backs table (numbered (k + 1) types))) h) n
      (omega (arith, lt))

  pairs_targets : (rets : List Ty) (to : List ℕ) (xs : List Oper) → Reads table xs rets → Named table to rets →
      Pairs others backs table (targets rets to) xs
  pairs_targets [] to xs h named = tt
  pairs_targets (t ∷ rets) [] xs h named = tt
  pairs_targets (t ∷ rets) (n ∷ to) [] h named = absurd h
  pairs_targets (t ∷ rets) (n ∷ to) (x ∷ xs) h named =
      ((h.0, named.0), pairs_targets rets to xs h.1 named.1)

  names_are : (rets : List Ty) (to : List ℕ) → length to ≤ length rets →
      names_of others backs table (targets rets to) ≡ to
  names_are [] [] h = refl
  names_are [] (n ∷ to) h = absurd (omega (arith, h))
  names_are (t ∷ rets) [] h = refl
  names_are (t ∷ rets) (n ∷ to) h = ap (λ (ns : List ℕ). n ∷ ns) (names_are rets to (omega (arith, h)))

  -- instances whose calls have a form, and one that is called, whose names stand from k on
  module _ (heads : List Head) (flat : Inline) (Ok : ℕ → Type 0)
      (calls_work : (i : ℕ) → Ok i → (to : List ℕ) (args : List Oper) (k : ℕ) →
      call_fits table (slice_get heads i) to args ≡ true → Has table k (flat i to args k).fresh →
      Works others backs table (flat i to args k).body (λ b. AllReady others backs table args b)
      (λ d. AllNamed others backs table to d))
      (f : Instance) (well : IsWellTyped heads f) (assigned : is_assigned f ≡ true)
      (called : AllByRecursion Ok (calls_of f.body)) (k : ℕ) (named : Has table k f.names) where
    abbrev size : ℕ
    size = length f.names

    abbrev types : List Ty
    types = take (length f.params) f.names

    -- the names of the parameters
    abbrev Entered : Bindings → Type 0
    Entered b = AllNamed others backs table (names_of others backs table (numbered k types)) b

    abbrev form_at : Place → List ℕ → Lowered
    form_at p to = flat_block none_calm flat (Moves (targets f.rets to)) p f.body (k + size)

    module _ (p : Place) (to : List ℕ)
        (stands : (n : ℕ) (t : Ty) → slice_get f.names n ≡ Some t → slice_get table (placed p n) ≡ Some t)
        (params : (n : ℕ) → n < length f.params → placed p n ≡ k + n) (takes : Named table to f.rets)
        (few : length to ≤ length f.rets) where
      abbrev out : Out
      out = Moves (targets f.rets to)

      abbrev within : (n : ℕ) → n < length f.names → placed p n < length table
      within = inside heads others backs table f.rets f.names p out flat stands Ok to calls_work

      abbrev MadeBy : Shape → (Bindings → Option Bindings) → List Core → Type 0
      MadeBy = Made heads others backs table f.rets f.names p out flat stands Ok to calls_work

      abbrev returning : Shape
      returning = record { plain = false; tail = true; shut = true }

      back_made : (values : List Oper) → Works others backs table (moves (targets f.rets to) (map (renamed p) values))
          (λ b. AllReady others backs table (map (renamed p) values) b)
          (λ d. AllNamed others backs table (names_of others backs table (targets f.rets to)) d) →
          MadeBy returning (walk_step (c.Return values)) (moves (targets f.rets to) (map (renamed p) values))
      back_made values works = record {
        fitting = works.all_fit;
        shaped = works.plain;
        leads = λ tail a last b walked long holds.
            let found = tested_given (list_all (operand_bound a) values) (Some (replicate (length a) true)) last walked
            in
            let went = works.goes b long
            (kept_operands p (length f.names) (length table) within a b values holds found.0) in (
              went.0,
              (
                went.1.0,
                (not_true, (λ e. subst (AllIn went.0) (names_are f.rets to few) went.1.1)),
              ),
            );
      }

      returns_made : (values : List Oper) → fits_step heads f.rets f.names (c.Return values) ≡ true →
          MadeBy returning (walk_step (c.Return values)) (moves (targets f.rets to) (map (renamed p) values))
      returns_made values fit =
          let found = some_given (types_of f.names values) (λ ts. same_types ts f.rets) fit in
          let there : types_of table (map (renamed p) values) ≡ Some found.0 =
          types_kept f.names table p stands values found.0 found.1 in
          let reads : Reads table (map (renamed p) values) f.rets =
          subst (Reads table (map (renamed p) values)) (same_all found.0 f.rets found.2)
          (reads_given table (map (renamed p) values) found.0 there) in
          back_made values (moves_work others backs table (targets f.rets to) (map (renamed p) values)
          (pairs_targets f.rets to (map (renamed p) values) reads takes))

      begins : (b : Bindings) → Entered b → Kept p size (length table) within (take size (at_start f)) b
      begins b entered = record {
        most = taken_most size (at_start f);
        bound = λ n h.
            let lt : n < length f.params = start_bound f n h in
            let count : length types ≡ length f.params = params_count heads f well in
            ap (bound_in b) (params n lt) ∙ bound_numbered k types b entered n (omega (arith, lt, count));
      }

      ends_bound : (ns : List ℕ) → length ns ≤ length f.rets → (d : Bindings) →
          ((shape_of_body f.body).shut ≡ true → AllIn d ns) → AllIn d ns
      ends_bound [] le d h = refl
      ends_bound (n ∷ ns) le d h = h (returns_shut f.rets (length ns) (shape_of_body f.body) le well.returns)

      body_by : (ys : List Core) → MadeBy (shape_of_body f.body) (walk f.body) ys →
          Works others backs table ys Entered (λ d. AllNamed others backs table to d)
      body_by ys made = record {
        all_fit = made.fitting;
        plain = made.shaped;
        goes = λ b long entered.
            let walked = assigned_given f assigned in
            let led = made.leads (returns_tail f.rets (shape_of_body f.body) well.returns)
            (take size (at_start f)) walked.0 b walked.1 long (begins b entered) in
            (led.0, (led.1.0, ends_bound to few led.0 led.1.1.1));
      }

      body_works : Has table (k + size) (form_at p to).fresh →
          Works others backs table (form_at p to).body Entered (λ d. AllNamed others backs table to d)
      body_works has =
          body_by (form_at p to).body (body_made heads others backs table f.rets f.names p out flat stands Ok to
          calls_work returns_made f.body (k + size) well.body called has)

    plain_works : (to : List ℕ) → Named table to f.rets → length to ≤ length f.rets →
        Has table (k + size) (form_at (record { first = k; own = None }) to).fresh →
        Works others backs table (form_at (record { first = k; own = None }) to).body Entered
        (λ d. AllNamed others backs table to d)
    plain_works to takes few has =
        body_works (record { first = k; own = None }) to named (λ n lt. refl) takes few has

    -- the own name that is returned stands in the caller's place
    named_works : (name target : ℕ) (to : List ℕ) → own_of f ≡ Some name → Named table (target ∷ to) f.rets →
        suc (length to) ≤ length f.rets →
        Has table (k + size)
        (form_at (record { first = k; own = Some (record { name = name; target = target }) }) (target ∷ to)).fresh →
        Works others backs table
        (form_at (record { first = k; own = Some (record { name = name; target = target }) }) (target ∷ to)).body
        Entered (λ d. AllNamed others backs table (target ∷ to) d)
    named_works name target to is takes few has =
        body_works (record { first = k; own = Some own }) (target ∷ to) stands
        (λ n lt. by_place (λ (m : ℕ). m ≡ k + n) k own n (λ same. absurd (omega (arith, facts.0, lt, same)))
        (λ more. refl)) takes few has
      where
        own : Own
        own = record { name = name; target = target }

        facts : (length f.params ≤ name) × AllByRecursion (Gives name) (returned f.body)
        facts = own_facts f (returned f.body) name is

        its : (t : Ty) × (slice_get f.names name ≡ Some t) × (f.rets ≡ t ∷ [])
        its = own_type heads f (returned f.body) name is (all_typed heads f.rets f.names f.body well.body)

        there : Named table (target ∷ to) (its.0 ∷ [])
        there = subst (Named table (target ∷ to)) its.2 takes

        stands : (n : ℕ) (t : Ty) → slice_get f.names n ≡ Some t →
            slice_get table (placed (record { first = k; own = Some own }) n) ≡ Some t
        stands n t e =
            by_place (λ (m : ℕ). slice_get table m ≡ Some t) k own n
            (λ same. there.0 ∙ (sym its.1 ∙ (ap (slice_get f.names) (sym same) ∙ e)))
            (λ more. named n t e)

    own_works : (o : Option ℕ) (to : List ℕ) → own_of f ≡ o → Named table to f.rets → length to ≤ length f.rets →
        Has table (k + size) (form_at (place_for o to k) to).fresh →
        Works others backs table (form_at (place_for o to k) to).body Entered
        (λ d. AllNamed others backs table to d)
    own_works None to is takes few has = plain_works to takes few has
    own_works (Some name) [] is takes few has = plain_works [] takes few has
    own_works (Some name) (target ∷ to) is takes few has = named_works name target to is takes few has

    abbrev before : List Oper → List Core
    before args = moves (numbered k types) args

    pub call_works : (to : List ℕ) (args : List Oper) → call_fits table (Some (head_of f)) to args ≡ true →
        Has table (k + size) (form_at (place_for (own_of f) to k) to).fresh →
        Works others backs table (before args ++ (form_at (place_for (own_of f) to k) to).body)
        (λ b. AllReady others backs table args b) (λ d. AllNamed others backs table to d)
    call_works to args fit has =
        works_then (before args) (form_at (place_for (own_of f) to k) to).body
        (λ b. AllReady others backs table args b) Entered (λ d. AllNamed others backs table to d)
        (moves_work others backs table (numbered k types) args (pairs_numbered k types args reads has_params))
        (own_works (own_of f) to refl (takes_named table to f.rets (and_right given (takes_values table to f.rets) fit))
        (call_takes table (Some (head_of f)) to args fit) has)
      where
        given : Bool
        given = given_types (types_of table args) (λ ts. same_types ts (map (λ p. type_of_param p.1) f.params))

        reads : Reads table args types
        reads =
            subst (Reads table args) (sym (same_all types (map (λ p. type_of_param p.1) f.params) well.params))
            (typed_reads table args (map (λ p. type_of_param p.1) f.params)
            (and_left given (takes_values table to f.rets) fit))

        has_params : Has table k types
        has_params n t e = named n t (taken_get f.names (length f.params) n t e)

-- ---- to every depth
module _ (instances : List Instance) (cycle : HasNoCycle instances)
    (typed : (i : ℕ) (f : Instance) → slice_get instances i ≡ Some f → IsWellTyped (map head_of instances) f)
    (assigned : (i : ℕ) (f : Instance) → slice_get instances i ≡ Some f → is_assigned f ≡ true)
    (others : List Head) (backs table : List Ty) where
  abbrev heads_of : List Head
  heads_of = map head_of instances

  abbrev WorksAt : Option Head → (List ℕ → List Oper → ℕ → Lowered) → Type 0
  WorksAt head form =
      (to : List ℕ) (args : List Oper) (k : ℕ) → call_fits table head to args ≡ true →
      Has table k (form to args k).fresh →
      Works others backs table (form to args k).body (λ b. AllReady others backs table args b)
      (λ d. AllNamed others backs table to d)

  abbrev pub Called : ℕ → ℕ → Type 0
  Called depth i = WorksAt (slice_get heads_of i) (flat_at instances none_calm depth i)

  head_at : (i : ℕ) (o : Option Instance) → slice_get instances i ≡ o → slice_get heads_of i ≡ option_map head_of o
  head_at i o is = slice_get-map head_of instances i ∙ ap (option_map head_of) is

  -- what an instance calls, where those of smaller ranks have their forms
  pub callees : (depth i : ℕ) → rank instances cycle i ≤ depth →
      ((j : ℕ) → rank instances cycle j < depth → Called depth j) → (j : ℕ) → cycle.height j < cycle.height i →
      Called depth j
  callees depth i most enough j lower = by_instance (slice_get instances j) refl
    where
      by_instance : (o : Option Instance) → slice_get instances j ≡ o → Called depth j
      by_instance None is to args k fit has =
          not_true (ap (λ (o : Option Head). call_fits table o to args) (sym (head_at j None is)) ∙ fit)
      by_instance (Some g) is to args k fit has =
          let less : rank instances cycle j < rank instances cycle i =
          rank_falls instances cycle i j lower (slice_get_within instances j g is) in
          enough j (omega (arith, less, most)) to args k fit has

  at_instance : (depth i : ℕ) → rank instances cycle i ≤ depth →
      ((j : ℕ) → rank instances cycle j < depth → Called depth j) → (o : Option Instance) → slice_get instances i ≡ o →
      WorksAt (slice_get heads_of i) (in_place_of none_calm (flat_at instances none_calm depth) o)
  at_instance depth i most enough None is to args k fit has =
      not_true (ap (λ (o : Option Head). call_fits table o to args) (sym (head_at i None is)) ∙ fit)
  at_instance depth i most enough (Some f) is to args k fit has =
      let form : Lowered = flat_block none_calm (flat_at instances none_calm depth) (Moves (targets f.rets to))
      (place_for (own_of f) to k) f.body (k + length f.names) in
      call_works others backs table heads_of (flat_at instances none_calm depth)
      (λ j. cycle.height j < cycle.height i) (callees depth i most enough) f (typed i f is) (assigned i f is)
      (recursion_from_All (λ (j : ℕ). cycle.height j < cycle.height i) (calls_of f.body) (cycle.below i f is)) k
      (has_left table k f.names form.fresh has) to args
      (ap (λ (o : Option Head). call_fits table o to args) (sym (head_at i (Some f) is)) ∙ fit)
      (has_right table k f.names form.fresh has)

  pub enough : (depth i : ℕ) → rank instances cycle i < depth → Called depth i
  enough zero i low = absurd (omega (arith, low))
  enough (suc depth) i low =
      at_instance depth i (omega (arith, low)) (enough depth) (slice_get instances i) refl

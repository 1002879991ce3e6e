-- The flat form of a sound program, with none of its calls left out, is sound.
use Rattle.std.proofs.Common.{◌≡◌, ◌∙◌, ap, sym, subst, refl, arith, ℕ, zero, suc, ◌+◌, ◌<◌, ◌≤◌, Bool, true, false}
use Rattle.std.proofs.Common.{List, [], ◌∷◌, ◌++◌, map, take, length, replicate, slice_get, Option, Some, None}
use Rattle.std.proofs.lemmas.List.{length-append, length-replicate}
use Rattle.std.proofs.lemmas.List.Elements.{All-from_recursion, recursion_from_All}
use Rattle.std.proofs.lemmas.Option.{get_or_from_slice_get, slice_get_within}
use Rattle.std.specs.List.{All, AllByRecursion, flat_map, list_all, range_with_len}
use Rattle.eager_rules.specs.Sound.{Bindings, HasNoCycle, Head, IsSound, IsWellTyped, Shape, at_start}
use Rattle.eager_rules.specs.Sound.{bound_in, fits_step, given_types, head_of, is_assigned, operand_bound}
use Rattle.eager_rules.specs.Sound.{returns_values, shape_of_body, shape_step, tested, walk, walk_step}
use Rattle.eager_rules.specs.Statements.{calls_of}
use Rattle.eager_rules.specs.Types.{Ty, same_types, type_of_param, types_of}
use Rattle.eager_rules.specs.declared.program.Core.{Core}
use Rattle.eager_rules.specs.declared.program.Core.TheOpen as c
use Rattle.eager_rules.specs.declared.program.Core.TheVariants as v
use Rattle.eager_rules.specs.declared.program.Core.TheFolds.{fold-roll-Core}
use Rattle.eager_rules.specs.declared.program.Instance.{Instance}
use Rattle.eager_rules.specs.declared.program.Oper.{Oper}
use Rattle.eager_rules.specs.declared.program.Program.{Program}
use Rattle.inline.specs.Flat.{Lowered, flat_at, flat_body, flat_program, kernel_at, kernel_of}
use Rattle.inline.specs.Idle.{none_calm}
use Rattle.inline.specs.Places.{home, placed, renamed}
use Rattle.inline.specs.declared.moves.Out.TheVariants.{Returns}
use Rattle.inline.proofs.BoundTests.{Kept, More, all_bound, bound_within, kept_operands}
use Rattle.inline.proofs.DropShapes.{Better, is_better, shape}
use Rattle.inline.proofs.Entry.{params_within, returns_tail}
use Rattle.inline.proofs.FlatCalls.{Called, assigned_given, callees, enough, start_bound, taken_most}
use Rattle.inline.proofs.FlatMoves.{layer_fits, layer_goes, shape_in}
use Rattle.inline.proofs.FlatShapes.{get_left, get_right, tested_given}
use Rattle.inline.proofs.FlatStatements.{Made, body_made, inside}
use Rattle.inline.proofs.Frames.{and_both}
use Rattle.inline.proofs.FreshRanks.{AllLow, block_low, calls_low, low_both, low_left, low_right}
use Rattle.inline.proofs.NoCalls.{flat_has_no_calls}
use Rattle.inline.proofs.Ranks.{rank, rank_low}
use Rattle.inline.proofs.TypePlaces.{types_kept}
use Rattle.inline.proofs.TypeTests.{and_left, and_right, not_true, some_given}

-- ---- lists
take_first : (n : ℕ) (xs ys : List Ty) → n ≤ length xs → take n (xs ++ ys) ≡ take n xs
take_first zero xs ys le = refl
take_first (suc n) [] ys le = absurd (omega (arith, le))
take_first (suc n) (x ∷ xs) ys le = ap (λ (ts : List Ty). x ∷ ts) (take_first n xs ys (omega (arith, le)))

taken_all : (n : ℕ) (xs : Bindings) → n ≤ length xs → length (take n xs) ≡ n
taken_all zero xs le = refl
taken_all (suc n) [] le = absurd (omega (arith, le))
taken_all (suc n) (x ∷ xs) le = ap (λ (k : ℕ). suc k) (taken_all n xs (omega (arith, le)))

starts_bound : (s m n i : ℕ) → i < m → i < s → bound_in (take s (replicate m true ++ replicate n false)) i ≡ true
starts_bound zero m n i lt less = absurd (omega (arith, less))
starts_bound (suc s) zero n i lt less = absurd (omega (arith, lt))
starts_bound (suc s) (suc m) n zero lt less = refl
starts_bound (suc s) (suc m) n (suc i) lt less = starts_bound s m n i (omega (arith, lt)) (omega (arith, less))

returns_kept : (rets : List Ty) (s t : Shape) → Better s t → returns_values rets s ≡ true →
    returns_values rets t ≡ true
returns_kept [] s t better h = better.tail_too h
returns_kept (r ∷ rets) s t better h =
    and_both t.tail t.shut (better.tail_too (and_left s.tail s.shut h)) (better.shut_too (and_right s.tail s.shut h))

-- ---- a kernel
module _ (instances : List Instance) (cycle : HasNoCycle instances)
    (typed : (i : ℕ) (f : Instance) → slice_get instances i ≡ Some f → IsWellTyped (map head_of instances) f)
    (assigned : (i : ℕ) (f : Instance) → slice_get instances i ≡ Some f → is_assigned f ≡ true)
    (others : List Head) (i : ℕ) (f : Instance) (is : slice_get instances i ≡ Some f) where
  abbrev depth : ℕ
  depth = length instances

  abbrev heads : List Head
  heads = map head_of instances

  abbrev form : Lowered
  form = flat_body instances none_calm f

  abbrev table : List Ty
  table = f.names ++ form.fresh

  abbrev kernel : Instance
  kernel = kernel_of f form

  abbrev size : ℕ
  size = length f.names

  well : IsWellTyped heads f
  well = typed i f is

  stands : (n : ℕ) (t : Ty) → slice_get f.names n ≡ Some t → slice_get table (placed home n) ≡ Some t
  stands n t e =
      let same : 0 + n ≡ n = omega arith in
      ap (slice_get table) same ∙ get_left f.names form.fresh n t e

  abbrev Ok : ℕ → Type 0
  Ok j = cycle.height j < cycle.height i

  calls_work : (j : ℕ) → Ok j → Called instances cycle typed assigned others f.rets table depth j
  calls_work =
      let low : rank instances cycle i < depth =
      rank_low instances cycle i (slice_get_within instances i f is) in
      callees instances cycle typed assigned others f.rets table depth i (omega (arith, low))
      (enough instances cycle typed assigned others f.rets table depth)

  abbrev within : (n : ℕ) → n < length f.names → placed home n < length table
  within = inside heads others f.rets table f.rets f.names home Returns (flat_at instances none_calm depth) stands Ok []
      calls_work

  abbrev MadeBy : Shape → (Bindings → Option Bindings) → List Core → Type 0
  MadeBy = Made heads others f.rets table f.rets f.names home Returns (flat_at instances none_calm depth) stands Ok []
      calls_work

  abbrev returning : Shape
  returning = record { plain = false; tail = true; shut = true }

  -- a Return stays one
  returns_made : (values : List Oper) → fits_step heads f.rets f.names (c.Return values) ≡ true →
      MadeBy returning (walk_step (c.Return values)) (v.Return (map (renamed home) values) ∷ [])
  returns_made values fit =
      let there : List Oper = map (renamed home) values in
      let found = some_given (types_of f.names values) (λ ts. same_types ts f.rets) fit in
      record {
        fitting = layer_fits others f.rets table (c.Return there) (v.Return there) (v.rolls-Return there)
            (ap (λ (o : Option (List Ty)). given_types o (λ ts. same_types ts f.rets))
            (types_kept f.names table home stands values found.0 found.1) ∙ found.2);
        shaped = is_better returning (shape_in (v.Return there ∷ []))
            (sym (ap shape (sym (v.rolls-Return there)) ∙ fold-roll-Core Shape shape_step (c.Return there)));
        leads = λ tail a last b walked long holds.
            let given = tested_given (list_all (operand_bound a) values) (Some (replicate (length a) true)) last walked
            in (
              replicate (length b) true,
              (
                layer_goes (c.Return there) (v.Return there) (v.rolls-Return there) b (replicate (length b) true)
                    (ap (λ (t : Bool). tested t (Some (replicate (length b) true)))
                    (kept_operands home size (length table) within a b values holds given.0)) (all_more b),
                (not_true, (λ e. refl)),
              ),
            );
      }
    where
      all_more : (b : Bindings) → More b (replicate (length b) true)
      all_more b = record {
        size = length-replicate (length b) true;
        bound = λ m h. all_bound (length b) m (bound_within b m h);
      }

  made : MadeBy (shape_of_body f.body) (walk f.body) form.body
  made =
      body_made heads others f.rets table f.rets f.names home Returns (flat_at instances none_calm depth) stands Ok []
      calls_work returns_made f.body size well.body
      (recursion_from_All Ok (calls_of f.body) (cycle.below i f is))
      (λ n t e. get_right f.names form.fresh (size + n) n refl ∙ e)

  names_low : (j : ℕ) (g : Instance) → slice_get instances j ≡ Some g → AllLow g.names
  names_low j g there = low_left g.names g.rets (typed j g there).ranks

  pub kernel_typed : IsWellTyped others kernel
  kernel_typed = record {
    body = made.fitting;
    params = ap (λ (ts : List Ty). same_types ts (map (λ p. type_of_param p.1) f.params))
        (take_first (length f.params) f.names form.fresh (params_within heads f well)) ∙ well.params;
    ranks = low_both (f.names ++ form.fresh) f.rets
        (low_both f.names form.fresh (names_low i f is)
        (block_low none_calm (flat_at instances none_calm depth) (calls_low instances none_calm names_low depth)
        Returns home f.body size))
        (low_right f.names f.rets well.ranks);
    returns = returns_kept f.rets (shape_of_body f.body) (shape_in form.body) made.shaped well.returns;
  }

  abbrev begun : Bindings
  begun = take (length table) (at_start kernel)

  begun_long : length begun ≡ length table
  begun_long =
      let parts : length (replicate (length f.params) true ++ replicate (length table) false) ≡
      length (replicate (length f.params) true) + length (replicate (length table) false) =
      length-append (replicate (length f.params) true) (replicate (length table) false) in
      let rest : length (replicate (length table) false) ≡ length table = length-replicate (length table) false in
      taken_all (length table) (at_start kernel) (omega (arith, parts, rest))

  begins : Kept home size (length table) within (take size (at_start f)) begun
  begins = record {
    most = taken_most size (at_start f);
    bound = λ n h.
        let lt : n < length f.params = start_bound f n h in
        let few : length f.params ≤ length f.names = params_within heads f well in
        let count : length (f.names ++ form.fresh) ≡ length f.names + length form.fresh =
        length-append f.names form.fresh in
        let same : 0 + n ≡ n = omega arith in
        ap (bound_in begun) same
        ∙ starts_bound (length table) (length f.params) (length table) n lt (omega (arith, lt, few, count));
  }

  pub kernel_assigned : is_assigned kernel ≡ true
  kernel_assigned =
      let walked = assigned_given f (assigned i f is) in
      let led = made.leads (returns_tail f.rets (shape_of_body f.body) well.returns) (take size (at_start f)) walked.0
      begun walked.1 begun_long begins in
      ap (λ (o : Option Bindings). given_types o (λ names. true)) led.1.0.0

-- ---- a program
module _ (program : Program) (sound : IsSound program) where
  abbrev instances_of : List Instance
  instances_of = program.instances

  well_typed : (i : ℕ) (f : Instance) → slice_get instances_of i ≡ Some f → IsWellTyped (map head_of instances_of) f
  well_typed i f there =
      subst (IsWellTyped (map head_of instances_of)) (get_or_from_slice_get instances_of i f f there)
      (sound.typed.instances i f (slice_get_within instances_of i f there))

  well_assigned : (i : ℕ) (f : Instance) → slice_get instances_of i ≡ Some f → is_assigned f ≡ true
  well_assigned i f there =
      subst (λ (g : Instance). is_assigned g ≡ true) (get_or_from_slice_get instances_of i f f there)
      (sound.assigned i f (slice_get_within instances_of i f there))

  abbrev flat : Program
  flat = flat_program program none_calm

  abbrev others_of : List Head
  others_of = map head_of flat.instances

  abbrev IsFine : Instance → Type 0
  IsFine g = IsWellTyped others_of g × (is_assigned g ≡ true)

  one_fine : (number : ℕ) (o : Option Instance) → slice_get instances_of number ≡ o → (rest : List Instance) →
      AllByRecursion IsFine rest → AllByRecursion IsFine (kernel_at instances_of none_calm o ++ rest)
  one_fine number None is rest h = h
  one_fine number (Some f) is rest h = (
    (
      kernel_typed instances_of sound.typed.no_cycle well_typed well_assigned others_of number f is,
      kernel_assigned instances_of sound.typed.no_cycle well_typed well_assigned others_of number f is,
    ),
    h,
  )

  all_fine : (numbers : List ℕ) → AllByRecursion IsFine
      (flat_map (λ (number : ℕ). kernel_at instances_of none_calm (slice_get instances_of number)) numbers)
  all_fine [] = tt
  all_fine (number ∷ numbers) =
      one_fine number (slice_get instances_of number) refl
      (flat_map (λ (number : ℕ). kernel_at instances_of none_calm (slice_get instances_of number)) numbers)
      (all_fine numbers)

  fine : All IsFine flat.instances
  fine = All-from_recursion IsFine flat.instances (all_fine program.kernels)

  range_fine : (a n size : ℕ) → a + n ≤ size → AllByRecursion (λ (k : ℕ). k < size) (range_with_len a n)
  range_fine a zero size le = tt
  range_fine a (suc n) size le = (omega (arith, le), range_fine (a + 1) n size (omega (arith, le)))

  pub flat_sound : IsSound flat
  flat_sound = record {
    typed = record {
      instances = λ j d less. (fine j d less).0;
      kernels = All-from_recursion (λ (k : ℕ). k < length flat.instances) (range_with_len 0 (length flat.instances))
          (range_fine 0 (length flat.instances) (length flat.instances) (omega arith));
      no_cycle = record {
        height = λ n. 0;
        below = λ number g there.
            let none : calls_of g.body ≡ [] =
            subst (λ (h : Instance). calls_of h.body ≡ []) (get_or_from_slice_get flat.instances number g g there)
            (flat_has_no_calls program none_calm number g (slice_get_within flat.instances number g there)) in
            subst (λ (calls : List ℕ). All (λ (callee : ℕ). 0 < 0) calls) (sym none)
            (All-from_recursion (λ (callee : ℕ). 0 < 0) [] tt);
      };
    };
    assigned = λ j d less. (fine j d less).1;
  }

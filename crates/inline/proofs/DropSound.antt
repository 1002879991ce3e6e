-- A sound program without its idle calls is sound.
use Rattle.std.proofs.Common.{◌≡◌, ◌∙◌, ap, ap₂, sym, subst, refl, ◌<◌, ℕ, Bool, true, false, ◌&&◌, List, [], ◌∷◌}
use Rattle.std.proofs.Common.{◌++◌, map, length, take, slice_get, Option, Some, None, append-nil, get_or}
use Rattle.std.proofs.lemmas.Grind.{flat_map-append}
use Rattle.std.proofs.lemmas.List.{length-map}
use Rattle.std.proofs.lemmas.List.Elements.{All-from_recursion, All-map, recursion_from_All}
use Rattle.std.proofs.lemmas.Option.{slice_get-map}
use Rattle.std.specs.Prelude.{option_map, slice_set}
use Rattle.std.specs.List.{All, AllByRecursion, flat_map, list_all}
use Rattle.krn_base.specs.declared.operation.Join.{Join}
use Rattle.krn_base.specs.declared.place.Loc.{Loc}
use Rattle.eager_rules.specs.Sound.{Bindings, CallsBelow, HasNoCycle, Head, IsSound, IsWellTyped, all_fit}
use Rattle.eager_rules.specs.Sound.{all_numbers, at_start, both, fits, fits_step, given_types, has_type, head_of}
use Rattle.eager_rules.specs.Sound.{in_walk, is_assigned, names_fit, next, operand_bound, reduction_fits, stay}
use Rattle.eager_rules.specs.Sound.{tested, walk, walk_step}
use Rattle.eager_rules.specs.Statements.{calls_of, calls_step}
use Rattle.eager_rules.specs.Types.{Ty, is_truth, type_of}
use Rattle.krn_base.specs.declared.kind.Kind.TheVariants.{Int64}
use Rattle.eager_rules.specs.declared.program.Core.{Core}
use Rattle.eager_rules.specs.declared.program.Core.TheOpen as c
use Rattle.eager_rules.specs.declared.program.Core.TheFolds.{fold-Core, map-Core, fold-roll-Core}
use Rattle.eager_rules.specs.declared.program.Core.TheViews.{roll-Core}
use Rattle.eager_rules.specs.declared.program.Instance.{Instance}
use Rattle.eager_rules.specs.declared.program.Oper.{Oper}
use Rattle.eager_rules.specs.declared.program.Program.{Program}
use Rattle.inline.specs.Dropped.{dropped, dropped_in, without}
use Rattle.inline.proofs.DropShapes.{still_returns}
use Rattle.inline.proofs.DropTrees.{Stands, all_bodies, drop}
use Rattle.inline.proofs.TypeTests.{and_left, and_right, none_some, not_true, some_same}

both_true : (a b : Bool) → a ≡ true → b ≡ true → a && b ≡ true
both_true true b h k = k
both_true false b h k = h

-- ---- types
module _ (heads : List Head) (rets names : List Ty) (calm : ℕ → Bool) where
  abbrev fit : Core → Bool
  fit = fits heads rets names

  abbrev Fitting : Core → List Core → Type 0
  Fitting x xs = fit x ≡ true → all_fit heads rets names xs ≡ true

  append_fits : (xs ys : List Core) → all_fit heads rets names xs ≡ true → all_fit heads rets names ys ≡ true →
      all_fit heads rets names (xs ++ ys) ≡ true
  append_fits [] ys f g = g
  append_fits (x ∷ xs) ys f g =
      both_true (fit x) (all_fit heads rets names (xs ++ ys)) (and_left (fit x) (all_fit heads rets names xs) f)
      (append_fits xs ys (and_right (fit x) (all_fit heads rets names xs) f) g)

  block_fits : (xs : List Core) → AllByRecursion (Stands calm Fitting) xs → all_fit heads rets names xs ≡ true →
      all_fit heads rets names (without calm xs) ≡ true
  block_fits [] h e = refl
  block_fits (x ∷ xs) h e =
      append_fits (drop calm x) (without calm xs) (h.0 (and_left (fit x) (all_fit heads rets names xs) e))
      (block_fits xs h.1 (and_right (fit x) (all_fit heads rets names xs) e))

  one_fits : (x : Core) → Fitting x (x ∷ [])
  one_fits x e = both_true (fit x) true e refl

  -- a statement by its own layer
  by_fit : (x y : c.Core-F Core) → (fits_step heads rets names (map-Core Core Bool fit x) ≡ true →
      fits_step heads rets names (map-Core Core Bool fit y) ≡ true) → Fitting (roll-Core x) (roll-Core y ∷ [])
  by_fit x y f e =
      one_fits (roll-Core y) (fold-roll-Core Bool (fits_step heads rets names) y ∙
      f (sym (fold-roll-Core Bool (fits_step heads rets names) x) ∙ e))

  if_fits : (cond : Oper) (part other : List Core) → AllByRecursion (Stands calm Fitting) part →
      AllByRecursion (Stands calm Fitting) other →
      Fitting (roll-Core (c.If cond part other)) (roll-Core (c.If cond (without calm part) (without calm other)) ∷ [])
  if_fits cond part other f g =
      by_fit (c.If cond part other) (c.If cond (without calm part) (without calm other)) inside
    where
      inside :
          is_truth (type_of names cond) && (all_fit heads rets names part && all_fit heads rets names other) ≡ true →
          is_truth (type_of names cond) && (all_fit heads rets names (without calm part) &&
          all_fit heads rets names (without calm other)) ≡ true
      inside e =
          let both : all_fit heads rets names part && all_fit heads rets names other ≡ true =
          and_right (is_truth (type_of names cond)) (all_fit heads rets names part && all_fit heads rets names other) e
          in
          both_true (is_truth (type_of names cond)) _
          (and_left (is_truth (type_of names cond))
          (all_fit heads rets names part && all_fit heads rets names other) e)
          (both_true (all_fit heads rets names (without calm part)) (all_fit heads rets names (without calm other))
          (block_fits part f (and_left (all_fit heads rets names part) (all_fit heads rets names other) both))
          (block_fits other g (and_right (all_fit heads rets names part) (all_fit heads rets names other) both)))

  for_fits : (var : ℕ) (lo hi by : Oper) (at : Loc) (omp : Option (List (Join × ℕ))) (body : List Core) →
      AllByRecursion (Stands calm Fitting) body → Fitting (roll-Core (c.For var lo hi by at omp body))
      (roll-Core (c.For var lo hi by at omp (without calm body)) ∷ [])
  for_fits var lo hi by at omp body f =
      by_fit (c.For var lo hi by at omp body) (c.For var lo hi by at omp (without calm body))
      (inside ((all_numbers names (lo ∷ hi ∷ by ∷ []) && has_type names var (Some (Int64, 0))) &&
      reduction_fits names omp))
    where
      inside : (first : Bool) → first && all_fit heads rets names body ≡ true →
          first && all_fit heads rets names (without calm body) ≡ true
      inside first e =
          both_true first (all_fit heads rets names (without calm body))
          (and_left first (all_fit heads rets names body) e)
          (block_fits body f (and_right first (all_fit heads rets names body) e))

  pub body_fits : (body : List Core) → all_fit heads rets names body ≡ true →
      all_fit heads rets names (without calm body) ≡ true
  body_fits body =
      block_fits body (all_bodies calm Fitting (λ y is. one_fits (roll-Core y))
      (λ to k xs e. one_fits (roll-Core (c.Call to k xs))) (λ k xs e d. refl) if_fits for_fits body)

-- ---- calls
module _ (R : ℕ → Type 0) (calm : ℕ → Bool) where
  abbrev AllR : List ℕ → Type 0
  AllR = AllByRecursion R

  abbrev calls_in : Core → List ℕ
  calls_in = fold-Core (List ℕ) calls_step

  abbrev Below : Core → List Core → Type 0
  Below x xs = AllR (calls_in x) → AllR (calls_of xs)

  all_append : (xs ys : List ℕ) → AllR xs → AllR ys → AllR (xs ++ ys)
  all_append [] ys f g = g
  all_append (x ∷ xs) ys f g = (f.0, all_append xs ys f.1 g)

  all_first : (xs ys : List ℕ) → AllR (xs ++ ys) → AllR xs
  all_first [] ys f = tt
  all_first (x ∷ xs) ys f = (f.0, all_first xs ys f.1)

  all_second : (xs ys : List ℕ) → AllR (xs ++ ys) → AllR ys
  all_second [] ys f = f
  all_second (x ∷ xs) ys f = all_second xs ys f.1

  one_below : (x : Core) → Below x (x ∷ [])
  one_below x f = subst AllR (sym (append-nil (calls_in x))) f

  block_below : (xs : List Core) → AllByRecursion (Stands calm Below) xs → AllR (calls_of xs) →
      AllR (calls_of (without calm xs))
  block_below [] h f = tt
  block_below (x ∷ xs) h f =
      subst AllR (sym (flat_map-append calls_in (drop calm x) (without calm xs)))
      (all_append (calls_of (drop calm x)) (calls_of (without calm xs))
      (h.0 (all_first (calls_in x) (calls_of xs) f))
      (block_below xs h.1 (all_second (calls_in x) (calls_of xs) f)))

  gathered : (xs : List Core) → flat_map (λ (calls : List ℕ). calls) (map calls_in xs) ≡ calls_of xs
  gathered [] = refl
  gathered (x ∷ xs) = ap (λ (rest : List ℕ). calls_in x ++ rest) (gathered xs)

  if_calls : (cond : Oper) (part other : List Core) →
      calls_in (roll-Core (c.If cond part other)) ≡ calls_of part ++ calls_of other
  if_calls cond part other =
      fold-roll-Core (List ℕ) calls_step (c.If cond part other) ∙
      (flat_map-append (λ (calls : List ℕ). calls) (map calls_in part) (map calls_in other) ∙
      ap₂ (λ (a b : List ℕ). a ++ b) (gathered part) (gathered other))

  for_calls : (var : ℕ) (lo hi by : Oper) (at : Loc) (omp : Option (List (Join × ℕ))) (body : List Core) →
      calls_in (roll-Core (c.For var lo hi by at omp body)) ≡ calls_of body
  for_calls var lo hi by at omp body =
      fold-roll-Core (List ℕ) calls_step (c.For var lo hi by at omp body) ∙ gathered body

  if_below : (cond : Oper) (part other : List Core) → AllByRecursion (Stands calm Below) part →
      AllByRecursion (Stands calm Below) other →
      Below (roll-Core (c.If cond part other)) (roll-Core (c.If cond (without calm part) (without calm other)) ∷ [])
  if_below cond part other f g h =
      let all : AllR (calls_of part ++ calls_of other) = subst AllR (if_calls cond part other) h in
      one_below (roll-Core (c.If cond (without calm part) (without calm other)))
      (subst AllR (sym (if_calls cond (without calm part) (without calm other)))
      (all_append (calls_of (without calm part)) (calls_of (without calm other))
      (block_below part f (all_first (calls_of part) (calls_of other) all))
      (block_below other g (all_second (calls_of part) (calls_of other) all))))

  for_below : (var : ℕ) (lo hi by : Oper) (at : Loc) (omp : Option (List (Join × ℕ))) (body : List Core) →
      AllByRecursion (Stands calm Below) body → Below (roll-Core (c.For var lo hi by at omp body))
      (roll-Core (c.For var lo hi by at omp (without calm body)) ∷ [])
  for_below var lo hi by at omp body f h =
      one_below (roll-Core (c.For var lo hi by at omp (without calm body)))
      (subst AllR (sym (for_calls var lo hi by at omp (without calm body)))
      (block_below body f (subst AllR (for_calls var lo hi by at omp body) h)))

  pub body_below : (body : List Core) → AllR (calls_of body) → AllR (calls_of (without calm body))
  body_below body =
      block_below body (all_bodies calm Below (λ y is. one_below (roll-Core y))
      (λ to k xs e. one_below (roll-Core (c.Call to k xs))) (λ k xs e f. tt) if_below for_below body)

-- ---- names that are bound
abbrev pub walk_of : Core → Bindings → Option Bindings
walk_of = fold-Core (Bindings → Option Bindings) walk_step

abbrev pub walks : List Core → Bindings → Option Bindings
walks xs = in_walk (map walk_of xs)

abbrev Walks : Core → List Core → Type 0
Walks x xs = (names last : Bindings) → walk_of x names ≡ Some last → walks xs names ≡ Some last

pub next_given : (o : Option Bindings) (f : Bindings → Option Bindings) (last : Bindings) → next o f ≡ Some last →
    (mid : Bindings) × (o ≡ Some mid) × (f mid ≡ Some last)
next_given None f last e = none_some last e
next_given (Some mid) f last e = (mid, refl, e)

pub both_given : (a b : Option Bindings) (last : Bindings) → both a b ≡ Some last →
    (x : Bindings) × (y : Bindings) × (a ≡ Some x) × (b ≡ Some y)
both_given None b last e = none_some last e
both_given (Some x) None last e = none_some last e
both_given (Some x) (Some y) last e = (x, y, refl, refl)

tested_same : (test : Bool) (a b : Option Bindings) (last : Bindings) → (a ≡ Some last → b ≡ Some last) →
    tested test a ≡ Some last → tested test b ≡ Some last
tested_same true a b last f e = f e
tested_same false a b last f e = none_some last e

pub append_walks : (xs ys : List Core) (names mid last : Bindings) → walks xs names ≡ Some mid →
    walks ys mid ≡ Some last → walks (xs ++ ys) names ≡ Some last
append_walks [] ys names mid last e f = ap (walks ys) (some_same names mid e) ∙ f
append_walks (x ∷ xs) ys names mid last e f =
    let one = next_given (walk_of x names) (walks xs) mid e in
    ap (λ (o : Option Bindings). next o (walks (xs ++ ys))) one.1 ∙ append_walks xs ys one.0 mid last one.2 f

one_walks : (x : Core) → Walks x (x ∷ [])
one_walks x names last e = ap (λ (o : Option Bindings). next o (in_walk [])) e

-- a statement by its own layer
by_walk : (x y : c.Core-F Core) → ((names last : Bindings) →
    walk_step (map-Core Core (Bindings → Option Bindings) walk_of x) names ≡ Some last →
    walk_step (map-Core Core (Bindings → Option Bindings) walk_of y) names ≡ Some last) →
    Walks (roll-Core x) (roll-Core y ∷ [])
by_walk x y f names last e =
    one_walks (roll-Core y) names last
    (ap (λ (w : Bindings → Option Bindings). w names)
    (fold-roll-Core (Bindings → Option Bindings) walk_step y) ∙
    f names last (sym (ap (λ (w : Bindings → Option Bindings). w names)
    (fold-roll-Core (Bindings → Option Bindings) walk_step x)) ∙ e))

module _ (calm : ℕ → Bool) where
  block_walks : (xs : List Core) → AllByRecursion (Stands calm Walks) xs → (names last : Bindings) →
      walks xs names ≡ Some last → walks (without calm xs) names ≡ Some last
  block_walks [] h names last e = e
  block_walks (x ∷ xs) h names last e =
      let one = next_given (walk_of x names) (walks xs) last e in
      append_walks (drop calm x) (without calm xs) names one.0 last (h.0 names one.0 one.1)
      (block_walks xs h.1 one.0 last one.2)

  idle_walks : (k : ℕ) (xs : List Oper) → calm k ≡ true → Walks (roll-Core (c.Call [] k xs)) []
  idle_walks k xs is names last e =
      by_test (list_all (operand_bound names) xs && names_fit names [])
      (sym (ap (λ (w : Bindings → Option Bindings). w names)
      (fold-roll-Core (Bindings → Option Bindings) walk_step (c.Call [] k xs))) ∙ e)
    where
      by_test : (test : Bool) → tested test (Some names) ≡ Some last → Some names ≡ Some last
      by_test true h = h
      by_test false h = none_some last h

  if_walks : (cond : Oper) (part other : List Core) → AllByRecursion (Stands calm Walks) part →
      AllByRecursion (Stands calm Walks) other →
      Walks (roll-Core (c.If cond part other)) (roll-Core (c.If cond (without calm part) (without calm other)) ∷ [])
  if_walks cond part other f g =
      by_walk (c.If cond part other) (c.If cond (without calm part) (without calm other))
      (λ names last e. tested_same (operand_bound names cond) (both (walks part names) (walks other names))
      (both (walks (without calm part) names) (walks (without calm other) names)) last (inside names last) e)
    where
      inside : (names last : Bindings) → both (walks part names) (walks other names) ≡ Some last →
          both (walks (without calm part) names) (walks (without calm other) names) ≡ Some last
      inside names last e =
          let given = both_given (walks part names) (walks other names) last e in
          ap₂ both (block_walks part f names given.0 given.2 ∙ sym given.2)
          (block_walks other g names given.1 given.3 ∙ sym given.3) ∙ e

  for_walks : (var : ℕ) (lo hi by : Oper) (at : Loc) (omp : Option (List (Join × ℕ))) (body : List Core) →
      AllByRecursion (Stands calm Walks) body → Walks (roll-Core (c.For var lo hi by at omp body))
      (roll-Core (c.For var lo hi by at omp (without calm body)) ∷ [])
  for_walks var lo hi by at omp body f =
      by_walk (c.For var lo hi by at omp body) (c.For var lo hi by at omp (without calm body))
      (λ names last e. tested_same (list_all (operand_bound names) (lo ∷ hi ∷ by ∷ []) && names_fit names (var ∷ []))
      (stay names (walks body (slice_set names var true)))
      (stay names (walks (without calm body) (slice_set names var true)))
      last (inside names last (walks body (slice_set names var true)) refl) e)
    where
      inside : (names last : Bindings) (o : Option Bindings) → walks body (slice_set names var true) ≡ o →
          stay names (walks body (slice_set names var true)) ≡ Some last →
          stay names (walks (without calm body) (slice_set names var true)) ≡ Some last
      inside names last None is e = none_some last (sym (ap (stay names) is) ∙ e)
      inside names last (Some mid) is e =
          ap (stay names) (block_walks body f (slice_set names var true) mid is ∙ sym is) ∙ e

  pub body_walks : (body : List Core) (names last : Bindings) → walks body names ≡ Some last →
      walks (without calm body) names ≡ Some last
  body_walks body =
      block_walks body (all_bodies calm Walks (λ y is. one_walks (roll-Core y))
      (λ to k xs e. one_walks (roll-Core (c.Call to k xs))) idle_walks if_walks for_walks body)

  still_assigned : (f : Instance) → is_assigned f ≡ true → is_assigned (dropped_in calm f) ≡ true
  still_assigned f e = by_walked (walk f.body (take (length f.names) (at_start f))) refl e
    where
      by_walked : (o : Option Bindings) → walk f.body (take (length f.names) (at_start f)) ≡ o →
          given_types o (λ names. true) ≡ true → is_assigned (dropped_in calm f) ≡ true
      by_walked None is h = not_true h
      by_walked (Some last) is h =
          ap (λ (o : Option Bindings). given_types o (λ names. true))
          (body_walks f.body (take (length f.names) (at_start f)) last is)

  -- ---- programs
  heads_same : (fs : List Instance) → map head_of (map (dropped_in calm) fs) ≡ map head_of fs
  heads_same [] = refl
  heads_same (f ∷ fs) = ap (λ (hs : List Head). head_of f ∷ hs) (heads_same fs)

  well_typed : (fs : List Instance) (f : Instance) → IsWellTyped (map head_of fs) f →
      IsWellTyped (map head_of (map (dropped_in calm) fs)) (dropped_in calm f)
  well_typed fs f well =
      subst (λ (hs : List Head). IsWellTyped hs (dropped_in calm f)) (sym (heads_same fs)) (record {
        body = body_fits (map head_of fs) f.rets f.names calm f.body well.body;
        params = well.params;
        ranks = well.ranks;
        returns = still_returns calm f.rets f.body well.returns;
      })

  no_cycle : (fs : List Instance) → HasNoCycle fs → HasNoCycle (map (dropped_in calm) fs)
  no_cycle fs h = record {
    height = h.height;
    below = λ number f there.
        by_instance number f (slice_get fs number) refl
        (sym (slice_get-map (dropped_in calm) fs number) ∙ there);
  }
    where
      by_instance : (number : ℕ) (f : Instance) (o : Option Instance) → slice_get fs number ≡ o →
          option_map (dropped_in calm) o ≡ Some f → CallsBelow h.height number f
      by_instance number f None is e = none_some f e
      by_instance number f (Some g) is e =
          subst (CallsBelow h.height number) (some_same (dropped_in calm g) f e)
          (All-from_recursion (λ callee. h.height callee < h.height number) (calls_of (without calm g.body))
          (body_below (λ callee. h.height callee < h.height number) calm g.body
          (recursion_from_All (λ callee. h.height callee < h.height number) (calls_of g.body) (h.below number g is))))

  pub still_sound : (program : Program) → IsSound program → IsSound (dropped program calm)
  still_sound program sound = record {
    typed = record {
      instances = All-map (IsWellTyped (map head_of (map (dropped_in calm) program.instances))) (dropped_in calm)
          program.instances (λ i d less. well_typed program.instances (get_or program.instances i d)
          (sound.typed.instances i d less));
      kernels = subst (λ (n : ℕ). All (λ number. number < n) program.kernels)
          (sym (length-map program.instances (dropped_in calm))) sound.typed.kernels;
      no_cycle = no_cycle program.instances sound.typed.no_cycle;
    };
    assigned = All-map (λ f. is_assigned f ≡ true) (dropped_in calm) program.instances
        (λ i d less. still_assigned (get_or program.instances i d) (sound.assigned i d less));
  }

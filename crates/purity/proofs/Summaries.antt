-- What is summed up of an instance's uses is what its calls may do.
use Rattle.std.proofs.Common.{arith, ◌≡◌, ◌∙◌, ap, sym, subst, refl, inl, inr, ℕ, ◌<◌, Bool, true, List, [], ◌∷◌}
use Rattle.std.proofs.Common.{length, Option, Some, slice_get}
use Rattle.std.specs.List.{Contains, flat_map, list_any}
use Rattle.eager_rules.specs.Statements.{statements}
use Rattle.eager_rules.specs.declared.program.Core.{out-Core}
use Rattle.eager_rules.specs.declared.program.Core.TheOpen as c
use Rattle.eager_rules.specs.declared.program.Instance.{Instance}
use Rattle.purity.specs.Effects.{Among, Comes, Faults, Here, Handed, Itself, Passed, Returned, StandsIn, Stored}
use Rattle.purity.specs.Effects.{Within}
use Rattle.purity.specs.Effects.{Writes}
use Rattle.purity.specs.Knowledge.{AreFlows, LeadsTo, Summarizes}
use Rattle.purity.specs.Marks.{IsWay, has, leads, marked, row}
use Rattle.purity.specs.Tables.{Gives, IsSummary, known_at}
use Rattle.purity.specs.Uses.{callee_of, flow_into, flow_to, give_as, given_as, is_fault, written}
use Rattle.purity.specs.declared.summary.Summary.{Summary}
use Rattle.purity.specs.declared.uses.Use.{Use}
use Rattle.purity.specs.declared.uses.Use.TheVariants as u
use Rattle.purity.proofs.Amongs.{among_contains, among_flat, among_has, contains_among, has_among, here_only, in_flat}
use Rattle.purity.proofs.Amongs.{only_among, only_here}
use Rattle.purity.proofs.UseLaws.{fault_found, fault_used, found_fault, handed_used, passes_used, returned_used}
use Rattle.purity.proofs.UseLaws.{stores_used, use_means, uses, values_used, within_used}

-- What flows into a name, and what is written and returned.
flow_found : (k from : ℕ) (x : Use) → Among (flow_into k x) from → x ≡ flow_to k from
flow_found k from (u.Flow a name) h =
    let (e, d) = only_here name k a from h in
    ap (λ (n : ℕ). flow_to n a) e ∙ ap (λ (b : ℕ). flow_to k b) d
flow_found k from _ h = absurd h

given_found : (k name : ℕ) (x : Use) → Among (given_as k x) name → x ≡ give_as k name
given_found k name (u.Give value n) h =
    let (e, d) = only_here value k n name h in
    ap (λ (v : ℕ). give_as v n) e ∙ ap (λ (m : ℕ). give_as k m) d
given_found k name _ h = absurd h

write_found : (name : ℕ) (x : Use) → Among (written x) name → x ≡ u.Write name
write_found name (u.Write n) h = ap u.Write (only_among n name h)
write_found name _ h = absurd h

module _ (xs : List Use) where
  pub flow_among : (k from : ℕ) → Among (flat_map (flow_into k) xs) from → Among xs (flow_to k from)
  flow_among k from h =
      let (x, m, at) = among_flat (flow_into k) xs from h in
      subst (Among xs) (flow_found k from x at) m

  pub among_flow : (k from : ℕ) → Among xs (flow_to k from) → Among (flat_map (flow_into k) xs) from
  among_flow k from m = in_flat (flow_into k) xs (flow_to k from) from m (here_only k from)

  pub given_among : (k name : ℕ) → Among (flat_map (given_as k) xs) name → Among xs (give_as k name)
  given_among k name h =
      let (x, m, at) = among_flat (given_as k) xs name h in
      subst (Among xs) (given_found k name x at) m

  pub among_given : (k name : ℕ) → Among xs (give_as k name) → Among (flat_map (given_as k) xs) name
  among_given k name m = in_flat (given_as k) xs (give_as k name) name m (here_only k name)

  pub write_among : (name : ℕ) → Among (flat_map written xs) name → Among xs (u.Write name)
  write_among name h =
      let (x, m, at) = among_flat written xs name h in
      subst (Among xs) (write_found name x at) m

  pub among_write : (name : ℕ) → Among xs (u.Write name) → Among (flat_map written xs) name
  among_write name m = in_flat written xs (u.Write name) name m (inl refl)

some_same : {A : Type 0} (a b : A) → Some a ≡ Some b → a ≡ b
some_same a b e = cc

-- what comes from a parameter comes from one that is there
comes_param : (instances : List Instance) (f : Instance) (number name param : ℕ) →
    slice_get instances number ≡ Some f → Comes instances number name param → param < length f.params
comes_param instances f number name param e (Itself _ _ g there less) =
    subst (λ (h : Instance). param < length h.params) (some_same g f (sym there ∙ e)) less
comes_param instances f number name param e (Passed _ _ from _ y st passes comes) =
    comes_param instances f number from param e comes
comes_param instances f number name param e (Returned _ _ from _ to k args values j r inner st at arg sk va ck comes) =
    comes_param instances f number from param e comes

module _ (instances : List Instance) (known : List (Option Summary)) (number : ℕ) (f : Instance)
    (here : slice_get instances number ≡ Some f)
    (callees : (k : ℕ) → Among (flat_map callee_of (statements f.body)) k →
    IsSummary instances k (known_at known k)) where
  abbrev mine : List Use
  mine = uses instances known number f here callees

  module _ (rows : List (List ℕ)) (flows : AreFlows mine rows) where
    step_among : (to from : ℕ) → leads rows to from ≡ true → Among mine (flow_to to from)
    step_among to from h =
        flow_among mine to from
        (subst (λ (xs : List ℕ). Among xs from) (flows to) (has_among from (row rows to) h))

    among_step : (to from : ℕ) → Among mine (flow_to to from) → leads rows to from ≡ true
    among_step to from m =
        among_has from (row rows to)
        (subst (λ (xs : List ℕ). Among xs from) (sym (flows to)) (among_flow mine to from m))

    -- along a way, what comes from a parameter comes from it at the end
    way_sound : (ends : List ℕ) (p : ℕ) (behind : List ℕ) (name : ℕ) → Comes instances number name p →
        IsWay rows ends name behind → (e : ℕ) × Contains ends e × Comes instances number e p
    way_sound ends p [] name comes way = (name, way, comes)
    way_sound ends p (next ∷ behind) name comes way =
        way_sound ends p behind next
        (use_means instances known number f here callees (flow_to next name) (step_among next name way.0) p comes)
        way.1

    -- a name that leads to an end leads there from the parameters that it comes from
    way_whole : (ends : List ℕ) (name param : ℕ) → Comes instances number name param → LeadsTo rows ends name →
        LeadsTo rows ends param
    way_whole ends name param comes way = by_steps number name param comes refl way
      where
        by_steps : (i n p : ℕ) → Comes instances i n p → i ≡ number → LeadsTo rows ends n → LeadsTo rows ends p
        by_steps i n p (Itself _ _ g there less) e way = way
        by_steps i n p (Passed _ _ from _ y st passes comes) e way =
            by_steps i from p comes e (
              n ∷ way.0,
              (
                among_step n from (passes_used instances known number f here callees y from n
                    (subst (λ (m : ℕ). StandsIn instances m y) e st) passes),
                way.1,
              ),
            )
        by_steps i n p (Returned _ _ from _ to k args values j r inner st at arg sk va ck comes) e way =
            by_steps i from p comes e (
              n ∷ way.0,
              (
                among_step n from (returned_used instances known number f here callees to k args j r n from
                    (subst (λ (m : ℕ). StandsIn instances m (c.Call to k args)) e st) at arg
                    (record { values = values; stands = sk; name = inner; at = va; comes = ck })),
                way.1,
              ),
            )

  -- an end by itself
  ends_way : (rows : List (List ℕ)) (ends : List ℕ) (e : ℕ) → Among ends e → LeadsTo rows ends e
  ends_way rows ends e m = ([], among_contains ends e m)

  param_comes : (p : ℕ) → p < length f.params → Comes instances number p p
  param_comes p less = Itself number p f here less

  pub summary_so : (s : Summary) → Summarizes mine (length f.params) s → IsSummary instances number (Some s)
  summary_so s sums = record {
    written = written_so;
    writes = writes_so;
    given = given_so;
    gives = gives_so;
    faulty = λ e. use_means instances known number f here callees u.Fault (fault_found mine (sym sums.faults ∙ e));
    faults = λ h. sums.faults ∙ found_fault mine (fault_so number h refl);
  }
    where
      stores : List ℕ
      stores = flat_map written mine

      written_so : (p : ℕ) → marked s.writes p ≡ true → Writes instances number p
      written_so p e =
          let (less, (behind, way)) = sums.writes.sound p e in
          let (end, m, comes) = way_sound sums.rows sums.flows stores p behind p (param_comes p less) way in
          use_means instances known number f here callees (u.Write end)
          (write_among mine end (contains_among stores end m)) p comes

      marked_by : (name p : ℕ) → Among mine (u.Write name) → Comes instances number name p → marked s.writes p ≡ true
      marked_by name p m comes =
          sums.writes.whole p (comes_param instances f number name p here comes)
          (way_whole sums.rows sums.flows stores name p comes
          (ends_way sums.rows stores name (among_write mine name m)))

      by_write : (i p : ℕ) → Writes instances i p → i ≡ number → marked s.writes p ≡ true
      by_write i p (Stored _ _ name y st stores comes) e =
          marked_by name p
          (stores_used instances known number f here callees y name
          (subst (λ (m : ℕ). StandsIn instances m y) e st) stores)
          (subst (λ (m : ℕ). Comes instances m name p) e comes)
      by_write i p (Handed _ _ name to k args r st arg writes comes) e =
          marked_by name p
          (handed_used instances known number f here callees to k args r name
          (subst (λ (m : ℕ). StandsIn instances m (c.Call to k args)) e st) arg writes)
          (subst (λ (m : ℕ). Comes instances m name p) e comes)

      writes_so : (p : ℕ) → Writes instances number p → marked s.writes p ≡ true
      writes_so p w = by_write number p w refl

      names : ℕ → List ℕ
      names j = flat_map (given_as j) mine

      given_so : (j p : ℕ) → Among (row s.gives j) p → Gives instances number j p
      given_so j p m =
          let (less, (behind, way)) = (sums.gives j).sound p m in
          let (end, at, comes) = way_sound sums.rows sums.flows (names j) p behind p (param_comes p less) way in
          let (values, st, is) = use_means instances known number f here callees (give_as j end)
          (given_among mine j end (contains_among (names j) end at)) in
          record { values = values; stands = st; name = end; at = is; comes = comes }

      gives_so : (j p : ℕ) → Gives instances number j p → Among (row s.gives j) p
      gives_so j p g =
          (sums.gives j).whole p (comes_param instances f number g.name p here g.comes)
          (way_whole sums.rows sums.flows (names j) g.name p g.comes
          (ends_way sums.rows (names j) g.name
          (among_given mine j g.name
          (values_used instances known number f here callees g.values j g.name g.stands g.at))))

      fault_so : (i : ℕ) → Faults instances i → i ≡ number → Among mine u.Fault
      fault_so i (Here _ g core there m test) e =
          fault_used instances known number f here callees g core
          (subst (λ (n : ℕ). slice_get instances n ≡ Some g) e there) m test
      fault_so i (Within _ to k args st faults) e =
          within_used instances known number f here callees to k args
          (subst (λ (n : ℕ). StandsIn instances n (c.Call to k args)) e st) faults

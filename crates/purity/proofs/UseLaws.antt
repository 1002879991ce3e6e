-- The uses of an instance are its effects, where what is known of the instances that it calls is so.
use Rattle.std.proofs.Common.{arith, ◌≡◌, ◌∙◌, ap, sym, subst, refl, inl, inr, ◌⊎◌, ℕ, ◌<◌, Bool, true, false, List}
use Rattle.std.proofs.Common.{[]}
use Rattle.std.proofs.Common.{◌∷◌, ◌++◌, map, length, Option, Some, None, slice_get}
use Rattle.std.proofs.lemmas.Option.{slice_get_within}
use Rattle.std.specs.List.{flat_map, list_any, range_with_len}
use Rattle.eager_rules.specs.Statements.{statements}
use Rattle.eager_rules.specs.declared.program.Core.{Core, out-Core}
use Rattle.eager_rules.specs.declared.program.Core.TheOpen as c
use Rattle.eager_rules.specs.declared.program.Instance.{Instance}
use Rattle.eager_rules.specs.declared.program.Oper.{Oper}
use Rattle.eager_rules.specs.declared.program.Oper.TheVariants.{Name}
use Rattle.purity.specs.Effects.{Among, Comes, Faults, Here, Handed, Passed, Passes, Returned, StandsIn, Stored}
use Rattle.purity.specs.Effects.{Stores}
use Rattle.purity.specs.Effects.{Within, Writes}
use Rattle.purity.specs.Faulting.{may_fault_here}
use Rattle.purity.specs.Marks.{marked, row}
use Rattle.purity.specs.Tables.{Gives, IsSummary, faults_in, gives_in, known_at, writes_in}
use Rattle.purity.specs.Uses.{all_uses, call_uses, callee_of, called_by, fault_when, flow_to, flows_at, flows_by}
use Rattle.purity.specs.Uses.{flows_of, give_as}
use Rattle.purity.specs.Uses.{gives_of, is_fault, name_at, own_uses, uses_of, writes_of, writes_when}
use Rattle.purity.specs.declared.summary.Summary.{Summary}
use Rattle.purity.specs.declared.uses.Use.{Use}
use Rattle.purity.specs.declared.uses.Use.TheVariants as u
use Rattle.purity.proofs.Amongs.{among_cases, among_flat, among_left, among_map, among_right, in_flat, in_map}
use Rattle.purity.proofs.Amongs.{in_range}
use Rattle.purity.proofs.Amongs.{is_name, name_is, only_among}
use Rattle.purity.proofs.MarkLaws.{not_true, or_cases, or_left, or_right}

some_same : {A : Type 0} (a b : A) → Some a ≡ Some b → a ≡ b
some_same a b e = cc

-- a fault among uses
pub fault_found : (xs : List Use) → list_any is_fault xs ≡ true → Among xs u.Fault
fault_found [] h = absurd (not_true false h refl)
fault_found (u.Fault ∷ xs) h = inl refl
fault_found (u.Flow from name ∷ xs) h = inr (fault_found xs h)
fault_found (u.Write n ∷ xs) h = inr (fault_found xs h)
fault_found (u.Give value name ∷ xs) h = inr (fault_found xs h)

pub found_fault : (xs : List Use) → Among xs u.Fault → list_any is_fault xs ≡ true
found_fault [] h = absurd h
found_fault (x ∷ xs) (inl e) = subst (λ (y : Use). list_any is_fault (y ∷ xs) ≡ true) (sym e) refl
found_fault (x ∷ xs) (inr h) = or_right (is_fault x) (list_any is_fault xs) (found_fault xs h)

fault_only : (test : Bool) (x : Use) → Among (fault_when test) x → (test ≡ true) × (u.Fault ≡ x)
fault_only true x (inl e) = (refl, e)
fault_only true x (inr h) = absurd h
fault_only false x h = absurd h

only_fault : (test : Bool) → test ≡ true → Among (fault_when test) u.Fault
only_fault true e = inl refl
only_fault false e = absurd (not_true false e refl)

writes_only : (test : Bool) (names : List ℕ) (x : Use) → Among (writes_when test names) x →
    (test ≡ true) × (n : ℕ) × Among names n × (u.Write n ≡ x)
writes_only true names x h = let (n, m, e) = among_map u.Write names x h in (refl, n, m, e)
writes_only false names x h = absurd h

only_writes : (test : Bool) (names : List ℕ) (n : ℕ) → test ≡ true → Among names n →
    Among (writes_when test names) (u.Write n)
only_writes true names n e m = in_map u.Write names n m
only_writes false names n e m = absurd (not_true false e refl)

flows_found : (args : List Oper) (params : List ℕ) (o : Option ℕ) (x : Use) → Among (flows_by args params o) x →
    (name : ℕ) × (r : ℕ) × (from : ℕ) × (o ≡ Some name) × Among params r × (slice_get args r ≡ Some (Name from)) ×
    (flow_to name from ≡ x)
flows_found args params None x h = absurd h
flows_found args params (Some name) x h =
    let (r, m, at) = among_flat (flows_at args name) params x h in
    let (from, found, e) = among_map (flow_to name) (name_at args r) x at in
    (name, r, from, refl, m, name_is args r from found, e)

found_flows : (args : List Oper) (params : List ℕ) (o : Option ℕ) (name r from : ℕ) → o ≡ Some name →
    Among params r → slice_get args r ≡ Some (Name from) → Among (flows_by args params o) (flow_to name from)
found_flows args params None name r from e m at = absurd (let h = e in cc)
found_flows args params (Some other) name r from e m at =
    subst (λ (n : ℕ). Among (flat_map (flows_at args n) params) (flow_to name from)) (sym (some_same other name e))
    (in_flat (flows_at args name) params r (flow_to name from) m
    (in_map (flow_to name) (name_at args r) from (is_name args r from at)))

module _ (instances : List Instance) (known : List (Option Summary)) (number : ℕ) (f : Instance)
    (here : slice_get instances number ≡ Some f)
    (callees : (k : ℕ) → Among (flat_map callee_of (statements f.body)) k →
    IsSummary instances k (known_at known k)) where
  abbrev pub uses : List Use
  uses = all_uses known f.names (statements f.body)

  -- what a use says of the instance
  abbrev pub Means : Use → Type 0
  Means (u.Flow from name) = (p : ℕ) → Comes instances number from p → Comes instances number name p
  Means (u.Write n) = (p : ℕ) → Comes instances number n p → Writes instances number p
  Means (u.Give value name) =
      (values : List Oper) × StandsIn instances number (c.Return values) × (slice_get values value ≡ Some (Name name))
  Means u.Fault = Faults instances number

  standing : (x : Core) (y : c.Core-F Core) → Among (statements f.body) x → out-Core x ≡ y → StandsIn instances number y
  standing x y m e = record { instance = f; numbered = here; core = x; stands = m; is = e }

  call_means : (o : Option Summary) (to : List ℕ) (k : ℕ) (args : List Oper) → IsSummary instances k o →
      StandsIn instances number (c.Call to k args) → (x : Use) → Among (call_uses to args o) x → Means x
  call_means None to k args so st x h = absurd h
  call_means (Some s) to k args so st x h = elim (among_cases returned (written ++ fault_when s.faults) x h) [
    | inl a ↦ flow a
    | inr b ↦ elim (among_cases written (fault_when s.faults) x b) [ inl w ↦ write w | inr e ↦ fault e ]
  ]
    where
      returned : List Use
      returned = flat_map (flows_of s.gives to args) (range_with_len 0 (length to))

      written : List Use
      written = flat_map (writes_of s.writes args) (range_with_len 0 (length args))

      flow : Among returned x → Means x
      flow a =
          let (j, m, at) = among_flat (flows_of s.gives to args) (range_with_len 0 (length to)) x a in
          let (name, r, from, is, source, arg, e) = flows_found args (row s.gives j) (slice_get to j) x at in
          let gives : Gives instances k j r = so.given j r source in
          subst Means e (λ p comes. Returned number name from p to k args gives.values j r gives.name st is arg
          gives.stands gives.at gives.comes comes)

      write : Among written x → Means x
      write a =
          let (r, m, at) = among_flat (writes_of s.writes args) (range_with_len 0 (length args)) x a in
          let (test, n, found, e) = writes_only (marked s.writes r) (name_at args r) x at in
          subst Means e (λ p comes. Handed number p n to k args r st (name_is args r n found) (so.written r test) comes)

      fault : Among (fault_when s.faults) x → Means x
      fault a =
          let (test, e) = fault_only s.faults x a in
          subst Means e (Within number to k args st (so.faulty test))

  values_mean : (values : List Oper) → StandsIn instances number (c.Return values) → (x : Use) →
      Among (flat_map (gives_of values) (range_with_len 0 (length values))) x → Means x
  values_mean values st x h =
      let (j, m, at) = among_flat (gives_of values) (range_with_len 0 (length values)) x h in
      let (n, found, e) = among_map (give_as j) (name_at values j) x at in
      subst Means e (values, st, name_is values j n found)

  one_flow : (to of : ℕ) (y : c.Core-F Core) → StandsIn instances number y → Passes y of to → (x : Use) →
      Among (flow_to to of ∷ []) x → Means x
  one_flow to of y st passes x h =
      subst Means (only_among (flow_to to of) x h) (λ p comes. Passed number to of p y st passes comes)

  one_write : (of : ℕ) (y : c.Core-F Core) → StandsIn instances number y → Stores y of → (x : Use) →
      Among (u.Write of ∷ []) x → Means x
  one_write of y st stores x h =
      subst Means (only_among (u.Write of) x h) (λ p comes. Stored number p of y st stores comes)

  own_means : (core : Core) (y : c.Core-F Core) → Among (statements f.body) core → out-Core core ≡ y → (x : Use) →
      Among (own_uses known y) x → Means x
  own_means core (c.Alias to of) m e x h = one_flow to of (c.Alias to of) (standing core _ m e) (refl, refl) x h
  own_means core (c.Pick to of subs at) m e x h =
      one_flow to of (c.Pick to of subs at) (standing core _ m e) (refl, refl) x h
  own_means core (c.Flip to of) m e x h = one_flow to of (c.Flip to of) (standing core _ m e) (refl, refl) x h
  own_means core (c.Put of index value at) m e x h =
      one_write of (c.Put of index value at) (standing core _ m e) refl x h
  own_means core (c.Store of value at) m e x h = one_write of (c.Store of value at) (standing core _ m e) refl x h
  own_means core (c.Call to k args) m e x h =
      let called : Among (callee_of core) k =
      subst (λ (z : c.Core-F Core). Among (called_by z) k) (sym e) (inl refl) in
      call_means (known_at known k) to k args
      (callees k (in_flat callee_of (statements f.body) core k m called)) (standing core _ m e) x h
  own_means core (c.Return values) m e x h = values_mean values (standing core _ m e) x h
  own_means core _ m e x h = absurd h

  -- each use says what is so
  pub use_means : (x : Use) → Among uses x → Means x
  use_means x h =
      let (core, m, at) = among_flat (uses_of known f.names) (statements f.body) x h in
      elim (among_cases (fault_when (may_fault_here f.names (out-Core core))) (own_uses known (out-Core core)) x at) [
        | inl a ↦
            let (test, e) = fault_only (may_fault_here f.names (out-Core core)) x a in
            subst Means e (Here number f core here m test)
        | inr b ↦ own_means core (out-Core core) m refl x b
      ]

  -- and what is so has its use
  used : (y : c.Core-F Core) → StandsIn instances number y → (x : Use) → Among (own_uses known y) x → Among uses x
  used y st x h =
      let same : st.instance ≡ f = some_same st.instance f (sym st.numbered ∙ here) in
      let m : Among (statements f.body) st.core =
      subst (λ (g : Instance). Among (statements g.body) st.core) same st.stands in
      in_flat (uses_of known f.names) (statements f.body) st.core x m
      (among_right (fault_when (may_fault_here f.names (out-Core st.core))) (own_uses known (out-Core st.core)) x
      (subst (λ (z : c.Core-F Core). Among (own_uses known z) x) (sym st.is) h))

  pub passes_used : (y : c.Core-F Core) (from name : ℕ) → StandsIn instances number y → Passes y from name →
      Among uses (flow_to name from)
  passes_used y from name st passes = used y st (flow_to name from) (by_case y passes)
    where
      both : (to of : ℕ) → (of ≡ from) × (to ≡ name) → Among (flow_to to of ∷ []) (flow_to name from)
      both to of (e, d) = inl (ap (λ (a : ℕ). flow_to to a) e ∙ ap (λ (n : ℕ). flow_to n from) d)

      by_case : (y : c.Core-F Core) → Passes y from name → Among (own_uses known y) (flow_to name from)
      by_case (c.Alias to of) h = both to of h
      by_case (c.Pick to of subs at) h = both to of h
      by_case (c.Flip to of) h = both to of h
      by_case _ h = absurd h

  pub stores_used : (y : c.Core-F Core) (name : ℕ) → StandsIn instances number y → Stores y name →
      Among uses (u.Write name)
  stores_used y name st stores = used y st (u.Write name) (by_case y stores)
    where
      by_case : (y : c.Core-F Core) → Stores y name → Among (own_uses known y) (u.Write name)
      by_case (c.Put of index value at) h = inl (ap u.Write h)
      by_case (c.Store of value at) h = inl (ap u.Write h)
      by_case _ h = absurd h

  callee_so : (to : List ℕ) (k : ℕ) (args : List Oper) → StandsIn instances number (c.Call to k args) →
      IsSummary instances k (known_at known k)
  callee_so to k args st =
      let same : st.instance ≡ f = some_same st.instance f (sym st.numbered ∙ here) in
      let m : Among (statements f.body) st.core =
      subst (λ (g : Instance). Among (statements g.body) st.core) same st.stands in
      callees k (in_flat callee_of (statements f.body) st.core k m
      (subst (λ (z : c.Core-F Core). Among (called_by z) k) (sym st.is) (inl refl)))

  pub returned_used : (to : List ℕ) (k : ℕ) (args : List Oper) (j r name from : ℕ) →
      StandsIn instances number (c.Call to k args) → slice_get to j ≡ Some name →
      slice_get args r ≡ Some (Name from) → Gives instances k j r → Among uses (flow_to name from)
  returned_used to k args j r name from st at arg gives =
      used (c.Call to k args) st (flow_to name from)
      (by_known (known_at known k) ((callee_so to k args st).gives j r gives))
    where
      by_known : (o : Option Summary) → Among (gives_in o j) r → Among (call_uses to args o) (flow_to name from)
      by_known None m = absurd m
      by_known (Some s) m =
          among_left (flat_map (flows_of s.gives to args) (range_with_len 0 (length to)))
          (flat_map (writes_of s.writes args) (range_with_len 0 (length args)) ++ fault_when s.faults)
          (flow_to name from)
          (in_flat (flows_of s.gives to args) (range_with_len 0 (length to)) j (flow_to name from)
          (in_range (length to) j (slice_get_within to j name at))
          (found_flows args (row s.gives j) (slice_get to j) name r from at m arg))

  pub handed_used : (to : List ℕ) (k : ℕ) (args : List Oper) (r name : ℕ) →
      StandsIn instances number (c.Call to k args) → slice_get args r ≡ Some (Name name) → Writes instances k r →
      Among uses (u.Write name)
  handed_used to k args r name st arg writes =
      used (c.Call to k args) st (u.Write name)
      (by_known (known_at known k) ((callee_so to k args st).writes r writes))
    where
      by_known : (o : Option Summary) → writes_in o r ≡ true → Among (call_uses to args o) (u.Write name)
      by_known None e = absurd (not_true false e refl)
      by_known (Some s) e =
          among_right (flat_map (flows_of s.gives to args) (range_with_len 0 (length to)))
          (flat_map (writes_of s.writes args) (range_with_len 0 (length args)) ++ fault_when s.faults) (u.Write name)
          (among_left (flat_map (writes_of s.writes args) (range_with_len 0 (length args))) (fault_when s.faults)
          (u.Write name)
          (in_flat (writes_of s.writes args) (range_with_len 0 (length args)) r (u.Write name)
          (in_range (length args) r (slice_get_within args r (Name name) arg))
          (only_writes (marked s.writes r) (name_at args r) name e (is_name args r name arg))))

  pub values_used : (values : List Oper) (j name : ℕ) → StandsIn instances number (c.Return values) →
      slice_get values j ≡ Some (Name name) → Among uses (give_as j name)
  values_used values j name st at =
      used (c.Return values) st (give_as j name)
      (in_flat (gives_of values) (range_with_len 0 (length values)) j (give_as j name)
      (in_range (length values) j (slice_get_within values j (Name name) at))
      (in_map (give_as j) (name_at values j) name (is_name values j name at)))

  pub fault_used : (g : Instance) (core : Core) → slice_get instances number ≡ Some g →
      Among (statements g.body) core → may_fault_here g.names (out-Core core) ≡ true → Among uses u.Fault
  fault_used g core there m test =
      let same : g ≡ f = some_same g f (sym there ∙ here) in
      in_flat (uses_of known f.names) (statements f.body) core u.Fault
      (subst (λ (h : Instance). Among (statements h.body) core) same m)
      (among_left (fault_when (may_fault_here f.names (out-Core core))) (own_uses known (out-Core core)) u.Fault
      (only_fault (may_fault_here f.names (out-Core core))
      (subst (λ (h : Instance). may_fault_here h.names (out-Core core) ≡ true) same test)))

  pub within_used : (to : List ℕ) (k : ℕ) (args : List Oper) → StandsIn instances number (c.Call to k args) →
      Faults instances k → Among uses u.Fault
  within_used to k args st faults =
      used (c.Call to k args) st u.Fault (by_known (known_at known k) ((callee_so to k args st).faults faults))
    where
      by_known : (o : Option Summary) → faults_in o ≡ true → Among (call_uses to args o) u.Fault
      by_known None e = absurd (not_true false e refl)
      by_known (Some s) e =
          among_right (flat_map (flows_of s.gives to args) (range_with_len 0 (length to)))
          (flat_map (writes_of s.writes args) (range_with_len 0 (length args)) ++ fault_when s.faults) u.Fault
          (among_right (flat_map (writes_of s.writes args) (range_with_len 0 (length args))) (fault_when s.faults)
          u.Fault (only_fault s.faults e))

-- The first refused call, and the clauses of the rule.
use Rattle.std.proofs.Common.{◌≡◌, ℕ, ◌+◌, ◌<◌, ◌≤◌, ◌==◌, ◌⊎◌, Bool, true, false, List, [], ◌∷◌, ◌++◌, length, zero}
use Rattle.std.proofs.Common.{suc}
use Rattle.std.proofs.Common.{Option, Some, None, Result, Ok, Err, refl, ap, sym, subst, ◌∙◌, inl, inr, arith}
use Rattle.std.proofs.lemmas.Bool.Decides.{nat_tests}
use Rattle.std.proofs.lemmas.List.Elements.{Contains-append_left, Contains-push, Contains-push_cases}
use Rattle.std.specs.List.{Contains}
use Rattle.std.specs.Result.{OnOk, IfErr}
use Rattle.krn_base.specs.declared.place.Loc.{Loc}
use Rattle.krn_base.specs.declared.refusal.Refusal.{Refusal}
use Rattle.krn_base.specs.declared.refusal.Rule.{Rule}
use Rattle.krn_base.specs.declared.refusal.Rule.TheVariants.{Recursion}
use Rattle.krn_base.specs.declared.refusal.Stop.{Stop}
use Rattle.krn_base.specs.declared.refusal.Stop.TheVariants as stop
use Rattle.module_names.specs.Places.{is_before, IsOnlyYes, IsOnlyAt}
use Rattle.call_chains.specs.Chains.{Rows, row, has_callee, calls, IsChain, Reaches, LeadsBack, IsRefused, IsRefusedAt}
use Rattle.call_chains.specs.Chains.{IsAccepted, IsFirst, Refuses, HasShortChains, most_calls}
use Rattle.call_chains.specs.Least.{RefusedAmong, RefusedBelow, IsLeast, IsLeastBelow, SoFar, is_sooner, Answers}
use Rattle.call_chains.specs.Sets.{rank_of, Falls, FallsAlong, FallsBelow, marked, IsLayer, AreReached}
use Rattle.call_chains.specs.declared.graph.OwnCall.{OwnCall}
use Rattle.call_chains.proofs.MarkLaws.{not_true, calls_within, callee_found, found_callee}

-- ---- numbers that don't rise along calls

single : (x g : ℕ) → Contains (x ∷ []) g → x ≡ g
single x g (zero, lt, is) = is
single x g (suc k, lt, is) = absurd (omega arith)

falls_to : (rows : Rows) (ranks : List ℕ) (callee g : ℕ) (before : List ℕ) → Falls rows ranks
    → IsChain rows (callee ∷ []) g before → rank_of ranks g ≤ rank_of ranks callee
falls_to rows ranks callee g [] falls c =
    subst (λ n. rank_of ranks n ≤ rank_of ranks callee) (single callee g c) (omega arith)
falls_to rows ranks callee g (f ∷ before) falls chain =
    let here : rank_of ranks g ≤ rank_of ranks f = falls f g (chain.0) in
    let there : rank_of ranks f ≤ rank_of ranks callee = falls_to rows ranks callee f before falls (chain.1) in
    omega (arith, here, there)

pub not_back : (rows : Rows) (ranks : List ℕ) (callee caller : ℕ) → Falls rows ranks
    → rank_of ranks callee < rank_of ranks caller → LeadsBack rows callee caller → ⊥
not_back rows ranks callee caller falls less (before, chain) =
    let most : rank_of ranks caller ≤ rank_of ranks callee = falls_to rows ranks callee caller before falls chain in
    omega (arith, less, most)

pub falls_one_more : (rows : Rows) (ranks : List ℕ) (end : ℕ) → FallsBelow rows ranks end
    → FallsAlong (row rows end) ranks end → FallsBelow rows ranks (end + 1)
falls_one_more rows ranks end below along f g lt c = by_test (before_or_here f end lt)
  where
    before_or_here : (f end : ℕ) → f < end + 1 → (f < end) ⊎ (f ≡ end)
    before_or_here f end h = grind arith

    by_test : (f < end) ⊎ (f ≡ end) → rank_of ranks g ≤ rank_of ranks f
    by_test (inl less) = below f g less c
    by_test (inr same) =
        subst (λ n. rank_of ranks g ≤ rank_of ranks n) (sym same) (along g (subst (λ n. calls rows n g ≡ true) same c))

pub falls_all : (rows : Rows) (ranks : List ℕ) (end : ℕ) → length rows ≤ end → FallsBelow rows ranks end
    → Falls rows ranks
falls_all rows ranks end most below f g c =
    let there : f < length rows = calls_within rows f g c in below f g (omega (arith, there, most)) c

-- ---- whether a call is refused

module _ (rows : Rows) (exported : List ℕ) (reached last : List Bool) (caller callee : ℕ)
    (are : AreReached rows exported reached) (layer : IsLayer rows exported most_calls last)
    (lt : caller < length rows) where
  pub not_reached : marked reached caller ≡ false → IsRefused rows exported caller callee → ⊥
  not_reached un is =
      not_true (marked reached caller) (are.whole caller (is.reached.0) lt (is.reached.1)) un

  pub is_last : marked last caller ≡ true → IsRefused rows exported caller callee
  is_last so =
      let (before, len, chain) = layer.sound caller so in
      record { reached = (before, chain); cause = inl (before, len, chain) }

  pub is_back : marked reached caller ≡ true → LeadsBack rows callee caller → IsRefused rows exported caller callee
  is_back so back = record { reached = are.sound caller so; cause = inr back }

  pub must_lead_back : marked last caller ≡ false → IsRefused rows exported caller callee
      → LeadsBack rows callee caller
  must_lead_back un is = by_cause is.cause
    where
      by_cause : ((before : List ℕ) × (length before ≡ most_calls) × IsChain rows exported caller before)
          ⊎ LeadsBack rows callee caller → LeadsBack rows callee caller
      by_cause (inl (before, len, chain)) =
          absurd (not_true (marked last caller) (layer.whole caller before lt len chain) un)
      by_cause (inr back) = back

-- ---- the least place so far

not_itself : (a : Loc) → is_before a a ≡ false
not_itself a = grind (arith, nat_tests)

not_before : (x at f : Loc) → is_before at f ≡ true → is_before x f ≡ false → is_before x at ≡ false
not_before x at f h k = grind (arith, nat_tests)

pub same_place : (a b : Loc) → is_before a b ≡ false → is_before b a ≡ false → a ≡ b
same_place a b h k =
    let p : a.line ≡ b.line = grind (arith, nat_tests) in
    let q : a.col ≡ b.col = grind (arith, nat_tests) in
    λ i. record { line = p i; col = q i }

-- the same places
pub least_same : (P Q : Loc → Type 0) (first : Option Loc) → ((x : Loc) → P x → Q x) → ((x : Loc) → Q x → P x)
    → IsLeast P first → IsLeast Q first
least_same P Q None forth back is = λ x q. is x (back x q)
least_same P Q (Some f) forth back is = (forth f (is.0), λ x q. is.1 x (back x q))

-- at most one more place, which isn't sooner
pub least_stays : (P Q : Loc → Type 0) (first : Option Loc) (at : Loc) → ((x : Loc) → P x → Q x)
    → ((x : Loc) → Q x → P x ⊎ (at ≡ x)) → is_sooner first at ≡ false → IsLeast P first → IsLeast Q first
least_stays P Q None at forth back later is = absurd (not_true true refl later)
least_stays P Q (Some f) at forth back later is = (forth f (is.0), λ x q. by_case x (back x q))
  where
    by_case : (x : Loc) → P x ⊎ (at ≡ x) → is_before x f ≡ false
    by_case x (inl p) = is.1 x p
    by_case x (inr e) = subst (λ (y : Loc). is_before y f ≡ false) e later

-- one more place, which is sooner
pub least_here : (P Q : Loc → Type 0) (first : Option Loc) (at : Loc) → ((x : Loc) → Q x → P x ⊎ (at ≡ x)) → Q at
    → is_sooner first at ≡ true → IsLeast P first → IsLeast Q (Some at)
least_here P Q first at back here sooner is = (here, λ x q. by_case x (back x q))
  where
    past : (o : Option Loc) → is_sooner o at ≡ true → IsLeast P o → (x : Loc) → P x → is_before x at ≡ false
    past None sooner is x p = absurd (is x p)
    past (Some f) sooner is x p = not_before x at f sooner (is.1 x p)

    by_case : (x : Loc) → P x ⊎ (at ≡ x) → is_before x at ≡ false
    by_case x (inl p) = past first sooner is x p
    by_case x (inr e) = subst (λ (y : Loc). is_before y at ≡ false) e (not_itself at)

module _ (rows : Rows) (exported : List ℕ) (caller : ℕ) (before : List OwnCall) (call : OwnCall) where
  abbrev Old : Loc → Type 0
  Old = SoFar rows exported caller before

  abbrev New : Loc → Type 0
  New = SoFar rows exported caller (before ++ call ∷ [])

  kept : (x : Loc) → Old x → New x
  kept x (inl below) = inl below
  kept x (inr among) = inr (record {
    call = among.call;
    stands = Contains-append_left before (call ∷ []) among.call among.stands;
    place = among.place;
    refused = among.refused;
  })

  refused_so : (x : Loc) (c : OwnCall) → c.at ≡ x → IsRefused rows exported caller c.callee
      → Contains before c ⊎ (call ≡ c) → Old x ⊎ ((call.at ≡ x) × IsRefused rows exported caller call.callee)
  refused_so x c place refused (inl stands) =
      inl (inr (record { call = c; stands = stands; place = place; refused = refused }))
  refused_so x c place refused (inr same) =
      inr (
        ap (λ (y : OwnCall). y.at) same ∙ place,
        subst (λ (y : OwnCall). IsRefused rows exported caller y.callee) (sym same) refused,
      )

  split : (x : Loc) → New x → Old x ⊎ ((call.at ≡ x) × IsRefused rows exported caller call.callee)
  split x (inl below) = inl (inl below)
  split x (inr among) =
      refused_so x among.call among.place among.refused (Contains-push_cases before call among.call among.stands)

  back : (x : Loc) → New x → Old x ⊎ (call.at ≡ x)
  back x new = elim (split x new) [ inl old ↦ inl old | inr h ↦ inr (h.0) ]

  pub not_sooner : (first : Option Loc) → is_sooner first call.at ≡ false → IsLeast Old first → IsLeast New first
  not_sooner first later is = least_stays Old New first call.at kept back later is

  pub not_refused : (first : Option Loc) → (IsRefused rows exported caller call.callee → ⊥) → IsLeast Old first
      → IsLeast New first
  not_refused first un is =
      least_same Old New first kept (λ x new. elim (split x new) [ inl old ↦ old | inr h ↦ absurd (un (h.1)) ]) is

  pub is_sooner_refused : (first : Option Loc) → IsRefused rows exported caller call.callee
      → is_sooner first call.at ≡ true → IsLeast Old first → IsLeast New (Some call.at)
  is_sooner_refused first so sooner is =
      least_here Old New first call.at back (inr (record {
        call = call;
        stands = Contains-push before call;
        place = refl;
        refused = so;
      })) sooner is

none_among : (c : OwnCall) → Contains [] c → ⊥
none_among c (k, lt, is) = omega arith

module _ (rows : Rows) (exported : List ℕ) where
  pub row_begins : (caller : ℕ) (first : Option Loc) → IsLeastBelow rows exported caller first
      → IsLeast (SoFar rows exported caller []) first
  row_begins caller first is =
      least_same (RefusedBelow rows exported caller) (SoFar rows exported caller []) first (λ x p. inl p) back is
    where
      back : (x : Loc) → SoFar rows exported caller [] x → RefusedBelow rows exported caller x
      back x (inl below) = below
      back x (inr among) = absurd (none_among among.call among.stands)

  pub row_ends : (caller : ℕ) (first : Option Loc) → IsLeast (SoFar rows exported caller (row rows caller)) first
      → IsLeastBelow rows exported (caller + 1) first
  row_ends caller first is =
      least_same (SoFar rows exported caller (row rows caller)) (RefusedBelow rows exported (caller + 1)) first forth
      back is
    where
      forth : (x : Loc) → SoFar rows exported caller (row rows caller) x → RefusedBelow rows exported (caller + 1) x
      forth x (inl (f, lt, among)) = (f, omega (arith, lt), among)
      forth x (inr among) = (caller, omega arith, among)

      before_or_here : (f : ℕ) → f < caller + 1 → (f < caller) ⊎ (f ≡ caller)
      before_or_here f h = grind arith

      by_case : (x : Loc) (f : ℕ) → RefusedAmong rows exported f (row rows f) x → (f < caller) ⊎ (f ≡ caller)
          → SoFar rows exported caller (row rows caller) x
      by_case x f among (inl less) = inl (f, less, among)
      by_case x f among (inr same) = inr (subst (λ n. RefusedAmong rows exported n (row rows n) x) same among)

      back : (x : Loc) → RefusedBelow rows exported (caller + 1) x → SoFar rows exported caller (row rows caller) x
      back x (f, lt, among) = by_case x f among (before_or_here f lt)

  pub none_below : IsLeastBelow rows exported 0 None
  none_below x (f, lt, among) = omega (arith, lt)

  -- ---- the answer

  stands_below : (at : Loc) → IsRefusedAt rows exported at → RefusedBelow rows exported (length rows) at
  stands_below at is =
      let there : is.caller < length rows =
      calls_within rows is.caller is.call.callee (found_callee is.call (row rows is.caller) is.stands) in
      (is.caller, there, record { call = is.call; stands = is.stands; place = is.place; refused = is.refused })

  stands_at : (at : Loc) → RefusedBelow rows exported (length rows) at → IsRefusedAt rows exported at
  stands_at at (f, lt, among) = record {
    caller = f;
    call = among.call;
    stands = among.stands;
    place = among.place;
    refused = among.refused;
  }

  pub accepted : IsLeastBelow rows exported (length rows) None → IsAccepted rows exported
  accepted is at h = is at (stands_below at h)

  pub first_is : (at : Loc) → IsLeastBelow rows exported (length rows) (Some at) → IsFirst rows exported at
  first_is at is = record { refused = stands_at at (is.0); first = λ x h. is.1 x (stands_below x h) }

  one_first : (a b : Loc) → IsFirst rows exported a → IsFirst rows exported b → a ≡ b
  one_first a b f g = same_place a b (g.first a f.refused) (f.first b g.refused)

  pub ok_clause : (result : Result (Unit {0}) Stop) → Answers rows exported result
      → OnOk result (IsAccepted rows exported)
  ok_clause (Ok x) is = is
  ok_clause (Err e) is = tt

  pub refused_clause : (result : Result (Unit {0}) Stop) → Answers rows exported result
      → IfErr result (Refuses rows exported)
  refused_clause (Ok x) is = tt
  refused_clause (Err (stop.Refused r)) is = is
  refused_clause (Err stop.Memory) is = tt

  pub only_clause : (result : Result (Unit {0}) Stop) → Answers rows exported result → IsAccepted rows exported
      → IsOnlyYes result
  only_clause (Ok x) is none = tt
  only_clause (Err (stop.Refused r)) is none = none r.loc (is.1.refused)
  only_clause (Err stop.Memory) is none = tt

  refusal_same : (r : Refusal) (at : Loc) → r.rule ≡ Recursion → r.loc ≡ at → r ≡ record {
    rule = Recursion;
    loc = at;
  }
  refusal_same r at p q = λ i. record { rule = p i; loc = q i }

  pub place_clause : (result : Result (Unit {0}) Stop) → Answers rows exported result → (at : Loc)
      → IsFirst rows exported at → IsOnlyAt Recursion at result
  place_clause (Ok x) is at f = is at f.refused
  place_clause (Err (stop.Refused r)) is at f = refusal_same r at (is.0) (one_first r.loc at (is.1) f)
  place_clause (Err stop.Memory) is at f = tt

  -- ---- what acceptance says of chains

  refuses : IsAccepted rows exported → (f g : ℕ) → calls rows f g ≡ true
      → ((callee : ℕ) → callee ≡ g → IsRefused rows exported f callee) → ⊥
  refuses none f g c is =
      let (call, stands, same) = callee_found g (row rows f) c in
      none call.at (record {
        caller = f;
        call = call;
        stands = stands;
        place = refl;
        refused = is call.callee same;
      })

  long_is_refused : IsAccepted rows exported → (f g : ℕ) (before : List ℕ) → IsChain rows exported f before
      → length before ≡ most_calls → calls rows f g ≡ true → ⊥
  long_is_refused none f g before chain len c =
      refuses none f g c (λ callee same. record { reached = (before, chain); cause = inl (before, len, chain) })

  short : IsAccepted rows exported → (f : ℕ) (before : List ℕ) → IsChain rows exported f before
      → length before ≤ most_calls
  short none f [] chain = omega arith
  short none g (f ∷ before) chain = by_length (at_end (length before) (short none f before (chain.1)))
    where
      at_end : (n : ℕ) → n ≤ 32 → (n ≡ 32) ⊎ (n < 32)
      at_end n h = grind arith

      by_length : (length before ≡ 32) ⊎ (length before < 32) → length (f ∷ before) ≤ most_calls
      by_length (inl e) = absurd (long_is_refused none f g before (chain.1) e (chain.0))
      by_length (inr less) = omega (arith, less)

  pub has_short_chains : IsAccepted rows exported → HasShortChains rows exported
  has_short_chains none = record {
    short = short none;
    apart = λ f g reached c back. refuses none f g c (λ callee same. record {
      reached = reached;
      cause = inr (subst (λ n. LeadsBack rows n f) (sym same) back);
    });
  }

  pub chains_clause : (result : Result (Unit {0}) Stop) → Answers rows exported result
      → OnOk result (HasShortChains rows exported)
  chains_clause (Ok x) is = has_short_chains is
  chains_clause (Err e) is = tt

-- the same of equal calls and exports
pub accepted_so : (rows same : Rows) (exported alike : List ℕ) (first : Option Loc) → same ≡ rows → alike ≡ exported
    → first ≡ None → IsLeastBelow same alike (length same) first → IsAccepted rows exported
accepted_so rows same exported alike first e k none is =
    subst (λ (r : Rows). IsAccepted r exported) e (subst (IsAccepted same) k (accepted same alike
    (subst (IsLeastBelow same alike (length same)) none is)))

pub first_so : (rows same : Rows) (exported alike : List ℕ) (first : Option Loc) (at : Loc) → same ≡ rows
    → alike ≡ exported → first ≡ Some at → IsLeastBelow same alike (length same) first → IsFirst rows exported at
first_so rows same exported alike first at e k some is =
    subst (λ (r : Rows). IsFirst r exported at) e (subst (λ (x : List ℕ). IsFirst same x at) k (first_is same alike at
    (subst (IsLeastBelow same alike (length same)) some is)))

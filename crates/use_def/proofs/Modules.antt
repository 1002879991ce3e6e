-- The marks of the functions that are reached are exactly the places at which the rule refuses a module.
use Rattle.std.proofs.Common.{◌≡◌, ℕ, zero, suc, ◌+◌, ◌<◌, Bool, true, false, ◌⊎◌, inl, inr}
use Rattle.std.proofs.Common.{List, [], ◌∷◌, ◌++◌, Option, Some, Result, Ok, Err, refl, ap, sym, ◌∙◌, subst}
use Rattle.std.proofs.Common.{length, map, slice_get, arith}
use Rattle.std.specs.List.{list_any}
use Rattle.std.specs.Result.{OnOk, IfErr}
use Rattle.krn_base.specs.declared.place.Loc.{Loc}
use Rattle.krn_base.specs.declared.refusal.Rule.TheVariants.{Unassigned}
use Rattle.krn_base.specs.declared.refusal.Stop.{Stop}
use Rattle.krn_base.specs.declared.refusal.Stop.TheVariants as stop
use Rattle.module_names.specs.Places as places
use Rattle.module_names.specs.Places.{given, Among, is_before, RefusesAt}
use Rattle.call_chains.specs.Calls.{own_calls, calls_in}
use Rattle.call_chains.specs.Chains.{Reaches}
use Rattle.call_chains.specs.Sets.{marked, AreReached}
use Rattle.py_parse.specs.declared.tree.Function.{Function}
use Rattle.py_parse.specs.declared.tree.Module.{Module}
use Rattle.py_parse.specs.declared.tree.Name.{Name}
use Rattle.use_def.specs.Flows.{function_marks, marks_where, marks_from, all_marks}
use Rattle.use_def.specs.Paths.{Event, Reads, Choice, path}
use Rattle.use_def.specs.Unassigned.{IsRefusedAt, IsAccepted, IsFirst, Refuses, AreReadsSettled, settles}
use Rattle.use_def.proofs.Fits.{given_left, given_right, given_split}
use Rattle.use_def.proofs.Walks.{read_marked, marked_read}

there : (fs : List Function) (k : ℕ) (f : Function) → slice_get fs k ≡ Some f → k < length fs
there [] k f is = absurd cc
there (g ∷ gs) zero f is = omega arith
there (g ∷ gs) (suc k) f is = let less : k < length gs = there gs k f is in omega arith

rows_length : {A B : Type 0} (g : A → B) (xs : List A) → length (map g xs) ≡ length xs
rows_length g [] = refl
rows_length g (x ∷ xs) = ap suc (rows_length g xs)

module _ (m : Module) (reached : List Bool) where
  -- a function of the rest of a list, with its number in the whole
  abbrev Stands : ℕ → List Function → Loc → Type 0
  Stands n fs at = (k : ℕ) × (f : Function) × (slice_get fs k ≡ Some f) × (marked reached (n + k) ≡ true)
      × Among at (given (function_marks m f))

  here : (n : ℕ) (f : Function) (fs : List Function) (at : Loc) (b : Bool) → marked reached n ≡ b
      → Among at (given (marks_where m b f)) → Stands n (f ∷ fs) at
  here n f fs at true is h =
      let number : n + 0 ≡ n = omega arith in
      (0, f, refl, ap (marked reached) number ∙ is, h)
  here n f fs at false is h = absurd h

  later : (n : ℕ) (f : Function) (fs : List Function) (at : Loc) → Stands (n + 1) fs at → Stands n (f ∷ fs) at
  later n f fs at (k, g, is, so, h) =
      let number : n + suc k ≡ (n + 1) + k = omega arith in
      (suc k, g, is, ap (marked reached) number ∙ so, h)

  by_either : (n : ℕ) (f : Function) (fs : List Function) (at : Loc)
      → (Among at (given (marks_from m reached (n + 1) fs)) → Stands (n + 1) fs at)
      → Among at (given (marks_where m (marked reached n) f)) ⊎ Among at (given (marks_from m reached (n + 1) fs))
      → Stands n (f ∷ fs) at
  by_either n f fs at rest (inl h) = here n f fs at (marked reached n) refl h
  by_either n f fs at rest (inr h) = later n f fs at (rest h)

  from_marks : (n : ℕ) (fs : List Function) (at : Loc) → Among at (given (marks_from m reached n fs))
      → Stands n fs at
  from_marks n [] at h = absurd h
  from_marks n (f ∷ fs) at h =
      by_either n f fs at (from_marks (n + 1) fs at)
      (given_split at (marks_where m (marked reached n) f) (marks_from m reached (n + 1) fs) h)

  to_marks : (n : ℕ) (fs : List Function) (k : ℕ) (f : Function) (at : Loc) → slice_get fs k ≡ Some f
      → marked reached (n + k) ≡ true → Among at (given (function_marks m f))
      → Among at (given (marks_from m reached n fs))
  to_marks n [] k f at is so h = absurd cc
  to_marks n (g ∷ gs) zero f at is so h =
      let same : g ≡ f = cc in
      let number : n ≡ n + 0 = omega arith in
      let chosen_is : marks_where m (marked reached n) g ≡ function_marks m f =
      ap (λ b. marks_where m b g) (ap (marked reached) number ∙ so) ∙ ap (function_marks m) same in
      given_left at (marks_where m (marked reached n) g) (marks_from m reached (n + 1) gs)
      (subst (λ (l : List (Option Loc)). Among at (given l)) (sym chosen_is) h)
  to_marks n (g ∷ gs) (suc k) f at is so h =
      let number : (n + 1) + k ≡ n + suc k = omega arith in
      given_right at (marks_where m (marked reached n) g) (marks_from m reached (n + 1) gs)
      (to_marks (n + 1) gs k f at is (ap (marked reached) number ∙ so) h)

module _ (m : Module) (exported : List ℕ) (reached : List Bool)
    (are : AreReached (own_calls m) exported reached) where
  abbrev Marked : Loc → Type 0
  Marked at = Among at (given (all_marks m reached))

  refused_marked : (at : Loc) → IsRefusedAt m exported at → Marked at
  refused_marked at r =
      let less : r.number < length m.functions = there m.functions r.number r.function r.stands in
      let rows : length (own_calls m) ≡ length m.functions = rows_length (calls_in m.functions) m.functions in
      let row : r.number < length (own_calls m) = omega arith in
      let number : 0 + r.number ≡ r.number = omega arith in
      to_marks m reached 0 m.functions r.number r.function at r.stands
      (ap (marked reached) number ∙ are.whole r.number r.reached.0 row r.reached.1)
      (read_marked m r.function at r.read)

  marked_refused : (at : Loc) → Marked at → IsRefusedAt m exported at
  marked_refused at h =
      let (k, f, is, so, among) = from_marks m reached 0 m.functions at h in
      let number : 0 + k ≡ k = omega arith in
      record {
        number = k;
        function = f;
        stands = is;
        reached = are.sound k (sym (ap (marked reached) number) ∙ so);
        read = marked_read m f at among;
      }

  -- ---- the clauses of the rule

  pub is_accepted : given (all_marks m reached) ≡ [] → IsAccepted m exported
  is_accepted none = λ at r. subst (Among at) none (refused_marked at r)

  none_among : (ps : List Loc) → ((at : Loc) → Among at ps → ⊥) → ps ≡ []
  none_among [] none = refl
  none_among (p ∷ ps) none = absurd (none p (inl refl))

  pub none_marked : IsAccepted m exported → given (all_marks m reached) ≡ []
  none_marked accepted = none_among (given (all_marks m reached)) (λ at h. accepted at (marked_refused at h))

  pub is_first : (at : Loc) → places.IsFirst at (given (all_marks m reached)) → IsFirst m exported at
  is_first at f = record {
    refused = marked_refused at f.among;
    first = λ x r. f.first x (refused_marked x r);
  }

  pub first_marked : (at : Loc) → IsFirst m exported at → places.IsFirst at (given (all_marks m reached))
  first_marked at f = record {
    among = refused_marked at f.refused;
    first = λ x h. f.first x (marked_refused x h);
  }

  pub ok_clause : (result : Result (Unit {0}) Stop) → OnOk result (given (all_marks m reached) ≡ [])
      → OnOk result (IsAccepted m exported)
  ok_clause (Ok x) none = is_accepted none
  ok_clause (Err e) none = tt

  pub refused_clause : (result : Result (Unit {0}) Stop)
      → IfErr result (RefusesAt Unassigned (given (all_marks m reached))) → IfErr result (Refuses m exported)
  refused_clause (Ok x) is = tt
  refused_clause (Err stop.Memory) is = tt
  refused_clause (Err (stop.Refused r)) is = (is.0, is_first r.loc is.1)

-- ---- the other words

settled_by : (m : Module) (exported : List ℕ) (number : ℕ) (f : Function) (o : Choice) (before after : List Event)
    (name : Name) (b : Bool) → IsAccepted m exported → slice_get m.functions number ≡ Some f
    → Reaches (own_calls m) exported number → path m f o ≡ before ++ Reads name ∷ after
    → list_any (settles name.text) before ≡ b → b ≡ true
settled_by m exported number f o before after name true accepted is reached parts e = refl
settled_by m exported number f o before after name false accepted is reached parts e =
    absurd (accepted name.loc (record {
      number = number;
      function = f;
      stands = is;
      reached = reached;
      read = record {
        choice = o;
        read = record {
          before = before;
          name = name;
          after = after;
          parts = parts;
          place = refl;
          unsettled = e;
        };
      };
    }))

pub settled_clause : (m : Module) (exported : List ℕ) (result : Result (Unit {0}) Stop)
    → OnOk result (IsAccepted m exported) → OnOk result (AreReadsSettled m exported)
settled_clause m exported (Ok x) accepted = λ number f o before after name is reached parts.
    settled_by m exported number f o before after name (list_any (settles name.text) before) accepted is reached parts
    refl
settled_clause m exported (Err e) accepted = tt

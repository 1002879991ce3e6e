-- Folding keeps the outcomes of a sound program without own calls.
use Rattle.std.proofs.Common.{◌≡◌, ◌∙◌, ap, ap₂, sym, subst, refl, arith, ℕ, zero, suc, ◌+◌, ◌≤◌, ◌<◌, ℤ, Bool, true}
use Rattle.std.proofs.Common.{false}
use Rattle.std.proofs.Common.{List, [], ◌∷◌, map, length, replicate, get_or, Option, Some, None}
use Rattle.std.proofs.lemmas.List.{get_or-set_other}
use Rattle.std.proofs.lemmas.Option.{get_or_from_slice_get, slice_get-map, slice_get_within}
use Rattle.std.specs.Prelude.{nat_lt, slice_get, if◌then◌else◌, option_map}
use Rattle.std.specs.List.{AllByRecursion, range_with_len}
use Rattle.krn_base.specs.declared.kind.Kind.{Kind}
use Rattle.array_ops.specs.Elements.{Bound, Unbound}
use Rattle.eager_rules.specs.Blocks.{End, GoesOn, Returned, Faulted, Stuck}
use Rattle.eager_rules.specs.Eager.{Calls, bind_all, block, calls_at, entered}
use Rattle.eager_rules.specs.Laws.{IsNeverStuck}
use Rattle.eager_rules.specs.Outcome.{buffers_of, ended, finished, instance_outcome, outcome_at, outcome_by, outcome_of}
use Rattle.eager_rules.specs.Sound.{Head, IsSound, IsWellTyped, all_fit, array_named, head_of, keep_array}
use Rattle.eager_rules.specs.State.{State, bind, bound_of, bound_to, is_bound}
use Rattle.eager_rules.specs.Statements.{calls_of}
use Rattle.eager_rules.specs.Types.{Ty}
use Rattle.eager_rules.specs.declared.program.Instance.{Instance}
use Rattle.eager_rules.specs.declared.program.Oper.{Oper}
use Rattle.eager_rules.specs.declared.program.Oper.TheVariants as oper
use Rattle.eager_rules.specs.declared.program.Program.{Program}
use Rattle.const_fold.specs.Folded.{Literals, bindings, folded_instance, folded_program, known}
use Rattle.const_fold.specs.Folded.{literals_of, round, rounds}
use Rattle.const_fold.proofs.Alikes.{Alike}
use Rattle.const_fold.proofs.FoldSound.{same_outside}
use Rattle.const_fold.proofs.FoldTypes.{body_below, body_fits}
use Rattle.const_fold.proofs.FoldTests.{not_true}
use Rattle.const_fold.proofs.Facts.{AllRight}
use Rattle.const_fold.proofs.Right.{IsLiteral, known_is_own, known_literal, table_is_right}
use Rattle.const_fold.proofs.Runs.{Fate, KnowsNoArray, body_follows}
use Rattle.inline.specs.Flattened.{HasNoCalls}
use Rattle.inline.specs.Kept.{HasOutcomes}

-- ---- the state in which a call begins
none_bound : (count n : ℕ) → get_or (replicate count Unbound) n Unbound ≡ Unbound
none_bound zero zero = refl
none_bound zero (suc n) = refl
none_bound (suc count) zero = refl
none_bound (suc count) (suc n) = none_bound count n

past_range : (first count : ℕ) (args : List Bound) (s : State) (n : ℕ) → first + count ≤ n →
    bound_of (bind_all (range_with_len first count) args s) n ≡ bound_of s n
past_range first zero [] s n le = refl
past_range first zero (b ∷ args) s n le = refl
past_range first (suc count) [] s n le = refl
past_range first (suc count) (b ∷ args) s n le =
    past_range (first + 1) count args (bind first b s) n (omega (arith, le))
    ∙ get_or-set_other s.names first n b Unbound (λ is. absurd (omega (arith, le, is)))

entered_unbound : (f : Instance) (args : List Bound) (buffers : List (List ℤ)) (n : ℕ) → length f.params ≤ n →
    bound_of (entered f args buffers) n ≡ Unbound
entered_unbound f args buffers n le =
    past_range 0 (length f.params) args (record { buffers = buffers; names = replicate (length f.names) Unbound }) n
    (omega (arith, le))
    ∙ none_bound (length f.names) n

-- ---- ends
-- the same end of a kernel, and it isn't stuck either
abbrev SameEnd : State × End → State × End → Type 0
SameEnd p q =
    ((rets : List (Kind × ℕ)) (count : ℕ) → ended rets count q ≡ ended rets count p) × (q.1 ≡ Stuck → ⊥)

goes_on : GoesOn ≡ Stuck → ⊥
goes_on h = cc

returned : (values : List Bound) → Returned values ≡ Stuck → ⊥
returned values h = cc

module _ (calls others : Calls) (heads : List Head) (rets : List (Kind × ℕ)) (types : List (Kind × ℕ))
    (table : Literals) (scalars : KnowsNoArray types table) where
  same_end : (p q : State × End) → Fate calls others heads rets types table scalars p q → (p.1 ≡ Stuck → ⊥) →
      SameEnd p q
  same_end (s, GoesOn) (t, end) h free =
      (λ rets count. ap₂ (finished rets count) (sym h.0.buffers) h.1, λ is. free (sym h.1 ∙ is))
  same_end (s, Returned values) (t, end) h free =
      (λ rets count. ap₂ (finished rets count) (sym h.0) h.1, λ is. free (sym h.1 ∙ is))
  same_end (s, Faulted fault at) (t, end) h free =
      (λ rets count. ap₂ (finished rets count) (sym h.0) h.1, λ is. free (sym h.1 ∙ is))
  same_end (s, Stuck) q h free = absurd (free refl)

-- what is known of the names of an instance: each literal is right, no array's, and no parameter's
pub record IsTrueTable (f : Instance) : Type 0 where
  pub right : AllRight f.names (literals_of f) f.body
  pub scalars : KnowsNoArray f.names (literals_of f)
  pub inner : (n : ℕ) (l : Oper) → known (literals_of f) n ≡ Some l → length f.params ≤ n

no_array : (types : List Ty) (n : ℕ) (l : Oper) → IsLiteral (slice_get types n) l → array_named types n ≡ None
no_array types n (oper.Int z) h = ap keep_array h
no_array types n (oper.Truth b) h = ap keep_array h
no_array types n (oper.Name m) h = absurd h

pub true_table : (f : Instance) → IsTrueTable f
true_table f = record {
  right = table_is_right f;
  scalars = λ n l e. no_array f.names n l (known_literal f n l e);
  inner = known_is_own f;
}

module _ (heads : List Head) (tables : (f : Instance) → IsTrueTable f) where
  -- what a round asks of an instance
  abbrev pub IsReady : Instance → Type 0
  IsReady f = (all_fit heads f.rets f.names f.body ≡ true) × (calls_of f.body ≡ [])

  module _ (args : List Bound) (buffers : List (List ℤ)) where
    abbrev run_of : Calls → Instance → State × End
    run_of calls f = block calls f.body (entered f args buffers)

    begins : (f : Instance) → Alike (literals_of f) (entered f args buffers) (entered f args buffers)
    begins f = record {
      buffers = refl;
      held = λ n l e is. not_true (sym (sym is ∙ ap is_bound (entered_unbound f args buffers n ((tables f).inner n l
          e))));
      names = λ n e. refl;
      size = refl;
    }

    round_ends : (calls others : Calls) (f : Instance) → IsReady f → ((run_of calls f).1 ≡ Stuck → ⊥) →
        SameEnd (run_of calls f) (run_of others (round f))
    round_ends calls others f fit free =
        same_end calls others heads f.rets f.names (literals_of f) (tables f).scalars (run_of calls f)
        (run_of others (round f))
        (body_follows calls others heads f.rets f.names (literals_of f) (tables f).scalars f.body fit.0 (tables f).right
        fit.1 (entered f args buffers) (entered f args buffers) (begins f)) free

    then_ends : (p q r : State × End) → SameEnd p q → SameEnd q r → SameEnd p r
    then_ends p q r g h = (λ rets count. h.0 rets count ∙ g.0 rets count, h.1)

    module _ (again : (f : Instance) → IsReady f → IsReady (round f)) (calls others : Calls) where
      abbrev either : Bool → Instance → Instance → Instance
      either b g h = if b then g else h

      one_ends : (f g : Instance) (b : Bool) (kind : Calls) → SameEnd (run_of kind f) (run_of others (round f)) →
          SameEnd (run_of others (round f)) (run_of others g) →
          SameEnd (run_of kind f) (run_of others (either b g (round f)))
      one_ends f g true kind once rest =
          then_ends (run_of kind f) (run_of others (round f)) (run_of others g) once rest
      one_ends f g false kind once rest = once

      more_ends : (left : ℕ) (f : Instance) → IsReady f → ((run_of others f).1 ≡ Stuck → ⊥) →
          SameEnd (run_of others f) (run_of others (rounds left f))
      more_ends zero f fit free = (λ rets count. refl, free)
      more_ends (suc left) f fit free =
          let once : SameEnd (run_of others f) (run_of others (round f)) = round_ends others others f fit free in
          one_ends f (rounds left (round f)) (nat_lt (bindings (round f)) (bindings f)) others once
          (more_ends left (round f) (again f fit) once.1)

      first_ends : (left : ℕ) (f : Instance) → IsReady f → ((run_of calls f).1 ≡ Stuck → ⊥) →
          SameEnd (run_of calls f) (run_of others (rounds (suc left) f))
      first_ends left f fit free =
          let once : SameEnd (run_of calls f) (run_of others (round f)) = round_ends calls others f fit free in
          one_ends f (rounds left (round f)) (nat_lt (bindings (round f)) (bindings f)) calls once
          (more_ends left (round f) (again f fit) once.1)

      pub instance_ends : (f : Instance) → IsReady f → ((run_of calls f).1 ≡ Stuck → ⊥) →
          SameEnd (run_of calls f) (run_of others (folded_instance f))
      instance_ends f fit free =
          subst (λ (k : ℕ). SameEnd (run_of calls f) (run_of others (rounds k f)))
          (let more : suc (bindings f) ≡ bindings f + 1 = omega arith in more) (first_ends (bindings f) f fit free)

-- a round leaves an instance ready for another
round_ready : (heads : List Head) (f : Instance) → IsReady heads true_table f → IsReady heads true_table (round f)
round_ready heads f fit = (
  body_fits (literals_of f) f.names (known_literal f) heads f.rets f.body fit.0,
  none (calls_of (round f).body)
      (body_below (λ n. ⊥) (literals_of f) f.body (subst (AllByRecursion (λ n. ⊥)) (sym fit.1) tt)),
)
  where
    none : (xs : List ℕ) → AllByRecursion (λ n. ⊥) xs → xs ≡ []
    none [] all = refl
    none (x ∷ xs) all = absurd all.0

-- ---- a program
module _ (program : Program) (sound : IsSound program) (never : IsNeverStuck program) (free : HasNoCalls program) where
  abbrev after : Program
  after = folded_program program

  ready_in : (i : ℕ) (f : Instance) → slice_get program.instances i ≡ Some f →
      IsReady (map head_of program.instances) true_table f
  ready_in i f there =
      let within : i < length program.instances = slice_get_within program.instances i f there in
      let same : get_or program.instances i f ≡ f = get_or_from_slice_get program.instances i f f there in (
        (subst (IsWellTyped (map head_of program.instances)) same (sound.typed.instances i f within)).body,
        subst (λ (g : Instance). calls_of g.body ≡ []) same (free i f within),
      )

  pub has_outcomes : HasOutcomes program after
  has_outcomes k f is call fits =
      let there : slice_get after.instances is.number ≡ Some (folded_instance f) =
      slice_get-map folded_instance program.instances is.number ∙ ap (option_map folded_instance) is.there in
      let mine : outcome_of program k call ≡
      instance_outcome program.instances (length program.instances) f call =
      ap (λ (o : Option ℕ). outcome_at program o call) is.numbered
      ∙ ap (λ (o : Option Instance). outcome_by program.instances call o) is.there in
      let theirs : outcome_of after k call ≡
      instance_outcome after.instances (length after.instances) (folded_instance f) call =
      ap (λ (o : Option ℕ). outcome_at after o call) is.numbered
      ∙ ap (λ (o : Option Instance). outcome_by after.instances call o) there in
      let depth : ℕ = length program.instances in
      let calls : Calls = calls_at program.instances depth in
      let others : Calls = calls_at after.instances (length after.instances) in
      let args : List Bound = map bound_to call.args in
      let buffers : List (List ℤ) = buffers_of call in
      let ends : SameEnd (run_of (map head_of program.instances) true_table args buffers calls f)
      (run_of (map head_of program.instances) true_table args buffers others (folded_instance f)) =
      instance_ends (map head_of program.instances) true_table args buffers (round_ready (map head_of
      program.instances)) calls
      others f (ready_in is.number f is.there) (never is.number f call is.there fits) in
      theirs
      ∙ (ap (λ (rets : List (Kind × ℕ)). ended rets (length call.buffers)
      (block others (folded_instance f).body (entered (folded_instance f) args buffers)))
      (same_outside f).rets
      ∙ (ends.0 f.rets (length call.buffers) ∙ sym mine))

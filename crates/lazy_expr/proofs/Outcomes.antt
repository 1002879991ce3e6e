-- A kernel in plain form has the outcome of eager evaluation, for each call that fits; and so has a module.
use Rattle.std.proofs.Common.{◌≡◌, ◌∙◌, ap, ap₂, sym, subst, refl, arith, ℕ, zero, suc, ◌+◌, ◌<◌, true}
use Rattle.std.proofs.Common.{List, [], ◌∷◌, ◌++◌, map, length, Option, Some, length-append}
use Rattle.std.specs.Prelude.{slice_get}
use Rattle.std.specs.List.{All, flat_map, list_all}
use Rattle.std.proofs.lemmas.List.Folds.{flat_map-map}
use Rattle.std.proofs.lemmas.Option.{get_or_from_slice_get, slice_get-get_or, slice_get_within}
use Rattle.view_places.specs.Laws.{IsOwnBroadcast, StaysOverItsShape}
use Rattle.overlap.specs.Walks.{BothWaysAlike}
use Rattle.eager_rules.specs.Blocks.{End, GoesOn, Returned, Faulted, Stuck}
use Rattle.eager_rules.specs.Eager.{Calls, calls_at, entered}
use Rattle.eager_rules.specs.Eager.{block as eager_block}
use Rattle.eager_rules.specs.Kept.{FitsInstance}
use Rattle.eager_rules.specs.Laws.{IsNeverStuck}
use Rattle.eager_rules.specs.Outcome.{buffers_of, finished, instance_outcome, outcome_at, outcome_by}
use Rattle.eager_rules.specs.Sound.{IsSound, IsTyped, IsWellTyped, head_of}
use Rattle.eager_rules.specs.State.{bound_to}
use Rattle.eager_rules.specs.State.{State as Eager}
use Rattle.eager_rules.specs.Statements.{calls_of, calls_step}
use Rattle.eager_rules.specs.TypedStates.{BeginsTyped, KeepsTypes}
use Rattle.eager_rules.specs.declared.call.Call.{Call}
use Rattle.eager_rules.specs.declared.program.Core.TheFolds.{fold-Core}
use Rattle.eager_rules.specs.declared.program.Instance.{Instance}
use Rattle.eager_rules.specs.declared.program.Program.{Program}
use Rattle.lazy_expr.specs.Plain.{lowered, plain_kernel}
use Rattle.lazy_expr.specs.Promise.{KeepsOutcomes, ProgramKeepsOutcomes, has_flat_kernels, has_ranked_params, is_flat}
use Rattle.lazy_expr.specs.Promise.{is_flat_at, is_none, kernel_at, plain_program}
use Rattle.lazy_expr.specs.Table.{view_types, word_kinds}
use Rattle.lazy_expr.proofs.Binds.{and_left, and_right, not_both}
use Rattle.lazy_expr.proofs.Follows.{Ends, NotStuck}
use Rattle.lazy_expr.proofs.Operands.{none_some, some_same}
use Rattle.lazy_expr.proofs.Relation.{Agree, ClosesAlike, IsTable, StartsAlike}
use Rattle.lazy_expr.proofs.Shapes.{EachSpreads, FlipsProper, PicksProper}
use Rattle.lazy_expr.proofs.Simulation.{body_follows}
use Rattle.loop_prog.specs.Serial.{block, kernel_outcome}
use Rattle.loop_prog.specs.Serial.{entered as entered_kernel, outcome_by as kernel_by}
use Rattle.loop_prog.specs.State.{State}
use Rattle.loop_prog.specs.declared.program.Kernel.{Kernel}

free : (e : End) → (e ≡ Stuck → ⊥) → NotStuck e
free GoesOn h = tt
free (Returned values) h = tt
free (Faulted fault at) h = tt
free Stuck h = absurd (h refl)

pub no_item : {A : Type 0} (xs : List A) → is_none xs ≡ true → xs ≡ []
no_item [] h = refl
no_item (x ∷ xs) h = not_both (sym h)

-- the laws of evaluation, of walks and of shapes, and the start and the close of a kernel
module _ (never : (program : Program) → IsSound program → IsNeverStuck program)
    (keeps : (program : Program) → IsTyped program → KeepsTypes program)
    (begins : (program : Program) → IsTyped program → BeginsTyped program)
    (alike : BothWaysAlike) (spreads : EachSpreads) (own_shape : IsOwnBroadcast) (own_spread : StaysOverItsShape)
    (picks : PicksProper) (flips : FlipsProper) (f : Instance) (table : IsTable f.names) (starts : StartsAlike f)
    (closes : ClosesAlike f) where
  module _ (program : Program) (number : ℕ) (sound : IsSound program)
      (there : slice_get program.instances number ≡ Some f) (ranked : has_ranked_params f ≡ true) (call : Call)
      (fits : FitsInstance f call) (flat : is_flat f ≡ true) where
    abbrev calls : Calls
    calls = calls_at program.instances (length program.instances)

    abbrev views : ℕ
    views = length (plain_kernel f).views

    abbrev first : Eager
    first = entered f (map bound_to call.args) (buffers_of call)

    abbrev last : State
    last = entered_kernel (plain_kernel f) call

    well_typed : IsWellTyped (map head_of program.instances) f
    well_typed =
        subst (IsWellTyped (map head_of program.instances))
        (get_or_from_slice_get program.instances number f f there)
        (sound.typed.instances number f (slice_get_within program.instances number f there))

    views_count : length (view_types f.names ++ (lowered f.names f.body).fresh) ≡
        length (view_types f.names) + length (lowered f.names f.body).fresh
    views_count = length-append (view_types f.names) (lowered f.names f.body).fresh

    no_calls : flat_map (λ names. names) (map (fold-Core (List ℕ) calls_step) f.body) ≡ []
    no_calls =
        flat_map-map (λ (names : List ℕ). names) (fold-Core (List ℕ) calls_step) f.body ∙
        no_item (calls_of f.body) flat

    follows : Ends (Agree f.names views) (eager_block calls f.body first)
        (block (word_kinds f.names) (lowered f.names f.body).body last)
    follows =
        body_follows (map head_of program.instances) f.rets f.names views calls
        (keeps program sound.typed number f there (length program.instances)) table
        (omega (arith, views_count)) alike spreads own_shape own_spread picks flips f.body well_typed.body no_calls
        (omega (arith, views_count)) first last (begins program sound.typed number f there call fits)
        (starts (map head_of program.instances) well_typed ranked call fits)

    ended_alike : (p : Eager × End) (q : State × End) → Agree f.names views p.0 q.0 × (p.1 ≡ q.1) →
        finished f.rets (length call.buffers) q.0.buffers q.1 ≡ finished f.rets (length call.buffers) p.0.buffers p.1
    ended_alike p q h = ap₂ (finished f.rets (length call.buffers)) (sym h.0.buffers) (sym h.1)

    pub kept : (kernel_outcome (plain_kernel f) call).0 ≡
        instance_outcome program.instances (length program.instances) f call
    kept =
        closes (length call.buffers) last ∙
        ended_alike (eager_block calls f.body first) (block (word_kinds f.names) (lowered f.names f.body).body last)
        (follows (free (eager_block calls f.body first).1 (never program sound number f call there fits)))

  pub keeps_outcomes : is_flat f ≡ true → KeepsOutcomes f (plain_kernel f)
  keeps_outcomes flat program number sound there ranked call fits =
      kept program number sound there ranked call fits flat

-- ---- a module
-- each number is an instance's, so kernels stand where their numbers do
kernel_there : (instances : List Instance) (numbers : List ℕ) (k number : ℕ) (f : Instance) →
    All (λ n. n < length instances) numbers → slice_get numbers k ≡ Some number →
    slice_get instances number ≡ Some f →
    slice_get (flat_map (λ n. kernel_at (slice_get instances n)) numbers) k ≡ Some (plain_kernel f)
kernel_there instances [] k number f all e h = none_some number e
kernel_there instances (n ∷ numbers) zero number f all e h =
    ap (λ (o : Option Instance). slice_get (kernel_at o ++ flat_map (λ m. kernel_at (slice_get instances m)) numbers) 0)
    (ap (slice_get instances) (some_same n number e) ∙ h)
kernel_there instances (n ∷ numbers) (suc k) number f all e h =
    let within : n < length instances = all 0 0 (omega arith) in
    ap (λ (o : Option Instance).
    slice_get (kernel_at o ++ flat_map (λ m. kernel_at (slice_get instances m)) numbers) (suc k))
    (slice_get-get_or instances n f within) ∙
    kernel_there instances numbers k number f (λ i d inside. all (suc i) d (omega (arith, inside))) e h

flat_there : (instances : List Instance) (numbers : List ℕ) (k number : ℕ) (f : Instance) →
    list_all (λ n. is_flat_at (slice_get instances n)) numbers ≡ true → slice_get numbers k ≡ Some number →
    slice_get instances number ≡ Some f → is_flat f ≡ true
flat_there instances [] k number f flat e h = none_some number e
flat_there instances (n ∷ numbers) zero number f flat e h =
    ap is_flat_at (sym h) ∙ ap (λ (m : ℕ). is_flat_at (slice_get instances m)) (sym (some_same n number e)) ∙
    and_left (is_flat_at (slice_get instances n)) (list_all (λ m. is_flat_at (slice_get instances m)) numbers) flat
flat_there instances (n ∷ numbers) (suc k) number f flat e h =
    flat_there instances numbers k number f
    (and_right (is_flat_at (slice_get instances n)) (list_all (λ m. is_flat_at (slice_get instances m)) numbers) flat)
    e h

pub program_keeps : (program : Program) → IsSound program → has_flat_kernels program ≡ true →
    ((f : Instance) → is_flat f ≡ true → KeepsOutcomes f (plain_kernel f)) →
    ProgramKeepsOutcomes program (plain_program program)
program_keeps program sound flat keeps kernel f is ranked call fits =
    ap (λ (o : Option Kernel). (kernel_by call o).0)
    (kernel_there program.instances program.kernels kernel is.number f sound.typed.kernels is.numbered is.there) ∙
    keeps f (flat_there program.instances program.kernels kernel is.number f flat is.numbered is.there) program
    is.number sound is.there ranked call fits ∙
    sym
    (ap (λ (o : Option ℕ). outcome_at program o call) is.numbered ∙
    ap (λ (o : Option Instance). outcome_by program.instances call o) is.there)

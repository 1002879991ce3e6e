-- Calls of a program without its idle calls follow those of the program.
use Rattle.std.proofs.Common.{arith, ◌≡◌, ◌∙◌, ap, sym, subst, refl, inl, inr, ◌⊎◌, ◌<◌, ℕ, zero, suc, ℤ}
use Rattle.std.proofs.Common.{Bool, true, false, not, ◌&&◌, List, [], map, length, slice_get, Option, Some}
use Rattle.std.proofs.Common.{replicate}
use Rattle.std.proofs.lemmas.List.{length-map}
use Rattle.std.proofs.lemmas.Option.{slice_get-map, slice_get_within}
use Rattle.std.specs.Prelude.{option_map}
use Rattle.std.specs.List.{All, list_all, range_with_len}
use Rattle.array_ops.specs.Arrays.{words_of}
use Rattle.array_ops.specs.Elements.{Bound, Unbound}
use Rattle.eager_rules.specs.Blocks.{End, GoesOn, Returned, Faulted, Stuck}
use Rattle.eager_rules.specs.Eager.{Calls, block, called, calls_at, done_of, entered}
use Rattle.eager_rules.specs.Laws.{buffers_after}
use Rattle.eager_rules.specs.Sound.{IsWellTyped, head_of}
use Rattle.eager_rules.specs.State.{State}
use Rattle.eager_rules.specs.Types.{Ty, type_of_param}
use Rattle.eager_rules.specs.Works.{Done, Made, Failed, Blocked}
use Rattle.eager_rules.specs.declared.program.Instance.{Instance}
use Rattle.eager_rules.specs.declared.program.Program.{Program}
use Rattle.purity.specs.Answers.{may_fault_in, may_write_in}
use Rattle.purity.specs.Soundness.{AreArguments, FaultsNever, IsNoFault, LiesIn, WritesNoOthers}
use Rattle.purity.specs.declared.answers.Effects.{Effects}
use Rattle.inline.specs.Dropped.{dropped_in, without}
use Rattle.inline.specs.Idle.{calm_by, calm_in}
use Rattle.inline.proofs.Calms.{one_of}
use Rattle.inline.proofs.DropStatements.{IsIdle, body_follows}
use Rattle.inline.proofs.LinkFollows.{bind_all_alike}
use Rattle.inline.proofs.Links.{Alike, AllSame, Fate, Like, Links, Rel}
use Rattle.inline.proofs.RankCalls.{callable_at, entry_ok, rank_at, well_at}
use Rattle.inline.proofs.RankStates.{Respects, StateOk}
use Rattle.inline.proofs.TypeTests.{and_left, and_right, not_true}

-- ---- idle calls
not_false : (b : Bool) → not b ≡ true → b ≡ true → ⊥
not_false true h e = not_true h
not_false false h e = not_true e

idle_done : (rets : List Ty) (before : List (List ℤ)) (d : Done) → Respects rets (length before) d → IsNoFault d →
    ((b : ℕ) → b < length before → words_of (buffers_after d) b ≡ words_of before b) → IsIdle before d
idle_done rets before (Made last values) longer calm same = (longer.0, same)
idle_done rets before (Failed last fault at) longer calm same = calm
idle_done rets before (Blocked last) longer calm same = tt

module _ (program : Program) (effects : Effects) (well : All (IsWellTyped (map head_of program.instances))
    program.instances) (writes : WritesNoOthers program effects) (faults : FaultsNever program effects) where
  abbrev calm : ℕ → Bool
  calm = calm_in program effects

  idle_at : (depth k : ℕ) (g : Instance) → slice_get program.instances k ≡ Some g → calm k ≡ true →
      (args : List Bound) (before : List (List ℤ)) → AreArguments g args →
      IsIdle before (calls_at program.instances depth k args before)
  idle_at depth k g there is args before ranks =
      idle_done g.rets before (calls_at program.instances depth k args before)
      (callable_at program.instances well depth k g there args before ranks)
      (faults k g there (not_false (may_fault_in effects k)
      (and_left (not (may_fault_in effects k)) none_written known)) depth args before ranks)
      (λ b less. unwritten b (writes k g there depth args before ranks b less))
    where
      none_written : Bool
      none_written = list_all (λ param. not (may_write_in effects k param)) (range_with_len 0 (length g.params))

      known : not (may_fault_in effects k) && none_written ≡ true
      known = ap (calm_by effects k) (sym there) ∙ is

      below : (param buffer : ℕ) → LiesIn args param buffer → param < length g.params
      below param buffer lies =
          let (t, at, rank) = rank_at (map (λ p. type_of_param p.1) g.params) args param _ ranks lies.argument in
          let inside : param < length (map (λ p. type_of_param p.1) g.params) =
          slice_get_within (map (λ p. type_of_param p.1) g.params) param t at in
          let long : length (map (λ p. type_of_param p.1) g.params) ≡ length g.params = length-map g.params _ in
          omega (arith, inside, long)

      unwritten : (b : ℕ) →
          (words_of (buffers_after (calls_at program.instances depth k args before)) b ≡ words_of before b)
          ⊎ ((param : ℕ) × LiesIn args param b × (may_write_in effects k param ≡ true)) →
          words_of (buffers_after (calls_at program.instances depth k args before)) b ≡ words_of before b
      unwritten b (inl e) = e
      unwritten b (inr (param, lies, may)) =
          absurd (let less : param < length g.params = below param b lies in
          not_false (may_write_in effects k param)
          (one_of (λ p. not (may_write_in effects k p)) 0 (length g.params) param
          (and_right (not (may_fault_in effects k)) none_written known) (omega arith) (omega (arith, less))) may)

  -- ---- the state in which a call begins
  unbound_same : (r : Links) (n : ℕ) → AllSame r (replicate n Unbound) (replicate n Unbound)
  unbound_same r zero = tt
  unbound_same r (suc n) = (refl, unbound_same r n)

  pub entered_alike : (r : Links) (g : Instance) (args given : List Bound) (before after : List (List ℤ)) →
      AllSame r args given → Rel r before after →
      Alike r (entered g args before) (entered (dropped_in calm g) given after)
  entered_alike r g args given before after same h =
      bind_all_alike r (range_with_len 0 (length g.params)) args given
      (record { buffers = before; names = replicate (length g.names) Unbound })
      (record { buffers = after; names = replicate (length g.names) Unbound })
      (record { buffers = h; names = unbound_same r (length g.names) }) same

  pub entry_kept : (k : ℕ) (g : Instance) → slice_get program.instances k ≡ Some g → (args : List Bound)
      (before : List (List ℤ)) → AreArguments g args → StateOk g.names g.rets 0 (entered g args before)
  entry_kept k g there args before ranks =
      let kept = entry_ok program.instances g (well_at program.instances well k g there) args before ranks in
      record { longer = omega arith; named = kept.named }

  done_like : (r : Links) (p u : State × End) → Fate r p u → Like r (done_of p) (done_of u)
  done_like r (s, GoesOn) (t, end) (is, q, ext, h) =
      subst (λ (x : End). Like r (Made s.buffers []) (done_of (t, x))) (sym is)
      (t.buffers, [], refl, q, ext, h.buffers, tt)
  done_like r (s, Returned vs) (t, end) (ws, is, q, ext, rel, same) =
      subst (λ (x : End). Like r (Made s.buffers vs) (done_of (t, x))) (sym is)
      (t.buffers, ws, refl, q, ext, rel, same)
  done_like r (s, Faulted fault at) (t, end) (is, q, ext, rel) =
      subst (λ (x : End). Like r (Failed s.buffers fault at) (done_of (t, x))) (sym is)
      (t.buffers, refl, q, ext, rel)
  done_like r (s, Stuck) u h = tt

  -- ---- calls to a depth
  abbrev pub others_at : ℕ → Calls
  others_at depth = calls_at (map (dropped_in calm) program.instances) depth

  abbrev CallsLike : Calls → Calls → Type 0
  CallsLike calls others =
      (k : ℕ) (g : Instance) → slice_get program.instances k ≡ Some g → (r : Links) (args given : List Bound)
      (before after : List (List ℤ)) → AreArguments g args → AllSame r args given → Rel r before after →
      Like r (calls k args before) (others k given after)

  -- the run of a called body
  pub run_follows : (depth : ℕ) → CallsLike (calls_at program.instances depth) (others_at depth) →
      (k : ℕ) (g : Instance) → slice_get program.instances k ≡ Some g → (r : Links) (args given : List Bound)
      (before after : List (List ℤ)) → AreArguments g args → AllSame r args given → Rel r before after →
      Fate r (block (calls_at program.instances depth) g.body (entered g args before))
      (block (others_at depth) (without calm g.body) (entered (dropped_in calm g) given after))
  run_follows depth like k g there r args given before after ranks same h =
      body_follows program.instances (calls_at program.instances depth) (others_at depth)
      (callable_at program.instances well depth) calm like (idle_at depth) g.names g.rets g.body
      (well_at program.instances well k g there).body r (entered g args before)
      (entered (dropped_in calm g) given after) (entry_kept k g there args before ranks)
      (entered_alike r g args given before after same h)

  pub calls_like : (depth : ℕ) → CallsLike (calls_at program.instances depth) (others_at depth)
  calls_like zero k g there r args given before after ranks same h = tt
  calls_like (suc depth) k g there r args given before after ranks same h =
      let other : slice_get (map (dropped_in calm) program.instances) k ≡ Some (dropped_in calm g) =
      slice_get-map (dropped_in calm) program.instances k ∙ ap (option_map (dropped_in calm)) there in
      subst (λ (o : Option Instance). Like r (called (calls_at program.instances depth) o args before)
      (others_at (suc depth) k given after)) (sym there)
      (subst (λ (o : Option Instance). Like r (called (calls_at program.instances depth) (Some g) args before)
      (called (others_at depth) o given after)) (sym other)
      (done_like r (block (calls_at program.instances depth) g.body (entered g args before))
      (block (others_at depth) (without calm g.body) (entered (dropped_in calm g) given after))
      (run_follows depth (calls_like depth) k g there r args given before after ranks same h)))

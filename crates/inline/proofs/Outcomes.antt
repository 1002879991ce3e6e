-- The flat form of a sound program, with none of its calls left out, has the program's outcomes.
use Rattle.std.proofs.Common.{◌≡◌, ◌∙◌, ap, ap₂, sym, subst, refl, arith, ℕ, ◌+◌, ◌<◌, ◌≤◌, Bool, true}
use Rattle.std.proofs.Common.{List, [], ◌∷◌, ◌++◌, map, length, replicate, Option, Some, None, ℤ}
use Rattle.std.proofs.lemmas.List.{length-append, length-replicate}
use Rattle.std.proofs.lemmas.Option.{get_or_from_slice_get, slice_get_within}
use Rattle.std.specs.Prelude.{slice_get}
use Rattle.std.specs.List.{list_all, range_with_len}
use Rattle.krn_base.specs.declared.kind.Kind.{Kind}
use Rattle.array_ops.specs.Elements.{Bound, Unbound}
use Rattle.eager_rules.specs.Blocks.{End, GoesOn, Returned, Faulted, Stuck}
use Rattle.eager_rules.specs.Eager.{Calls, bind_all, block, calls_at, entered, where_ready}
use Rattle.eager_rules.specs.Laws.{IsNeverStuck}
use Rattle.eager_rules.specs.Outcome.{buffers_of, ended, finished, instance_outcome, outcome_at, outcome_by, outcome_of}
use Rattle.eager_rules.specs.Sound.{IsSound, IsWellTyped, head_of, shape_of_body}
use Rattle.eager_rules.specs.State.{State, bound_to, is_bound, operand}
use Rattle.eager_rules.specs.declared.program.Core.TheOpen as c
use Rattle.eager_rules.specs.declared.program.Core.TheVariants as v
use Rattle.eager_rules.specs.declared.program.Instance.{Instance}
use Rattle.eager_rules.specs.declared.program.Oper.{Oper}
use Rattle.eager_rules.specs.declared.program.Program.{Program}
use Rattle.inline.specs.Flat.{Lowered, flat_at, flat_body, flat_program, kernel_of}
use Rattle.inline.specs.Idle.{none_calm}
use Rattle.inline.specs.Kept.{HasOutcomes}
use Rattle.inline.specs.Own.{only_name, returned}
use Rattle.inline.specs.Places.{home, placed, renamed}
use Rattle.inline.specs.declared.moves.Out.TheVariants.{Returns}
use Rattle.inline.proofs.Depths.{Anything, all_anything, calls_follow}
use Rattle.inline.proofs.Entry.{empty_held, params_within, placed_range, range_below, returns_tail}
use Rattle.inline.proofs.Fates.{Fate}
use Rattle.inline.proofs.Frames.{Held, and_both, bind_all_held, operands_held, reads_held}
use Rattle.inline.proofs.Kernels.{counted_there, kernel_there}
use Rattle.inline.proofs.Moving.{block_one}
use Rattle.inline.proofs.Simulation.{body_follows}

module _ (instances : List Instance) (others : Calls)
    (typed : (i : ℕ) (f : Instance) → slice_get instances i ≡ Some f → IsWellTyped (map head_of instances) f)
    (f : Instance) (well : IsWellTyped (map head_of instances) f) (args : List Bound) (buffers : List (List ℤ)) where
  abbrev calls : Calls
  calls = calls_at instances (length instances)

  abbrev form : Lowered
  form = flat_body instances none_calm f

  abbrev kernel : Instance
  kernel = kernel_of f form

  abbrev size : ℕ
  size = length f.names

  -- the kernel's frame before its parameters are bound
  abbrev base : State
  base = record { buffers = buffers; names = replicate (length (f.names ++ form.fresh)) Unbound }

  total : length base.names ≡ size + length form.fresh
  total = length-replicate (length (f.names ++ form.fresh)) Unbound ∙ length-append f.names form.fresh

  room : 0 + size ≤ length base.names
  room = let count : length base.names ≡ size + length form.fresh = total in omega (arith, count)

  begins : Held home size base (entered f args buffers) (entered kernel args buffers)
  begins =
      let within : length f.params ≤ size = params_within (map head_of instances) f well in
      let names : map (placed home) (range_with_len 0 (length f.params)) ≡ range_with_len 0 (length f.params) =
      placed_range 0 None (length f.params) (λ n lt. refl) 0 (length f.params) (omega arith) in
      let empty : State = record { buffers = buffers; names = replicate size Unbound } in
      subst (λ (ns : List ℕ). Held home size base (bind_all (range_with_len 0 (length f.params)) args empty)
      (bind_all ns args base)) names
      (bind_all_held home size base tt room (range_with_len 0 (length f.params)) args empty base
      (range_below size 0 (length f.params) (omega (arith, within))) (empty_held home size base))

  -- what comes of a Return: the same one
  abbrev Comes : List Bound → State → State × End → Type 0
  Comes values s q = (s.buffers ≡ q.0.buffers) × (q.1 ≡ Returned values)

  home_returns : (values : List Oper) → Anything (only_name values) → (s u : State) → Held home size base s u →
      list_all (λ x. is_bound (operand s x)) values ≡ true →
      Comes (map (operand s) values) s (block others (v.Return (map (renamed home) values) ∷ []) u)
  home_returns values give s u r bound =
      let there : List Oper = map (renamed home) values in
      let results : List Bound = map (operand s) values in
      let unfolded : block others (v.Return there ∷ []) u ≡ (u, Returned results) =
      block_one others (c.Return there) (v.Return there) (v.rolls-Return there) u
      ∙ (ap (λ (b : Bool). where_ready b (u, Returned (map (operand u) there)) u)
      (and_both (list_all (λ x. is_bound (operand u x)) there) true
      (reads_held home size base tt room s u values r bound) refl)
      ∙ ap (λ (vs : List Bound). (u, Returned vs)) (operands_held home size base tt room s u values r bound)) in
      subst (Comes results s) (sym unfolded) (r.buffers, refl)

  follows : Fate home size base true Comes true (block calls f.body (entered f args buffers))
      (block others form.body (entered kernel args buffers))
  follows =
      let count : length base.names ≡ size + length form.fresh = total in
      body_follows calls others (flat_at instances none_calm (length instances)) (map head_of instances)
      (calls_follow instances others typed (length instances)) f.rets f.names home Returns size base tt room true
      Anything Comes home_returns f.body well.body (returns_tail f.rets (shape_of_body f.body) well.returns, refl)
      (all_anything (returned f.body)) size (omega arith) (omega (arith, count)) (entered f args buffers)
      (entered kernel args buffers) begins

  same_end : (rets : List (Kind × ℕ)) (count : ℕ) (q r : State × End) → Fate home size base true Comes true q r →
      (q.1 ≡ Stuck → ⊥) → ended rets count r ≡ ended rets count q
  same_end rets count (s, GoesOn) (t, end) h free = ap₂ (finished rets count) (sym h.0.0.buffers) h.0.1
  same_end rets count (s, Returned values) (t, end) h free = ap₂ (finished rets count) (sym h.0) h.1
  same_end rets count (s, Faulted fault at) (t, end) h free = ap₂ (finished rets count) (sym h.0) h.1
  same_end rets count (s, Stuck) (t, end) h free = absurd (free refl)

  pub kernel_ends : (rets : List (Kind × ℕ)) (count : ℕ) →
      ((block calls f.body (entered f args buffers)).1 ≡ Stuck → ⊥) →
      ended rets count (block others form.body (entered kernel args buffers)) ≡
      ended rets count (block calls f.body (entered f args buffers))
  kernel_ends rets count free =
      same_end rets count (block calls f.body (entered f args buffers))
      (block others form.body (entered kernel args buffers)) follows free

-- ---- a program
module _ (never : (program : Program) → IsSound program → IsNeverStuck program) (program : Program)
    (sound : IsSound program) where
  well_typed : (i : ℕ) (f : Instance) → slice_get program.instances i ≡ Some f →
      IsWellTyped (map head_of program.instances) f
  well_typed i f there =
      subst (IsWellTyped (map head_of program.instances)) (get_or_from_slice_get program.instances i f f there)
      (sound.typed.instances i f (slice_get_within program.instances i f there))

  abbrev flat : Program
  flat = flat_program program none_calm

  pub has_outcomes : HasOutcomes program flat
  has_outcomes k f is call fits =
      let kernel : Instance = kernel_of f (flat_body program.instances none_calm f) in
      let there : slice_get flat.instances k ≡ Some kernel =
      kernel_there program.instances none_calm program.kernels k is.number f sound.typed.kernels is.numbered is.there in
      let within : k < length flat.instances = slice_get_within flat.instances k kernel there in
      let mine : outcome_of program k call ≡
      instance_outcome program.instances (length program.instances) f call =
      ap (λ (o : Option ℕ). outcome_at program o call) is.numbered
      ∙ ap (λ (o : Option Instance). outcome_by program.instances call o) is.there in
      let theirs : outcome_of flat k call ≡ instance_outcome flat.instances (length flat.instances) kernel call =
      ap (λ (o : Option ℕ). outcome_at flat o call) (counted_there (length flat.instances) k within)
      ∙ ap (λ (o : Option Instance). outcome_by flat.instances call o) there in
      theirs
      ∙ (kernel_ends program.instances (calls_at flat.instances (length flat.instances)) well_typed f
      (well_typed is.number f is.there) (map bound_to call.args) (buffers_of call) f.rets (length call.buffers)
      (never program sound is.number f call is.there fits)
      ∙ sym mine)

-- Plain kernels keep the rules on assignments, nesting and returns: at the start the parameters are assigned.
use Rattle.std.proofs.Common.{◌≡◌, ◌∙◌, ap, sym, refl, arith, ℕ, zero, suc, ◌+◌, ◌<◌, ◌≤◌, Bool, true, false}
use Rattle.std.proofs.Common.{◌&&◌, List, [], ◌∷◌, ◌++◌, length, take, replicate}
use Rattle.std.specs.Prelude.{slice_set}
use Rattle.std.specs.List.{list_all}
use Rattle.std.proofs.lemmas.List.{get_or-set_same, length-map, length-replicate, length-set}
use Rattle.std.proofs.lemmas.List.Folds.{flat_map-map, list_all-map}
use Rattle.krn_base.specs.declared.kind.ParamType.{ParamType}
use Rattle.krn_base.specs.declared.kind.ParamType.TheVariants.{Scalar, Flat, Strided}
use Rattle.eager_rules.specs.Sound.{Bindings, IsWellTyped, bound_in, walk}
use Rattle.eager_rules.specs.Sound.{at_start as core_start, is_assigned as all_bound}
use Rattle.eager_rules.specs.Statements.{calls_of, calls_step}
use Rattle.eager_rules.specs.Types.{Ty}
use Rattle.eager_rules.specs.declared.program.Core.TheFolds.{fold-Core}
use Rattle.eager_rules.specs.declared.program.Instance.{Instance}
use Rattle.lazy_expr.specs.Plain.{lowered, plain_kernel}
use Rattle.lazy_expr.specs.Promise.{has_ranked_params, is_flat}
use Rattle.lazy_expr.specs.Table.{register, table_of}
use Rattle.lazy_expr.specs.Valid.{is_shallow, shallow_step}
use Rattle.lazy_expr.proofs.ValidRules.{keeps_paths}
use Rattle.lazy_expr.proofs.Binds.{and_left, and_right, not_both}
use Rattle.lazy_expr.proofs.Operands.{some_given}
use Rattle.lazy_expr.proofs.Outcomes.{no_item}
use Rattle.lazy_expr.proofs.Start.{Placed, placed, whole}
use Rattle.lazy_expr.proofs.ValidKernels.{params_kept, same_params, types}
use Rattle.lazy_expr.proofs.ValidNames.{both, holds, stands}
use Rattle.lazy_expr.proofs.ValidPaths.{Tracks, in_slots, set_keeps}
use Rattle.lazy_expr.proofs.ValidTrees.{body_walks}
use Rattle.loop_prog.specs.Check.{body_findings, kernel_findings, kernel_keeps, with_own}
use Rattle.loop_prog.specs.Conditions.{is_there}
use Rattle.loop_prog.specs.Paths.{assign, at_start, is_assigned, slot, slot_count, with_slot}
use Rattle.loop_prog.specs.Serial.{param_regs}
use Rattle.loop_prog.specs.declared.kept.Kept.{Kept}
use Rattle.loop_prog.specs.declared.paths.Paths.{Paths}
use Rattle.loop_prog.specs.declared.program.Kernel.{Kernel}
use Rattle.loop_prog.specs.declared.program.Reg.{Reg}
use Rattle.loop_prog.specs.declared.program.Reg.TheVariants as reg

-- the names that are bound at the start are parameters
started : (m a b n : ℕ) → bound_in (take m (replicate a true ++ replicate b false)) n ≡ true → n < a
started zero a b n h = not_both (sym h)
started (suc m) zero zero n h = not_both (sym h)
started (suc m) zero (suc b) zero h = not_both (sym h)
started (suc m) zero (suc b) (suc n) h = absurd (omega (arith, started m zero b n h))
started (suc m) (suc a) b zero h = omega arith
started (suc m) (suc a) b (suc n) h = omega (arith, started m a b n h)

-- ---- assigning registers one after another
assign_reached : (regs : List Reg) (p : Paths) → (assign regs p).reached ≡ p.reached
assign_reached [] p = refl
assign_reached (r ∷ regs) p = assign_reached regs (with_slot (slot r) true p)

assign_size : (regs : List Reg) (p : Paths) → length (assign regs p).slots ≡ length p.slots
assign_size [] p = refl
assign_size (r ∷ regs) p =
    assign_size regs (with_slot (slot r) true p) ∙ length-set p.slots (slot r) true

assign_keeps : (regs : List Reg) (p : Paths) (r : Reg) → is_assigned p r ≡ true → is_assigned (assign regs p) r ≡ true
assign_keeps [] p r h = h
assign_keeps (x ∷ regs) p r h =
    assign_keeps regs (with_slot (slot x) true p) r (set_keeps p.slots (slot x) (slot r) h)

module _ (names : List Ty) (kernel : Kernel) where
  -- the first register of those that are assigned
  first_assigned : (r : Reg) (regs : List Reg) (p : Paths) → is_there kernel r ≡ true →
      slot_count kernel ≤ length p.slots → is_assigned (assign (r ∷ regs) p) r ≡ true
  first_assigned r regs p h size =
      let below : slot r < slot_count kernel = in_slots kernel r h in
      assign_keeps regs (with_slot (slot r) true p) r
      (get_or-set_same p.slots (slot r) true false (omega (arith, below, size)))

  abbrev Params : ℕ → List Reg → List ParamType → Type 0
  Params k regs types =
      (p : Paths) → slot_count kernel ≤ length p.slots → (n m : ℕ) → m ≡ k + n → n < length types →
      is_assigned (assign regs p) (register (table_of names) m) ≡ true

  -- the register of a parameter before others
  one_more : (k : ℕ) (r : Reg) (regs : List Reg) (type : ParamType) (types : List ParamType) →
      register (table_of names) k ≡ r → is_there kernel r ≡ true → Params (k + 1) regs types →
      Params k (r ∷ regs) (type ∷ types)
  one_more k r regs type types is there rest p size zero m e below =
      let same : m ≡ k = omega (arith, e) in
      ap (λ (x : Reg). is_assigned (assign (r ∷ regs) p) x) (ap (register (table_of names)) same ∙ is) ∙
      first_assigned r regs p there size
  one_more k r regs type types is there rest p size (suc n) m e below =
      let long : length (slice_set p.slots (slot r) true) ≡ length p.slots = length-set p.slots (slot r) true in
      rest (with_slot (slot r) true p) (omega (arith, long, size)) n m (omega (arith, e)) (omega (arith, below))

  params_assigned : (k words views : ℕ) (types : List ParamType) → Placed names k words views types →
      list_all (is_there kernel) (param_regs words views types) ≡ true →
      Params k (param_regs words views types) types
  params_assigned k words views [] put there p size n m e below = absurd (omega (arith, below))
  params_assigned k words views (Scalar kind ∷ types) put there p size n m e below =
      one_more k (reg.Word words) (param_regs (words + 1) views types) (Scalar kind) types put.2
      (and_left (is_there kernel (reg.Word words)) (list_all (is_there kernel) (param_regs (words + 1) views types))
      there)
      (params_assigned (k + 1) (words + 1) views types put.3 (and_right (is_there kernel (reg.Word words))
      (list_all (is_there kernel) (param_regs (words + 1) views types)) there)) p size n m e below
  params_assigned k words views (Flat kind rank ∷ types) put there p size n m e below =
      one_more k (reg.View views) (param_regs words (views + 1) types) (Flat kind rank) types put.2
      (and_left (is_there kernel (reg.View views)) (list_all (is_there kernel) (param_regs words (views + 1) types))
      there)
      (params_assigned (k + 1) words (views + 1) types put.3 (and_right (is_there kernel (reg.View views))
      (list_all (is_there kernel) (param_regs words (views + 1) types)) there)) p size n m e below
  params_assigned k words views (Strided kind rank ∷ types) put there p size n m e below =
      one_more k (reg.View views) (param_regs words (views + 1) types) (Strided kind rank) types put.2
      (and_left (is_there kernel (reg.View views)) (list_all (is_there kernel) (param_regs words (views + 1) types))
      there)
      (params_assigned (k + 1) words (views + 1) types put.3 (and_right (is_there kernel (reg.View views))
      (list_all (is_there kernel) (param_regs words (views + 1) types)) there)) p size n m e below

-- ---- a kernel's entries
own_paths : (own : Kept) (found : List Kept) → keeps_paths own ≡ true → list_all keeps_paths found ≡ true →
    list_all keeps_paths (with_own own found) ≡ true
own_paths own [] p q = both p refl
own_paths own (k ∷ found) p q =
    let k_kept = and_left (keeps_paths k) (list_all keeps_paths found) q in
    let own_two = and_right own.assigned (own.nesting && own.returns) p in
    let k_two = and_right k.assigned (k.nesting && k.returns) k_kept in
    both (both (both (and_left own.assigned (own.nesting && own.returns) p)
    (and_left k.assigned (k.nesting && k.returns) k_kept))
    (both (both (and_left own.nesting own.returns own_two) (and_left k.nesting k.returns k_two))
    (both (and_right own.nesting own.returns own_two) (and_right k.nesting k.returns k_two))))
    (and_right (keeps_paths k) (list_all keeps_paths found) q)

module _ (f : Instance) (heads : List _) (typed : IsWellTyped heads f) (ranks : has_ranked_params f ≡ true)
    (flat : is_flat f ≡ true) (shallow : is_shallow f ≡ true) (bound : all_bound f ≡ true) where
  abbrev kernel : Kernel
  kernel = plain_kernel f

  abbrev first : Bindings
  first = take (length f.names) (core_start f)

  starts : Tracks f.names kernel first (at_start kernel)
  starts = record {
    reached = assign_reached (param_regs 0 0 (types f heads typed ranks flat)) _;
    size =
        let long : length (at_start kernel).slots ≡ slot_count kernel =
        assign_size (param_regs 0 0 (types f heads typed ranks flat))
        (record { reached = true; slots = replicate (slot_count kernel) false }) ∙
        length-replicate (slot_count kernel) false in omega (arith, long);
    named = λ n h.
        let count : length (types f heads typed ranks flat) ≡ length f.params =
        length-map f.params (λ (p : List ℕ × ParamType). p.1) in
        let below : n < length f.params = started (length f.names) (length f.params) (length f.names) n h in
        let long : length (replicate (slot_count kernel) false) ≡ slot_count kernel =
        length-replicate (slot_count kernel) false in
        params_assigned f.names kernel 0 0 0 (types f heads typed ranks flat)
        (placed f.names 0 0 0 f.names (types f heads typed ranks flat) (whole f.names)
        (same_params f heads typed ranks flat) ranks)
        (params_kept f heads typed ranks flat).there
        (record { reached = true; slots = replicate (slot_count kernel) false }) (omega (arith, long)) n n
        (omega arith) (omega (arith, count, below));
  }

  pub kernel_paths : (earlier : List Kernel) → list_all keeps_paths (kernel_findings earlier kernel) ≡ true
  kernel_paths earlier =
      let walked = some_given (walk f.body first) (λ names. true) bound in
      let ends = body_walks heads f.names kernel (holds f.names (lowered f.names f.body).fresh kernel refl refl) f.body
      typed.body (flat_map-map (λ (names : List ℕ). names) (fold-Core (List ℕ) calls_step) f.body ∙
      no_item (calls_of f.body) flat) (stands f.names (lowered f.names f.body).fresh kernel refl) first walked.0
      walked.1
      (list_all-map (λ (fits : ℕ → Bool). fits 0) (fold-Core (ℕ → Bool) shallow_step) f.body ∙ shallow)
      (at_start kernel) starts typed.returns in
      own_paths (kernel_keeps earlier kernel) (body_findings kernel) ends.1 ends.0

-- Paths through plain statements follow the walk over the core: what is bound there has an assigned register here.
use Rattle.std.proofs.Common.{◌≡◌, ◌∙◌, ap, sym, refl, arith, ℕ, zero, suc, ◌<◌, ◌≤◌, max, Bool}
use Rattle.std.proofs.Common.{true, false, not, ◌||◌, List, [], ◌∷◌, ◌++◌, map, length, Some, ltb-true}
use Rattle.std.specs.Prelude.{slice_get, slice_index_or, slice_set, if◌then◌else◌}
use Rattle.std.specs.List.{flat_map, list_all}
use Rattle.std.proofs.Math.Nat.{le-max_left, le-max_right}
use Rattle.std.proofs.lemmas.List.{get_or-set_same, length-set, map-append}
use Rattle.std.proofs.lemmas.List.Folds.{list_all-append}
use Rattle.eager_rules.specs.Sound.{Bindings, bound_in, operand_bound}
use Rattle.eager_rules.specs.Sound.{meet as core_meet}
use Rattle.eager_rules.specs.Types.{Ty, is_array}
use Rattle.eager_rules.specs.declared.program.Oper.{Oper}
use Rattle.eager_rules.specs.declared.program.Oper.TheVariants as oper
use Rattle.lazy_expr.specs.Plain.{leaf_or_word, operand_step}
use Rattle.lazy_expr.specs.Table.{back_in, back_of, number, oper_of, opers_of, register, table_of}
use Rattle.lazy_expr.proofs.Binds.{and_left, and_right, not_both}
use Rattle.lazy_expr.proofs.Operands.{AreScalar, IsScalar}
use Rattle.lazy_expr.proofs.ValidNames.{Holds, both}
use Rattle.loop_prog.specs.Conditions.{is_there}
use Rattle.loop_prog.specs.Paths.{all_assigned, assign, both_paths, both_slots, is_assigned, meet, slot, slot_count}
use Rattle.loop_prog.specs.Statements.{back_regs, oper_regs, opers_regs, step_regs}
use Rattle.loop_prog.specs.Templates.{leaf_of_step, leaves}
use Rattle.loop_prog.specs.declared.paths.Paths.{Paths}
use Rattle.loop_prog.specs.declared.program.Kernel.{Kernel}
use Rattle.loop_prog.specs.declared.program.Reg.{Reg}
use Rattle.loop_prog.specs.declared.program.Reg.TheVariants as reg
use Rattle.loop_prog.specs.declared.program.TemplateStep.{TemplateStep}

-- ---- lists of tests
abbrev test_at : List Bool → ℕ → Bool
test_at tests i = slice_index_or tests i false

pub set_keeps : (tests : List Bool) (j i : ℕ) → test_at tests i ≡ true → test_at (slice_set tests j true) i ≡ true
set_keeps [] j i h = h
set_keeps (x ∷ xs) zero zero h = refl
set_keeps (x ∷ xs) zero (suc i) h = h
set_keeps (x ∷ xs) (suc j) zero h = h
set_keeps (x ∷ xs) (suc j) (suc i) h = set_keeps xs j i h

both_hold : (xs ys : List Bool) (i : ℕ) → test_at xs i ≡ true → test_at ys i ≡ true →
    test_at (both_slots xs ys) i ≡ true
both_hold [] ys i p q = p
both_hold (x ∷ xs) [] i p q = q
both_hold (x ∷ xs) (y ∷ ys) zero p q = both p q
both_hold (x ∷ xs) (y ∷ ys) (suc i) p q = both_hold xs ys i p q

both_length : (xs ys : List Bool) (n : ℕ) → n ≤ length xs → n ≤ length ys → n ≤ length (both_slots xs ys)
both_length xs ys zero p q = omega arith
both_length [] ys (suc n) p q = absurd (omega (arith, p))
both_length (x ∷ xs) [] (suc n) p q = absurd (omega (arith, q))
both_length (x ∷ xs) (y ∷ ys) (suc n) p q =
    let rest : n ≤ length (both_slots xs ys) = both_length xs ys n (omega (arith, p)) (omega (arith, q)) in
    omega (arith, rest)

-- ---- bound names
abbrev pub Sub : Bindings → Bindings → Type 0
Sub names others = (n : ℕ) → bound_in names n ≡ true → bound_in others n ≡ true

pub bound_set : {P : Type 0} (names : Bindings) (to n : ℕ) → bound_in (slice_set names to true) n ≡ true →
    (n ≡ to → P) → (bound_in names n ≡ true → P) → P
bound_set [] to n h same other = other h
bound_set (x ∷ xs) zero zero h same other = same refl
bound_set (x ∷ xs) zero (suc n) h same other = other h
bound_set (x ∷ xs) (suc to) zero h same other = other h
bound_set (x ∷ xs) (suc to) (suc n) h same other = bound_set xs to n h (λ e. same (ap suc e)) other

pub set_more : (names : Bindings) (to : ℕ) → Sub names (slice_set names to true)
set_more [] to n h = h
set_more (x ∷ xs) zero zero h = refl
set_more (x ∷ xs) zero (suc n) h = h
set_more (x ∷ xs) (suc to) zero h = h
set_more (x ∷ xs) (suc to) (suc n) h = set_more xs to n h

pub meet_left : (names others : Bindings) → Sub (core_meet names others) names
meet_left [] others n h = not_both (sym h)
meet_left (x ∷ xs) [] n h = not_both (sym h)
meet_left (x ∷ xs) (y ∷ ys) zero h = and_left x y h
meet_left (x ∷ xs) (y ∷ ys) (suc n) h = meet_left xs ys n h

pub meet_right : (names others : Bindings) → Sub (core_meet names others) others
meet_right [] others n h = not_both (sym h)
meet_right (x ∷ xs) [] n h = not_both (sym h)
meet_right (x ∷ xs) (y ∷ ys) zero h = and_right x y h
meet_right (x ∷ xs) (y ∷ ys) (suc n) h = meet_right xs ys n h

pub meet_both : (names first second : Bindings) → Sub names first → Sub names second →
    Sub names (core_meet first second)
meet_both names first second p q n h = joined first second n (p n h) (q n h)
  where
    joined : (xs ys : Bindings) (i : ℕ) → bound_in xs i ≡ true → bound_in ys i ≡ true →
        bound_in (core_meet xs ys) i ≡ true
    joined [] ys i a b = a
    joined (x ∷ xs) [] i a b = b
    joined (x ∷ xs) (y ∷ ys) zero a b = both a b
    joined (x ∷ xs) (y ∷ ys) (suc i) a b = joined xs ys i a b

-- ---- paths that follow a walk; a path comes
pub record Tracks (names : List Ty) (kernel : Kernel) (bound : Bindings) (paths : Paths) : Type 0 where
  pub reached : paths.reached ≡ true
  pub size : slot_count kernel ≤ length paths.slots
  pub named : (n : ℕ) → bound_in bound n ≡ true → is_assigned paths (register (table_of names) n) ≡ true

-- a register's test has a place
pub in_slots : (kernel : Kernel) (r : Reg) → is_there kernel r ≡ true → slot r < slot_count kernel
in_slots kernel (reg.Word r) h =
    let below : r < length kernel.regs = ltb-true r (length kernel.regs) h in
    let most : length kernel.regs ≤ max (length kernel.regs) (length kernel.views) =
    le-max_left (length kernel.regs) (length kernel.views) in omega (arith, below, most)
in_slots kernel (reg.View v) h =
    let below : v < length kernel.views = ltb-true v (length kernel.views) h in
    let most : length kernel.views ≤ max (length kernel.regs) (length kernel.views) =
    le-max_right (length kernel.regs) (length kernel.views) in omega (arith, below, most)

module _ (names : List Ty) (kernel : Kernel) (held : Holds names kernel) where
  abbrev regs : List Reg
  regs = table_of names

  abbrev Follow : Bindings → Paths → Type 0
  Follow = Tracks names kernel

  pub fewer : (b c : Bindings) (p : Paths) → Sub b c → Follow c p → Follow b p
  fewer b c p h t = record { reached = t.reached; size = t.size; named = λ n e. t.named n (h n e) }

  -- ---- assignments
  pub assigned_here : (r : Reg) (b : Bindings) (p : Paths) → is_there kernel r ≡ true → Follow b p →
      is_assigned (assign (r ∷ []) p) r ≡ true
  assigned_here r b p h t =
      let below : slot r < slot_count kernel = in_slots kernel r h in
      get_or-set_same p.slots (slot r) true false (omega (arith, below, t.size))

  pub assigned_still : (r other : Reg) (p : Paths) → is_assigned p other ≡ true →
      is_assigned (assign (r ∷ []) p) other ≡ true
  assigned_still r other p h = set_keeps p.slots (slot r) (slot other) h

  assigned_size : (r : Reg) (b : Bindings) (p : Paths) → Follow b p →
      slot_count kernel ≤ length (assign (r ∷ []) p).slots
  assigned_size r b p t =
      let same : length (slice_set p.slots (slot r) true) ≡ length p.slots = length-set p.slots (slot r) true in
      omega (arith, same, t.size)

  -- a register of no name, or of one that is bound already
  pub follow_new : (r : Reg) (b : Bindings) (p : Paths) → Follow b p → Follow b (assign (r ∷ []) p)
  follow_new r b p t = record {
    reached = t.reached;
    size = assigned_size r b p t;
    named = λ n h. assigned_still r (register regs n) p (t.named n h);
  }

  pub follow_bound : (r : Reg) (to : ℕ) (b : Bindings) (p : Paths) → register regs to ≡ r →
      is_there kernel r ≡ true → Follow b p → Follow (slice_set b to true) (assign (r ∷ []) p)
  follow_bound r to b p is there t = record {
    reached = t.reached;
    size = assigned_size r b p t;
    named = λ n h. bound_set b to n h
        (λ same. ap (λ (m : ℕ). is_assigned (assign (r ∷ []) p) (register regs m)) same ∙
        (ap (is_assigned (assign (r ∷ []) p)) is ∙ assigned_here r b p there t))
        (λ before. assigned_still r (register regs n) p (t.named n before));
  }

  -- where two paths meet
  pub follow_both : (b : Bindings) (p q : Paths) → Follow b p → Follow b q → Follow b (both_paths p q)
  follow_both b p q s t = record {
    reached = s.reached;
    size = both_length p.slots q.slots (slot_count kernel) s.size t.size;
    named = λ n h. both_hold p.slots q.slots (slot (register regs n)) (s.named n h) (t.named n h);
  }

  pub meet_is : (b c : Bindings) (p q : Paths) → Follow b p → Follow c q → meet p q ≡ both_paths p q
  meet_is b c p q s t =
      ap (λ (r : Bool). if not r then p else (if not p.reached then q else both_paths p q)) t.reached ∙
      ap (λ (r : Bool). if not r then q else both_paths p q) s.reached

  -- ---- reads
  pub reads_assigned : (p : Paths) (read : List Reg) → list_all (is_assigned p) read ≡ true →
      all_assigned p read ≡ true
  reads_assigned p read h = by_test (not p.reached)
    where
      by_test : (b : Bool) → (b || list_all (is_assigned p) read) ≡ true
      by_test true = refl
      by_test false = h

  module _ (b : Bindings) (p : Paths) (t : Follow b p) where
    abbrev assigned : List Reg → Bool
    assigned read = list_all (is_assigned p) read

    pub view_assigned : (n : ℕ) (u : Ty) → slice_get names n ≡ Some u → is_array u ≡ true →
        bound_in b n ≡ true → is_assigned p (reg.View (number regs n)) ≡ true
    view_assigned n u e a h = ap (is_assigned p) (sym (held.view n u e a).register) ∙ t.named n h

    pub scalar_assigned : (x : Oper) → IsScalar names x → operand_bound b x ≡ true →
        assigned (oper_regs (oper_of regs x)) ≡ true
    scalar_assigned (oper.Int z) s h = refl
    scalar_assigned (oper.Truth c) s h = refl
    scalar_assigned (oper.Name n) s h =
        both (ap (is_assigned p) (sym (held.word n s.type s.is_type s.scalar).register) ∙ t.named n h) refl

    pub scalars_assigned : (xs : List Oper) → AreScalar names xs → list_all (operand_bound b) xs ≡ true →
        assigned (opers_regs (opers_of regs xs)) ≡ true
    scalars_assigned [] s h = refl
    scalars_assigned (x ∷ xs) s h =
        list_all-append (is_assigned p) (oper_regs (oper_of regs x)) (opers_regs (opers_of regs xs)) ∙
        both (scalar_assigned x s.0 (and_left (operand_bound b x) (list_all (operand_bound b) xs) h))
        (scalars_assigned xs s.1 (and_right (operand_bound b x) (list_all (operand_bound b) xs) h))

    -- returned values, and steps, whatever the class of their names
    back_assigned : (x : Oper) → operand_bound b x ≡ true → assigned (back_regs (back_of regs x)) ≡ true
    back_assigned (oper.Int z) h = refl
    back_assigned (oper.Truth c) h = refl
    back_assigned (oper.Name n) h = by_register (register regs n) (t.named n h)
      where
        by_register : (r : Reg) → is_assigned p r ≡ true → assigned (back_regs (back_in r)) ≡ true
        by_register (reg.Word r) e = both e refl
        by_register (reg.View v) e = both e refl

    pub backs_assigned : (xs : List Oper) → list_all (operand_bound b) xs ≡ true →
        assigned (flat_map back_regs (map (back_of regs) xs)) ≡ true
    backs_assigned [] h = refl
    backs_assigned (x ∷ xs) h =
        list_all-append (is_assigned p) (back_regs (back_of regs x)) (flat_map back_regs (map (back_of regs) xs)) ∙
        both (back_assigned x (and_left (operand_bound b x) (list_all (operand_bound b) xs) h))
        (backs_assigned xs (and_right (operand_bound b x) (list_all (operand_bound b) xs) h))

    step_assigned : (x : Oper) → operand_bound b x ≡ true → (assigned (step_regs (operand_step regs x)) ≡ true) ×
        (assigned (map reg.View (leaf_of_step (operand_step regs x))) ≡ true)
    step_assigned (oper.Int z) h = (refl, refl)
    step_assigned (oper.Truth c) h = (refl, refl)
    step_assigned (oper.Name n) h = by_register (register regs n) (t.named n h)
      where
        by_register : (r : Reg) → is_assigned p r ≡ true → (assigned (step_regs (leaf_or_word r)) ≡ true) ×
            (assigned (map reg.View (leaf_of_step (leaf_or_word r))) ≡ true)
        by_register (reg.Word r) e = (both e refl, refl)
        by_register (reg.View v) e = (both e refl, both e refl)

    -- the steps of operands, before others
    pub steps_assigned : (xs : List Oper) (more : List TemplateStep) → list_all (operand_bound b) xs ≡ true →
        assigned (flat_map step_regs more) ≡ true → assigned (map reg.View (leaves more)) ≡ true →
        (assigned (flat_map step_regs (map (operand_step regs) xs ++ more)) ≡ true) ×
        (assigned (map reg.View (leaves (map (operand_step regs) xs ++ more))) ≡ true)
    steps_assigned [] more h q r = (q, r)
    steps_assigned (x ∷ xs) more h q r =
        let first = step_assigned x (and_left (operand_bound b x) (list_all (operand_bound b) xs) h) in
        let rest = steps_assigned xs more (and_right (operand_bound b x) (list_all (operand_bound b) xs) h) q r in
        let steps : List TemplateStep = map (operand_step regs) xs ++ more in (
          list_all-append (is_assigned p) (step_regs (operand_step regs x)) (flat_map step_regs steps) ∙
              both first.0 rest.0,
          ap (list_all (is_assigned p)) (map-append reg.View (leaf_of_step (operand_step regs x)) (leaves steps)) ∙
              (list_all-append (is_assigned p) (map reg.View (leaf_of_step (operand_step regs x)))
              (map reg.View (leaves steps)) ∙ both first.1 rest.1),
        )

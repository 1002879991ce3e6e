-- Lowered statements keep the rules on assignments, nesting and returns: one case for each kind of statement, and the
-- induction over blocks.
use Rattle.std.proofs.Common.{◌≡◌, ◌∙◌, ap, ap₂, sym, subst, refl, ℕ, ◌+◌, Bool, true, false, ◌&&◌}
use Rattle.std.proofs.Common.{List, [], ◌∷◌, ◌++◌, map, Option, Some, None}
use Rattle.std.specs.Prelude.{nat_lt}
use Rattle.std.specs.List.{list_all}
use Rattle.std.proofs.lemmas.List.Folds.{list_all-append}
use Rattle.eager_rules.specs.Sound.{Bindings, Head, Shape, block_shape, both_shapes}
use Rattle.eager_rules.specs.Sound.{names_fit, next, operand_bound, put_all}
use Rattle.eager_rules.specs.Sound.{returns_values, simple, stay, tested}
use Rattle.eager_rules.specs.Sound.{both as both_walks, meet as core_meet}
use Rattle.eager_rules.specs.Types.{Ty, is_truth, type_of}
use Rattle.eager_rules.specs.declared.program.Oper.{Oper}
use Rattle.lazy_expr.specs.Plain.{closed, closed_for}
use Rattle.lazy_expr.specs.Table.{back_of, oper_of, table_of}
use Rattle.lazy_expr.proofs.ValidRules.{keeps_paths}
use Rattle.lazy_expr.proofs.Binds.{and_left, and_right, not_both}
use Rattle.lazy_expr.proofs.Operands.{none_some, some_same, truth_scalar}
use Rattle.lazy_expr.proofs.ValidBlocks.{closed_for_if, closed_for_return, last}
use Rattle.lazy_expr.proofs.ValidBlocks.{passes_last, some_joined, some_mapped}
use Rattle.lazy_expr.proofs.ValidNames.{Holds, both}
use Rattle.lazy_expr.proofs.ValidPaths.{Sub, Tracks, backs_assigned, fewer, follow_both, meet_both, meet_is}
use Rattle.lazy_expr.proofs.ValidPaths.{meet_left, meet_right, reads_assigned, scalar_assigned}
use Rattle.lazy_expr.proofs.ValidSteps.{Leaves, Passes, flow_by}
use Rattle.lazy_expr.proofs.ValidSteps.{mid, one_passes}
use Rattle.loop_prog.specs.Check.{has_some}
use Rattle.loop_prog.specs.Judging.{block_by}
use Rattle.loop_prog.specs.Paths.{all_assigned, block_flow, both_paths, meet}
use Rattle.loop_prog.specs.Statements.{oper_regs}
use Rattle.loop_prog.specs.declared.paths.Paths.{Paths}
use Rattle.loop_prog.specs.declared.program.Kernel.{Kernel}
use Rattle.loop_prog.specs.declared.program.Reg.{Reg}
use Rattle.loop_prog.specs.declared.program.Statement.{Statement}
use Rattle.loop_prog.specs.declared.program.Statement.TheOpen as l
use Rattle.loop_prog.specs.declared.program.Statement.TheVariants as v

abbrev pub Walk : Type 0
Walk = Bindings → Option Bindings

-- ---- what walks and shapes say
pub tested_given : (test : Bool) (o : Option Bindings) (c : Bindings) → tested test o ≡ Some c →
    (test ≡ true) × (o ≡ Some c)
tested_given true o c h = (refl, h)
tested_given false o c h = none_some c h

pub next_given : (o : Option Bindings) (walk : Walk) (c : Bindings) → next o walk ≡ Some c →
    (m : Bindings) × (o ≡ Some m) × (walk m ≡ Some c)
next_given None walk c h = none_some c h
next_given (Some m) walk c h = (m, refl, h)

pub both_given : (o q : Option Bindings) (c : Bindings) → both_walks o q ≡ Some c →
    (m : Bindings) × (n : Bindings) × (o ≡ Some m) × (q ≡ Some n) × (core_meet m n ≡ c)
both_given None q c h = none_some c h
both_given (Some m) None c h = none_some c h
both_given (Some m) (Some n) c h = (m, n, refl, refl, some_same (core_meet m n) c h)

pub stay_given : (b : Bindings) (o : Option Bindings) (c : Bindings) → stay b o ≡ Some c →
    (m : Bindings) × (o ≡ Some m) × (b ≡ c)
stay_given b None c h = none_some c h
stay_given b (Some m) c h = (m, refl, some_same b c h)

pub behind_plain : (rets : List Ty) (a : Bool) (s : Shape) →
    returns_values rets (record { plain = a && s.plain; tail = a && s.tail; shut = a && s.shut }) ≡ true →
    (a ≡ true) × (returns_values rets s ≡ true)
behind_plain [] a s h = (and_left a s.tail h, and_right a s.tail h)
behind_plain (t ∷ rets) a s h = (
  and_left a s.tail (and_left (a && s.tail) (a && s.shut) h),
  both (and_right a s.tail (and_left (a && s.tail) (a && s.shut) h))
      (and_right a s.shut (and_right (a && s.tail) (a && s.shut) h)),
)

pub parts_return : (rets : List Ty) (s z : Shape) → returns_values rets (both_shapes s z) ≡ true →
    (returns_values rets s ≡ true) × (returns_values rets z ≡ true)
parts_return [] s z h = (and_left s.tail z.tail h, and_right s.tail z.tail h)
parts_return (t ∷ rets) s z h =
    let tails = and_left (s.tail && z.tail) (s.shut && z.shut) h in
    let shuts = and_right (s.tail && z.tail) (s.shut && z.shut) h in (
      both (and_left s.tail z.tail tails) (and_left s.shut z.shut shuts),
      both (and_right s.tail z.tail tails) (and_right s.shut z.shut shuts),
    )

pub first_plain : (s : Shape) (rest : List Shape) → (block_shape (s ∷ rest)).plain ≡ true →
    (s.plain ≡ true) × ((block_shape rest).plain ≡ true)
first_plain s [] h = (h, refl)
first_plain s (z ∷ rest) h =
    (and_left s.plain (block_shape (z ∷ rest)).plain h, and_right s.plain (block_shape (z ∷ rest)).plain h)

module _ (heads : List Head) (names : List Ty) (kernel : Kernel) (held : Holds names kernel) where
  abbrev regs : List Reg
  regs = table_of names

  abbrev Follow : Bindings → Paths → Type 0
  Follow = Tracks names kernel

  -- a block that ends no block in tail position
  pub record Middle (depth : ℕ) (body : List Statement) (p : Paths) (b c : Bindings) : Type 0 where
    pub after : Paths
    pub passes : Passes kernel body (mid depth) p
    pub flows : block_flow body p ≡ after
    pub follow : Follow c after
    pub more : Sub b c

  -- a block in tail position
  abbrev pub Ends : ℕ → List Statement → Paths → Type 0
  Ends depth body p =
      Passes kernel (closed_for kernel.rets body) (last depth) p × (has_some (closed_for kernel.rets body) ≡ true)

  pub record Done (body : List Statement) (shape : Shape) (depth : ℕ) (p : Paths) (b c : Bindings) : Type 0 where
    pub some : has_some body ≡ true
    pub middle : shape.plain ≡ true → Middle depth body p b c
    pub ends : returns_values kernel.rets shape ≡ true → Ends depth body p

  -- ---- statements that return nothing
  pub return_passes : (depth : ℕ) (p : Paths) → Passes kernel (v.Return [] ∷ []) (last depth) p
  return_passes depth p =
      one_passes kernel (l.Return []) (v.Return []) (v.rolls-Return []) (last depth) p
      (both (both (reads_assigned names kernel held p [] refl) refl) refl)

  pub open_ends : (rets : List Ty) (depth : ℕ) (body : List Statement) (p : Paths) (plain : Bool) →
      returns_values rets (record { plain = plain; tail = plain; shut = false }) ≡ true →
      Passes kernel body (mid depth) p → closed body ≡ body ++ v.Return [] ∷ [] → has_some body ≡ true →
      Passes kernel (closed_for rets body) (last depth) p × (has_some (closed_for rets body) ≡ true)
  open_ends [] depth body p plain h passes closes some = (
    subst (λ (xs : List Statement). Passes kernel xs (last depth) p) (sym closes)
        (passes_last kernel depth body (v.Return [] ∷ []) p refl passes (return_passes depth (block_flow body p))),
    ap has_some closes ∙ some_joined body (v.Return [] ∷ []) some,
  )
  open_ends (t ∷ rets) depth body p plain h passes closes some = not_both (sym (and_right plain false h))

  leaf_done : (depth : ℕ) (body : List Statement) (p : Paths) (b c : Bindings) →
      Leaves kernel names held depth body p b c → Done body simple depth p b c
  leaf_done depth body p b c leaf = record {
    some = leaf.runs.some;
    middle = λ e. record {
      after = leaf.after;
      passes = leaf.runs.passes;
      flows = leaf.runs.flows;
      follow = leaf.follow;
      more = leaf.more;
    };
    ends = λ h. open_ends kernel.rets depth body p true h leaf.runs.passes leaf.runs.closes leaf.runs.some;
  }

  pub leaf_case : (read : List Oper) (to : List ℕ) (depth : ℕ) (body : List Statement) (p : Paths) (b c : Bindings) →
      tested (list_all (operand_bound b) read && names_fit b to) (Some (put_all to b)) ≡ Some c →
      (list_all (operand_bound b) read ≡ true → Leaves kernel names held depth body p b (put_all to b)) →
      Done body simple depth p b c
  leaf_case read to depth body p b c w leaf =
      let given = tested_given (list_all (operand_bound b) read && names_fit b to) (Some (put_all to b)) c w in
      subst (λ (d : Bindings). Done body simple depth p b d) (some_same (put_all to b) c given.1)
      (leaf_done depth body p b (put_all to b)
      (leaf (and_left (list_all (operand_bound b) read) (names_fit b to) given.0)))

  pub return_done : (values : List Oper) (depth : ℕ) (p : Paths) (b c : Bindings) →
      list_all (operand_bound b) values ≡ true → Follow b p →
      Done (v.Return (map (back_of regs) values) ∷ []) (record { plain = false; tail = true; shut = true }) depth p b c
  return_done values depth p b c bound t =
      let closes = closed_for_return kernel.rets (map (back_of regs) values) in record {
        some = refl;
        middle = λ e. not_both (sym e);
        ends = λ h. (
          subst (λ (xs : List Statement). Passes kernel xs (last depth) p) (sym closes)
              (one_passes kernel (l.Return (map (back_of regs) values)) _ (v.rolls-Return (map (back_of regs) values))
              (last depth) p (both (both (reads_assigned names kernel held p _
              (backs_assigned names kernel held b p t values bound)) refl) refl)),
          ap has_some closes,
        );
      }

  -- ---- an `If`
  module _ (cond : Oper) (part other : List Statement) (depth : ℕ) (p : Paths) (b m n : Bindings)
      (truth : is_truth (type_of names cond) ≡ true) (bound : operand_bound b cond ≡ true) (t : Follow b p)
      (within : nat_lt depth 128 ≡ true) where
    abbrev whole : List Statement
    whole = v.If (oper_of regs cond) part other ∷ []

    cond_assigned : all_assigned p (oper_regs (oper_of regs cond)) ≡ true
    cond_assigned =
        reads_assigned names kernel held p (oper_regs (oper_of regs cond))
        (scalar_assigned names kernel held b p t cond (truth_scalar names cond truth) bound)

    pub if_middle : Middle (depth + 1) part p b m → Middle (depth + 1) other p b n → Middle depth whole p b
        (core_meet m n)
    if_middle first second =
        let y : l.Statement-F Statement = l.If (oper_of regs cond) part other in
        let met = meet_is names kernel held m n first.after second.after first.follow second.follow in record {
          after = both_paths first.after second.after;
          passes = one_passes kernel y _ (v.rolls-If (oper_of regs cond) part other) (mid depth) p
              (both (both cond_assigned (both within refl))
              (list_all-append keeps_paths (block_by kernel part (mid (depth + 1)) p)
              (block_by kernel other (mid (depth + 1)) p) ∙ both first.passes second.passes));
          flows = flow_by y _ (v.rolls-If (oper_of regs cond) part other) p ∙
              (ap₂ (λ (x z : Paths). meet x z) first.flows second.flows ∙ met);
          follow = follow_both names kernel held (core_meet m n) first.after second.after
              (fewer names kernel held (core_meet m n) m first.after (meet_left m n) first.follow)
              (fewer names kernel held (core_meet m n) n second.after (meet_right m n) second.follow);
          more = meet_both b m n first.more second.more;
        }

    pub if_ends : Ends (depth + 1) part p → Ends (depth + 1) other p → Ends depth whole p
    if_ends first second =
        let yes : List Statement = closed_for kernel.rets part in
        let no : List Statement = closed_for kernel.rets other in
        let closes = closed_for_if kernel.rets (oper_of regs cond) part other in (
          subst (λ (xs : List Statement). Passes kernel xs (last depth) p) (sym closes)
              (one_passes kernel (l.If (oper_of regs cond) yes no) _ (v.rolls-If (oper_of regs cond) yes no)
              (last depth) p (both (both cond_assigned (both within
              (both (some_mapped kernel yes ∙ first.1) (some_mapped kernel no ∙ second.1))))
              (list_all-append keeps_paths (block_by kernel yes (last (depth + 1)) p)
              (block_by kernel no (last (depth + 1)) p) ∙ both first.0 second.0))),
          ap has_some closes,
        )

-- Plain loops keep the rules on assignments, nesting and returns where their bodies do.
use Rattle.std.proofs.Common.{◌≡◌, ◌∙◌, ap, sym, refl, ℕ, ◌+◌, Bool, true, not}
use Rattle.std.proofs.Common.{List, [], ◌∷◌, ◌++◌, map, Option, Some, None}
use Rattle.std.specs.Prelude.{slice_get, slice_set, nat_lt, if◌then◌else◌}
use Rattle.std.specs.List.{list_all}
use Rattle.krn_base.specs.declared.kind.Kind.TheVariants.{Int64}
use Rattle.krn_base.specs.declared.operation.Join.{Join}
use Rattle.krn_base.specs.declared.place.Loc.{Loc}
use Rattle.eager_rules.specs.Sound.{Bindings, Head, Shape, all_numbers}
use Rattle.eager_rules.specs.Sound.{has_type, operand_bound}
use Rattle.eager_rules.specs.Types.{Ty}
use Rattle.eager_rules.specs.declared.program.Oper.{Oper}
use Rattle.lazy_expr.specs.Plain.{closed, empty_guard, loop_of}
use Rattle.lazy_expr.specs.Plain.{reduction_of, with_end}
use Rattle.lazy_expr.specs.Table.{number, oper_of, opers_of, table_of}
use Rattle.lazy_expr.proofs.ValidRules.{keeps_paths}
use Rattle.lazy_expr.proofs.Operands.{numbers_scalar, one_given}
use Rattle.lazy_expr.proofs.TailEnds.{rolled}
use Rattle.lazy_expr.proofs.ValidBlocks.{firsts}
use Rattle.lazy_expr.proofs.ValidNames.{Holds, IsWord, both}
use Rattle.lazy_expr.proofs.ValidPaths.{Tracks, fewer, follow_both, follow_bound, reads_assigned, scalars_assigned}
use Rattle.lazy_expr.proofs.ValidPaths.{set_more}
use Rattle.lazy_expr.proofs.ValidSteps.{flow_by, mid}
use Rattle.lazy_expr.proofs.ValidSteps.{one_passes}
use Rattle.lazy_expr.proofs.ValidWalks.{Done, Ends, Middle}
use Rattle.loop_prog.specs.Check.{with_findings}
use Rattle.loop_prog.specs.Judging.{block_by}
use Rattle.loop_prog.specs.Paths.{all_assigned, assign, block_flow, body_start, both_paths, head, kept_by}
use Rattle.loop_prog.specs.Statements.{opers_regs}
use Rattle.loop_prog.specs.declared.paths.Paths.{Paths}
use Rattle.loop_prog.specs.declared.program.Kernel.{Kernel}
use Rattle.loop_prog.specs.declared.program.Reg.{Reg}
use Rattle.loop_prog.specs.declared.program.Reg.TheVariants as reg
use Rattle.loop_prog.specs.declared.program.Statement.{Statement}
use Rattle.loop_prog.specs.declared.program.Statement.TheOpen as l
use Rattle.loop_prog.specs.declared.program.Statement.TheVariants as v

module _ (heads : List Head) (names : List Ty) (kernel : Kernel) (held : Holds names kernel) where
  abbrev regs : List Reg
  regs = table_of names

  abbrev Follow : Bindings → Paths → Type 0
  Follow = Tracks names kernel

  abbrev Mid : ℕ → List Statement → Paths → Bindings → Bindings → Type 0
  Mid = Middle heads names kernel held

  abbrev IsDone : List Statement → Shape → ℕ → Paths → Bindings → Bindings → Type 0
  IsDone = Done heads names kernel held

  abbrev End : ℕ → List Statement → Paths → Type 0
  End = Ends heads names kernel held

  -- ---- a loop: its body from what is bound before it, and again from its head
  module _ (var : ℕ) (lo hi by : Oper) (at : Loc) (body : List Statement) (depth : ℕ) (p : Paths) (b m : Bindings)
      (numbers : all_numbers names (lo ∷ hi ∷ by ∷ []) ≡ true)
      (variable : has_type names var (Some (Int64, 0)) ≡ true)
      (bound : list_all (operand_bound b) (lo ∷ hi ∷ by ∷ []) ≡ true) (t : Follow b p)
      (within : nat_lt depth 128 ≡ true)
      (turn : (q : Paths) → Follow (slice_set b var true) q → Mid (depth + 1) body q (slice_set b var true) m) where
    abbrev counter : ℕ
    counter = number regs var

    is_word : IsWord kernel regs var (Int64, 0)
    is_word = held.word var (Int64, 0) (one_given (slice_get names var) (Int64, 0) variable) refl

    with_variable : (q : Paths) → Follow b q → Follow (slice_set b var true) (assign (reg.Word counter ∷ []) q)
    with_variable q u = follow_bound names kernel held (reg.Word counter) var b q is_word.register is_word.there u

    first_turn : Mid (depth + 1) body (assign (reg.Word counter ∷ []) p) (slice_set b var true) m
    first_turn = turn (assign (reg.Word counter ∷ []) p) (with_variable p t)

    abbrev at_head : Paths
    at_head = both_paths p first_turn.after

    follow_head : Follow b at_head
    follow_head =
        follow_both names kernel held b p first_turn.after t
        (fewer names kernel held b m first_turn.after
        (λ n h. first_turn.more n (set_more b var n h)) first_turn.follow)

    head_is : head counter (block_flow body) p ≡ at_head
    head_is =
        ap (kept_by p) first_turn.flows ∙
        ap (λ (r : Bool). if not r then p else both_paths p first_turn.after) first_turn.follow.reached

    again : Mid (depth + 1) body (assign (reg.Word counter ∷ []) at_head) (slice_set b var true) m
    again = turn (assign (reg.Word counter ∷ []) at_head) (with_variable at_head follow_head)

    inner_passes : list_all keeps_paths (block_by kernel body (mid (depth + 1))
        (body_start counter (block_flow (map (λ p. p.0) (map (with_findings kernel) body))) p)) ≡ true
    inner_passes =
        ap (λ (xs : List Statement). list_all keeps_paths (block_by kernel body (mid (depth + 1))
        (body_start counter (block_flow xs) p))) (firsts kernel body) ∙
        (ap (λ (q : Paths). list_all keeps_paths (block_by kernel body (mid (depth + 1))
        (assign (reg.Word counter ∷ []) q))) head_is ∙ again.passes)

    read : all_assigned p (opers_regs (opers_of regs (lo ∷ hi ∷ by ∷ []))) ≡ true
    read =
        reads_assigned names kernel held p (opers_regs (opers_of regs (lo ∷ hi ∷ by ∷ [])))
        (scalars_assigned names kernel held b p t (lo ∷ hi ∷ by ∷ [])
        (numbers_scalar names (lo ∷ hi ∷ by ∷ []) numbers) bound)

    abbrev loop_body : Option (List (Join × ℕ)) → List Statement
    loop_body omp = loop_of regs counter (oper_of regs lo) (oper_of regs hi) (oper_of regs by) at omp body ∷ []

    pub loop_middle : (omp : Option (List (Join × ℕ))) → Mid depth (loop_body omp) p b b
    loop_middle None =
        let y : l.Statement-F Statement =
        l.For counter (oper_of regs lo) (oper_of regs hi) (oper_of regs by) at body in
        let rolls = v.rolls-For counter (oper_of regs lo) (oper_of regs hi) (oper_of regs by) at body in record {
          after = at_head;
          passes = one_passes kernel y _ rolls (mid depth) p (both (both read (both within refl)) inner_passes);
          flows = flow_by y _ rolls p ∙ head_is;
          follow = follow_head;
          more = λ n h. h;
        }
    loop_middle (Some pairs) =
        let y : l.Statement-F Statement =
        l.ParFor counter (oper_of regs lo) (oper_of regs hi) (oper_of regs by) at empty_guard
        (map (reduction_of regs) pairs) [] body in
        let rolls = v.rolls-ParFor counter (oper_of regs lo) (oper_of regs hi) (oper_of regs by) at empty_guard
        (map (reduction_of regs) pairs) [] body in record {
          after = at_head;
          passes = one_passes kernel y _ rolls (mid depth) p (both (both read (both within refl)) inner_passes);
          flows = flow_by y _ rolls p ∙ head_is;
          follow = follow_head;
          more = λ n h. h;
        }

    pub loop_closes : (omp : Option (List (Join × ℕ))) → closed (loop_body omp) ≡ loop_body omp ++ v.Return [] ∷ []
    loop_closes None =
        let y : l.Statement-F Statement =
        l.For counter (oper_of regs lo) (oper_of regs hi) (oper_of regs by) at body in
        let rolls = v.rolls-For counter (oper_of regs lo) (oper_of regs hi) (oper_of regs by) at body in
        ap (λ (s : Statement). (with_end s).1) (sym rolls) ∙
        (rolled y ∙ ap (λ (s : Statement). s ∷ v.Return [] ∷ []) rolls)
    loop_closes (Some pairs) =
        let y : l.Statement-F Statement =
        l.ParFor counter (oper_of regs lo) (oper_of regs hi) (oper_of regs by) at empty_guard
        (map (reduction_of regs) pairs) [] body in
        let rolls = v.rolls-ParFor counter (oper_of regs lo) (oper_of regs hi) (oper_of regs by) at empty_guard
        (map (reduction_of regs) pairs) [] body in
        ap (λ (s : Statement). (with_end s).1) (sym rolls) ∙
        (rolled y ∙ ap (λ (s : Statement). s ∷ v.Return [] ∷ []) rolls)

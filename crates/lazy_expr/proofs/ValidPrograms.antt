-- The plain form meets the conditions of loop programs: a kernel has no flaw, and neither has a module.
use Rattle.std.proofs.Common.{◌≡◌, ◌∙◌, ap, sym, subst, refl, ℕ, ◌+◌, Bool, true, false, not, ◌&&◌, ◌||◌, List, [], ◌∷◌}
use Rattle.std.proofs.Common.{◌++◌}
use Rattle.std.proofs.Common.{map, Option, Some, None}
use Rattle.std.specs.Prelude.{slice_get}
use Rattle.std.specs.List.{flat_map, list_all, list_any}
use Rattle.std.proofs.lemmas.List.{map-append}
use Rattle.std.proofs.lemmas.List.Folds.{list_all-append}
use Rattle.std.proofs.lemmas.Option.{get_or_from_slice_get, slice_get_within}
use Rattle.eager_rules.specs.Sound.{IsSound, IsWellTyped, head_of}
use Rattle.eager_rules.specs.Sound.{is_assigned as all_bound}
use Rattle.eager_rules.specs.declared.program.Instance.{Instance}
use Rattle.eager_rules.specs.declared.program.Program.{Program}
use Rattle.lazy_expr.specs.Plain.{plain_kernel}
use Rattle.lazy_expr.specs.Promise.{has_flat_kernels, has_ranked_params, is_flat, is_flat_at, kernel_at, plain_program}
use Rattle.lazy_expr.specs.Valid.{KeepsConditions, ProgramKeepsConditions, are_distinct, instance_at, is_shallow}
use Rattle.lazy_expr.specs.Valid.{same_heads}
use Rattle.lazy_expr.proofs.Binds.{and_left, and_right}
use Rattle.lazy_expr.proofs.ValidKernels.{kernel_local}
use Rattle.lazy_expr.proofs.ValidNames.{both}
use Rattle.lazy_expr.proofs.ValidRules.{keeps_local, keeps_paths}
use Rattle.lazy_expr.proofs.ValidStarts.{kernel_paths}
use Rattle.loop_prog.specs.Check.{broken_or, first_broken, first_flaw, flaw_or, kernel_findings, kernels_findings}
use Rattle.loop_prog.specs.Check.{same_head}
use Rattle.loop_prog.specs.declared.invalid.InvalidRule.{InvalidRule}
use Rattle.loop_prog.specs.declared.kept.Kept.{Kept}
use Rattle.loop_prog.specs.declared.program.Kernel.{Kernel}

-- ---- entries without a flaw
kept_goes : (b : Bool) (r : InvalidRule) (rest : Option InvalidRule) → b ≡ true → rest ≡ None →
    broken_or b r rest ≡ None
kept_goes b r rest p q = ap (λ (x : Bool). broken_or x r rest) p ∙ q

none_broken : (k : Kept) → keeps_local k ≡ true → keeps_paths k ≡ true → first_broken k ≡ None
none_broken k p q =
    let one = and_left (k.register && k.kind) (k.rank && k.template) p in
    let two = and_right (k.register && k.kind) (k.rank && k.template) p in
    let three = and_right k.assigned (k.nesting && k.returns) q in
    kept_goes k.register _ _ (and_left k.register k.kind one)
    (kept_goes k.kind _ _ (and_right k.register k.kind one)
    (kept_goes k.rank _ _ (and_left k.rank k.template two)
    (kept_goes k.assigned _ _ (and_left k.assigned (k.nesting && k.returns) q)
    (kept_goes k.template _ _ (and_right k.rank k.template two)
    (kept_goes k.nesting _ _ (and_left k.nesting k.returns three)
    (kept_goes k.returns _ _ (and_right k.nesting k.returns three) refl))))))

no_flaw : (found : List Kept) → list_all keeps_local found ≡ true → list_all keeps_paths found ≡ true → (n : ℕ) →
    first_flaw n found ≡ None
no_flaw [] p q n = refl
no_flaw (k ∷ found) p q n =
    ap (λ (o : Option InvalidRule). flaw_or n o (first_flaw (n + 1) found))
    (none_broken k (and_left (keeps_local k) (list_all keeps_local found) p)
    (and_left (keeps_paths k) (list_all keeps_paths found) q)) ∙
    no_flaw found (and_right (keeps_local k) (list_all keeps_local found) p)
    (and_right (keeps_paths k) (list_all keeps_paths found) q) (n + 1)

-- ---- a kernel of a sound program
module _ (program : Program) (number : ℕ) (f : Instance) (sound : IsSound program)
    (there : slice_get program.instances number ≡ Some f) (ranks : has_ranked_params f ≡ true)
    (flat : is_flat f ≡ true) (shallow : is_shallow f ≡ true) (earlier : List Kernel)
    (apart : list_any (same_head (plain_kernel f)) earlier ≡ false) where
  typed : IsWellTyped (map head_of program.instances) f
  typed =
      subst (IsWellTyped (map head_of program.instances))
      (get_or_from_slice_get program.instances number f f there)
      (sound.typed.instances number f (slice_get_within program.instances number f there))

  bound : all_bound f ≡ true
  bound =
      subst (λ (g : Instance). all_bound g ≡ true) (get_or_from_slice_get program.instances number f f there)
      (sound.assigned number f (slice_get_within program.instances number f there))

  pub kernel_kept : (list_all keeps_local (kernel_findings earlier (plain_kernel f)) ≡ true) ×
      (list_all keeps_paths (kernel_findings earlier (plain_kernel f)) ≡ true)
  kernel_kept = (
    kernel_local f (map head_of program.instances) typed ranks flat earlier apart,
    kernel_paths f (map head_of program.instances) typed ranks flat shallow bound earlier,
  )

pub keeps_conditions : (f : Instance) → is_flat f ≡ true → KeepsConditions f (plain_kernel f)
keeps_conditions f flat program number sound there ranks shallow earlier apart n =
    let kept = kernel_kept program number f sound there ranks flat shallow earlier apart in
    no_flaw (kernel_findings earlier (plain_kernel f)) kept.0 kept.1 n

-- ---- a module
abbrev AllKept : List Kept → Type 0
AllKept found = (list_all keeps_local found ≡ true) × (list_all keeps_paths found ≡ true)

kept_joined : (xs ys : List Kept) → AllKept xs → AllKept ys → AllKept (xs ++ ys)
kept_joined xs ys p q = (
  list_all-append keeps_local xs ys ∙ both p.0 q.0,
  list_all-append keeps_paths xs ys ∙ both p.1 q.1,
)

heads_mapped : (f : Instance) (gs : List Instance) →
    list_any (same_head (plain_kernel f)) (map plain_kernel gs) ≡ list_any (same_heads f) gs
heads_mapped f [] = refl
heads_mapped f (g ∷ gs) = ap (λ (b : Bool). same_head (plain_kernel f) (plain_kernel g) || b) (heads_mapped f gs)

not_true : (b : Bool) → not b ≡ true → b ≡ false
not_true false h = refl
not_true true h = sym h

head_apart : (f : Instance) (earlier : List Instance) → not (list_any (same_heads f) earlier) ≡ true →
    list_any (same_head (plain_kernel f)) (map plain_kernel earlier) ≡ false
head_apart f earlier h = heads_mapped f earlier ∙ not_true (list_any (same_heads f) earlier) h

module _ (program : Program) (sound : IsSound program) where
  abbrev instances_of : List ℕ → List Instance
  instances_of numbers = flat_map (λ n. instance_at (slice_get program.instances n)) numbers

  abbrev kernels_of : List ℕ → List Kernel
  kernels_of numbers = flat_map (λ n. kernel_at (slice_get program.instances n)) numbers

  abbrev Kept-Behind : List ℕ → Type 0
  Kept-Behind numbers =
      (earlier : List Instance) → are_distinct earlier (instances_of numbers) ≡ true →
      AllKept (kernels_findings (map plain_kernel earlier) (kernels_of numbers))

  -- one more kernel before others, where there is an instance
  one_kept : (number : ℕ) (numbers : List ℕ) (o : Option Instance) → slice_get program.instances number ≡ o →
      is_flat_at o ≡ true → list_all has_ranked_params (instance_at o ++ instances_of numbers) ≡ true →
      list_all is_shallow (instance_at o ++ instances_of numbers) ≡ true →
      (list_all has_ranked_params (instances_of numbers) ≡ true → list_all is_shallow (instances_of numbers) ≡ true →
      Kept-Behind numbers) →
      (earlier : List Instance) → are_distinct earlier (instance_at o ++ instances_of numbers) ≡ true →
      AllKept (kernels_findings (map plain_kernel earlier) (kernel_at o ++ kernels_of numbers))
  one_kept number numbers None there flat ranks shallow rest earlier distinct = rest ranks shallow earlier distinct
  one_kept number numbers (Some f) there flat ranks shallow rest earlier distinct =
      let others : Bool = are_distinct (earlier ++ f ∷ []) (instances_of numbers) in
      let apart = head_apart f earlier (and_left (not (list_any (same_heads f) earlier)) others distinct) in
      kept_joined (kernel_findings (map plain_kernel earlier) (plain_kernel f)) _
      (kernel_kept program number f sound there
      (and_left (has_ranked_params f) (list_all has_ranked_params (instances_of numbers)) ranks) flat
      (and_left (is_shallow f) (list_all is_shallow (instances_of numbers)) shallow) (map plain_kernel earlier) apart)
      (subst (λ (kernels : List Kernel). AllKept (kernels_findings kernels (kernels_of numbers)))
      (map-append plain_kernel earlier (f ∷ []))
      (rest (and_right (has_ranked_params f) (list_all has_ranked_params (instances_of numbers)) ranks)
      (and_right (is_shallow f) (list_all is_shallow (instances_of numbers)) shallow) (earlier ++ f ∷ [])
      (and_right (not (list_any (same_heads f) earlier)) others distinct)))

  all_kept : (numbers : List ℕ) → list_all (λ n. is_flat_at (slice_get program.instances n)) numbers ≡ true →
      list_all has_ranked_params (instances_of numbers) ≡ true → list_all is_shallow (instances_of numbers) ≡ true →
      Kept-Behind numbers
  all_kept [] flat ranks shallow earlier distinct = (refl, refl)
  all_kept (number ∷ numbers) flat ranks shallow earlier distinct =
      let here : Bool = is_flat_at (slice_get program.instances number) in
      let left : Bool = list_all (λ n. is_flat_at (slice_get program.instances n)) numbers in
      one_kept number numbers (slice_get program.instances number) refl (and_left here left flat) ranks shallow
      (λ r s. all_kept numbers (and_right here left flat) r s) earlier distinct

  pub program_conditions : has_flat_kernels program ≡ true → ProgramKeepsConditions program (plain_program program)
  program_conditions flat ranks shallow distinct =
      let kept = all_kept program.kernels flat ranks shallow [] distinct in
      no_flaw (kernels_findings [] (plain_program program).kernels) kept.0 kept.1 0

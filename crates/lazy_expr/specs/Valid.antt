-- That the plain form meets the conditions of loop programs: for one kernel, and for a module.
use Rattle.std.specs.Prelude.{◌≡◌, ◌&&◌, ◌++◌, ◌+◌, ℕ, Bool, true, false, not, List, [], ◌∷◌, Option, Some, None, map}
use Rattle.std.specs.Prelude.{nat_lt, slice_get}
use Rattle.std.specs.List.{flat_map, list_all, list_any}
use Rattle.std.specs.Str.{bytes_eq}
use Rattle.krn_base.specs.declared.kind.ParamType.{ParamType}
use Rattle.eager_rules.specs.Sound.{IsSound}
use Rattle.eager_rules.specs.declared.program.Core.{Core}
use Rattle.eager_rules.specs.declared.program.Core.TheOpen as c
use Rattle.eager_rules.specs.declared.program.Core.TheFolds.{fold-Core}
use Rattle.eager_rules.specs.declared.program.Instance.{Instance}
use Rattle.eager_rules.specs.declared.program.Program.{Program}
use Rattle.lazy_expr.specs.Promise.{has_ranked_params}
use Rattle.loop_prog.specs.Check.{first_flaw, flaw_of, kernel_findings, same_head, same_params}
use Rattle.loop_prog.specs.declared.program.Kernel.{Kernel}
use Rattle.loop_prog.specs.declared.program.LoopProgram.{LoopProgram}

-- No statement with blocks stands in more than 127 others.
abbrev pub shallow_step : c.Core-F (ℕ → Bool) → ℕ → Bool
shallow_step (c.If cond part other) depth =
    nat_lt depth 128 && (list_all (λ fits. fits (depth + 1)) part && list_all (λ fits. fits (depth + 1)) other)
shallow_step (c.For var lo hi by at omp body) depth = nat_lt depth 128 && list_all (λ fits. fits (depth + 1)) body
shallow_step _ depth = true

abbrev pub is_shallow_at : ℕ → Core → Bool
is_shallow_at depth core = fold-Core (ℕ → Bool) shallow_step core depth

abbrev pub is_shallow : Instance → Bool
is_shallow f = list_all (is_shallow_at 0) f.body

-- A kernel has no flaw, whatever number its first statement has, and behind whatever kernels with other heads it
-- stands.
abbrev pub KeepsConditions : Instance → Kernel → Type 0
KeepsConditions f kernel =
    (program : Program) (number : ℕ) → IsSound program → slice_get program.instances number ≡ Some f →
    has_ranked_params f ≡ true → is_shallow f ≡ true → (earlier : List Kernel) →
    list_any (same_head kernel) earlier ≡ false → (n : ℕ) → first_flaw n (kernel_findings earlier kernel) ≡ None

-- ---- a module
-- the instances of a program's kernels, in order
abbrev pub instance_at : Option Instance → List Instance
instance_at None = []
instance_at (Some f) = f ∷ []

abbrev pub kernel_instances : Program → List Instance
kernel_instances program = flat_map (λ number. instance_at (slice_get program.instances number)) program.kernels

abbrev pub types_of_instance : Instance → List ParamType
types_of_instance f = map (λ p. p.1) f.params

abbrev pub same_heads : Instance → Instance → Bool
same_heads f g = bytes_eq f.name g.name && same_params (types_of_instance f) (types_of_instance g)

-- instances of which none has the head of an earlier one
abbrev pub are_distinct : List Instance → List Instance → Bool
are_distinct earlier [] = true
are_distinct earlier (f ∷ rest) = not (list_any (same_heads f) earlier) && are_distinct (earlier ++ f ∷ []) rest

-- The loop program has no flaw where each array parameter of a kernel has a dimension, no statement of a kernel stands
-- too deep, and no two kernels have one name and the same parameter types.
abbrev pub ProgramKeepsConditions : Program → LoopProgram → Type 0
ProgramKeepsConditions program loops =
    list_all has_ranked_params (kernel_instances program) ≡ true →
    list_all is_shallow (kernel_instances program) ≡ true → are_distinct [] (kernel_instances program) ≡ true →
    flaw_of loops ≡ None

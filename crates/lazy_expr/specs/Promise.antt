-- What the plain form keeps, and the plain form of a whole module.
use Rattle.std.specs.Prelude.{◌≡◌, ◌&&◌, ℕ, Bool, true, false, nat_lt, List, [], ◌∷◌, length, map, slice_get}
use Rattle.std.specs.Prelude.{Option, Some, None}
use Rattle.std.specs.List.{flat_map, list_all}
use Rattle.krn_base.specs.declared.kind.ParamType.{ParamType}
use Rattle.krn_base.specs.declared.kind.ParamType.TheVariants.{Scalar, Flat, Strided}
use Rattle.eager_rules.specs.Kept.{FitsInstance, IsKernel}
use Rattle.eager_rules.specs.Outcome.{instance_outcome, outcome_of}
use Rattle.eager_rules.specs.Sound.{IsSound}
use Rattle.eager_rules.specs.Statements.{calls_of}
use Rattle.eager_rules.specs.declared.call.Call.{Call}
use Rattle.eager_rules.specs.declared.program.Instance.{Instance}
use Rattle.eager_rules.specs.declared.program.Program.{Program}
use Rattle.lazy_expr.specs.Plain.{plain_kernel}
use Rattle.loop_prog.specs.Serial.{kernel_outcome, serial}
use Rattle.loop_prog.specs.declared.program.Kernel.{Kernel}
use Rattle.loop_prog.specs.declared.program.LoopProgram.{LoopProgram}

-- an array has a dimension; a parameter that is an array without one has no register in a loop program
abbrev pub is_ranked : ParamType → Bool
is_ranked (Scalar kind) = true
is_ranked (Flat kind rank) = nat_lt 0 rank
is_ranked (Strided kind rank) = nat_lt 0 rank

abbrev pub has_ranked_params : Instance → Bool
has_ranked_params f = list_all is_ranked (map (λ p. p.1) f.params)

-- For each call that fits, a kernel gives the outcome of eager evaluation of the instance, in whatever sound program it
-- stands: the values, the final buffers, and the fault with its place.
abbrev pub KeepsOutcomes : Instance → Kernel → Type 0
KeepsOutcomes f kernel =
    (program : Program) (number : ℕ) → IsSound program → slice_get program.instances number ≡ Some f →
    has_ranked_params f ≡ true → (call : Call) → FitsInstance f call →
    (kernel_outcome kernel call).0 ≡ instance_outcome program.instances (length program.instances) f call

-- whether a list has no item
abbrev pub is_none : {A : Type 0} → List A → Bool
is_none [] = true
is_none (x ∷ xs) = false

-- an instance that calls none
abbrev pub is_flat : Instance → Bool
is_flat f = is_none (calls_of f.body)

abbrev pub is_flat_at : Option Instance → Bool
is_flat_at None = true
is_flat_at (Some f) = is_flat f

abbrev pub is_flat_number : Program → ℕ → Bool
is_flat_number program number = is_flat_at (slice_get program.instances number)

-- no kernel of a program calls an own function
abbrev pub has_flat_kernels : Program → Bool
has_flat_kernels program = list_all (is_flat_number program) program.kernels

abbrev pub kernel_at : Option Instance → List Kernel
kernel_at None = []
kernel_at (Some f) = plain_kernel f ∷ []

-- the plain form of a module: one kernel for each kernel of the program, in order
abbrev pub plain_program : Program → LoopProgram
plain_program program =
    record { kernels = flat_map (λ number. kernel_at (slice_get program.instances number)) program.kernels }

-- For each kernel and each call that fits it, the loop program gives the outcome of eager evaluation.
abbrev pub ProgramKeepsOutcomes : Program → LoopProgram → Type 0
ProgramKeepsOutcomes program loops =
    (kernel : ℕ) (f : Instance) → IsKernel program kernel f → has_ranked_params f ≡ true → (call : Call) →
    FitsInstance f call →
    (serial loops kernel call).0 ≡ outcome_of program kernel call

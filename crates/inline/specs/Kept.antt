-- What the flat form keeps of a program.
use Rattle.std.specs.Prelude.{◌≡◌, ℕ, Bool, true, nat_lt, map}
use Rattle.std.specs.List.{list_all}
use Rattle.krn_base.specs.declared.kind.ParamType.{ParamType}
use Rattle.krn_base.specs.declared.kind.ParamType.TheVariants.{Scalar, Flat, Strided}
use Rattle.eager_rules.specs.Kept.{FitsInstance, IsKernel}
use Rattle.eager_rules.specs.Outcome.{outcome_of}
use Rattle.eager_rules.specs.declared.call.Call.{Call}
use Rattle.eager_rules.specs.declared.program.Instance.{Instance}
use Rattle.eager_rules.specs.declared.program.Program.{Program}

-- an array has a dimension
abbrev pub is_ranked : ParamType → Bool
is_ranked (Scalar kind) = true
is_ranked (Flat kind rank) = nat_lt 0 rank
is_ranked (Strided kind rank) = nat_lt 0 rank

abbrev pub has_ranked_params : Instance → Bool
has_ranked_params f = list_all is_ranked (map (λ p. p.1) f.params)

-- Another program's kernels have the outcomes of a program's, for each call that fits: the values, the final buffers,
-- and the fault with its place.
abbrev pub HasOutcomes : Program → Program → Type 0
HasOutcomes program other =
    (kernel : ℕ) (f : Instance) → IsKernel program kernel f → (call : Call) → FitsInstance f call →
    outcome_of other kernel call ≡ outcome_of program kernel call

-- the same where each array among the parameters has a dimension
abbrev pub RankedOutcomes : Program → Program → Type 0
RankedOutcomes program other =
    (kernel : ℕ) (f : Instance) → IsKernel program kernel f → has_ranked_params f ≡ true → (call : Call) →
    FitsInstance f call →
    outcome_of other kernel call ≡ outcome_of program kernel call

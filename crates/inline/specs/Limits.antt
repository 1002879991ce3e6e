-- The limits of a module's kernels: they weigh 20,000 tokens together, and each is 128 blocks deep. (The limits are
-- this project's own.)
use Rattle.std.specs.Prelude.{ℕ, ◌+◌, nat_lt, List, [], ◌∷◌, map, slice_get, Option, Some, None, option_map}
use Rattle.std.specs.List.{position}
use Rattle.krn_base.specs.declared.place.Loc.{Loc}
use Rattle.krn_base.specs.declared.refusal.Refusal.{Refusal}
use Rattle.krn_base.specs.declared.refusal.Rule.TheVariants.{TooLarge, TooDeep}
use Rattle.export_sig.specs.declared.signature.Signature.{Signature}
use Rattle.eager_rules.specs.declared.program.Program.{Program}
use Rattle.inline.specs.Counts.{Count, count_of, depth, weight}

-- each kernel's count, in order
abbrev pub kernel_counts : Count → Program → List ℕ
kernel_counts count program = map (count_of count program) program.kernels

-- what the first number comes to, the first two, the first three and on, behind what stands before them
abbrev pub sums_from : ℕ → List ℕ → List ℕ
sums_from before [] = []
sums_from before (n ∷ ns) = (before + n) ∷ sums_from (before + n) ns

-- which is the first above a limit
abbrev pub first_above : ℕ → List ℕ → Option ℕ
first_above limit ns = position (λ n. nat_lt limit n) ns

-- the first kernel with which the kernels are too heavy, and the first that is too deep
abbrev pub too_large : Program → Option ℕ
too_large program = first_above 20000 (sums_from 0 (kernel_counts weight program))

abbrev pub too_deep : Program → Option ℕ
too_deep program = first_above 128 (kernel_counts depth program)

-- the place of a kernel's export note
abbrev pub note_at : List Signature → Option ℕ → Option Loc
note_at signatures None = None
note_at signatures (Some at) = option_map (λ s. s.loc) (slice_get signatures at)

-- The weights of all kernels are tested before the first depth.
abbrev pub refusal_by : Option Loc → Option Loc → Option Refusal
refusal_by (Some note) deep = Some (record { rule = TooLarge; loc = note })
refusal_by None (Some note) = Some (record { rule = TooDeep; loc = note })
refusal_by None None = None

abbrev pub refusal : Program → List Signature → Option Refusal
refusal program signatures =
    refusal_by (note_at signatures (too_large program)) (note_at signatures (too_deep program))

-- What a call of a program's kernel gives and counts, and what is served so far.
use Rattle.std.specs.Prelude.{ℕ, List, [], map, length, replicate, slice_get, Option, Some, None}
use Rattle.krn_base.specs.declared.place.Loc.{Loc}
use Rattle.view_places.specs.declared.shape.Array.{Array}
use Rattle.array_ops.specs.Elements.{Bound, Unbound}
use Rattle.eager_rules.specs.Eager.{block, calls_at, entered}
use Rattle.eager_rules.specs.Outcome.{ended}
use Rattle.eager_rules.specs.declared.outcome.Counts.{Counts}
use Rattle.eager_rules.specs.declared.outcome.Outcome.{Outcome}
use Rattle.eager_rules.specs.declared.program.Instance.{Instance}
use Rattle.eager_rules.specs.declared.program.Program.{Program}
use Rattle.export_sig.specs.declared.directive.Directive.{Directive}
use Rattle.loop_prog.specs.Serial.{block as loop_block, no_counts, param_regs, types_of_params}
use Rattle.loop_prog.specs.State.{State, bind_all}
use Rattle.loop_prog.specs.declared.program.Kernel.{Kernel}
use Rattle.loop_prog.specs.declared.program.LoopProgram.{LoopProgram}

-- ---- calls

-- what evaluating the kernel with this number gives, on buffers that hold these arrays and arguments that stand for
-- these: `outcome_of` by what a call stands for, which has no strides
abbrev pub outcome_in : List Instance → List Array → List Bound → Option Instance → Outcome
outcome_in instances arrays args None = record { ret = []; buffers = map (λ a. a.words) arrays; fault = None }
outcome_in instances arrays args (Some f) =
    ended f.rets (length arrays)
    (block (calls_at instances (length instances)) f.body (entered f args (map (λ a. a.words) arrays)))

abbrev pub outcome_at : List Instance → List Array → List Bound → Option ℕ → Outcome
outcome_at instances arrays args None = outcome_in instances arrays args None
outcome_at instances arrays args (Some number) = outcome_in instances arrays args (slice_get instances number)

abbrev pub outcome_on : Program → ℕ → List Array → List Bound → Outcome
outcome_on program kernel arrays args = outcome_at program.instances arrays args (slice_get program.kernels kernel)

-- what a run of the kernel's loop program counts, on buffers that hold these arrays and arguments that stand for these:
-- the counts of `serial` by what a call stands for
abbrev pub loop_state : Kernel → List Array → List Bound → State
loop_state kernel arrays args =
    bind_all (param_regs 0 0 (types_of_params kernel)) args
    (record {
      words = replicate (length kernel.regs) Unbound;
      views = replicate (length kernel.views) Unbound;
      buffers = map (λ a. a.words) arrays;
      counts = no_counts;
    })

abbrev pub counts_in : List Array → List Bound → Option Kernel → Counts
counts_in arrays args None = no_counts
counts_in arrays args (Some kernel) =
    (loop_block kernel.regs kernel.body (loop_state kernel arrays args)).0.counts

abbrev pub counts_on : LoopProgram → ℕ → List Array → List Bound → Counts
counts_on loops kernel arrays args = counts_in arrays args (slice_get loops.kernels kernel)

-- ---- the places of what isn't served

abbrev pub directive_mark : Directive → Option Loc
directive_mark directive = Some directive.loc

-- directives, by their notes
abbrev pub unserved : List Directive → List (Option Loc)
unserved directives = map directive_mark directives

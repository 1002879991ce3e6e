-- How a call's arguments come into registers, and which statements the executor runs.
use Rattle.std.specs.Prelude.{◌&&◌, Bool, true, false, List, [], ◌∷◌, map}
use Rattle.std.specs.List.{list_all}
use Rattle.eager_rules.specs.declared.outcome.Counts.{Counts}
use Rattle.eager_rules.specs.declared.outcome.Outcome.{Outcome}
use Rattle.loop_prog.specs.declared.program.Kernel.{Kernel}
use Rattle.loop_exec.specs.declared.ran.Ran.{Ran}
use Rattle.krn_base.specs.declared.kind.ParamType.{ParamType}
use Rattle.krn_base.specs.declared.kind.ParamType.TheVariants.{Scalar, Flat, Strided}
use Rattle.eager_rules.specs.Small.{all_true}
use Rattle.eager_rules.specs.declared.call.Arg.{Arg}
use Rattle.eager_rules.specs.declared.call.Arg.TheVariants as arg
use Rattle.loop_prog.specs.Conditions.{small_word, steps_fit}
use Rattle.loop_prog.specs.declared.program.Statement.{Statement}
use Rattle.loop_prog.specs.declared.program.Statement.TheOpen as l
use Rattle.loop_prog.specs.declared.program.Statement.TheFolds.{fold-Statement}

-- words for scalar parameters and views for array ones, one for each
abbrev pub are_alike : List ParamType → List Arg → Bool
are_alike [] [] = true
are_alike [] (x ∷ xs) = false
are_alike (type ∷ types) [] = false
are_alike (Scalar kind ∷ types) (arg.Word z ∷ xs) = are_alike types xs
are_alike (Scalar kind ∷ types) (arg.Array v ∷ xs) = false
are_alike (Flat kind n ∷ types) (arg.Word z ∷ xs) = false
are_alike (Flat kind n ∷ types) (arg.Array v ∷ xs) = are_alike types xs
are_alike (Strided kind n ∷ types) (arg.Word z ∷ xs) = false
are_alike (Strided kind n ∷ types) (arg.Array v ∷ xs) = are_alike types xs

-- Exponents and templates are within their limits, and there is no parallel loop.
abbrev pub runnable_step : l.Statement-F Bool → Bool
runnable_step (l.Set to op args at) = small_word op
runnable_step (l.Nest to template at) = steps_fit template.steps
runnable_step (l.Fold to join template at) = steps_fit template.steps
runnable_step (l.If cond part other) = all_true part && all_true other
runnable_step (l.For var lo hi by at body) = all_true body
runnable_step (l.ParFor var lo hi by at guard reductions privates body) = false
runnable_step _ = true

abbrev pub is_runnable : Statement → Bool
is_runnable = fold-Statement Bool runnable_step

abbrev pub all_runnable : List Statement → Bool
all_runnable body = all_true (map is_runnable body)

abbrev pub kernels_runnable : List Kernel → Bool
kernels_runnable kernels = list_all (λ k. all_runnable k.body) kernels

-- what a run gives, as a pair
abbrev pub of_run : Ran → Outcome × Counts
of_run r = (r.outcome, r.counts)

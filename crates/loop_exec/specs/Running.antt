-- What the executor's own values stand for.
use Rattle.std.specs.Prelude.{ℤ, List, [], ◌∷◌, Option, Some, None, Result, Ok, Err}
use Rattle.eager_rules.specs.Blocks.{End, GoesOn, Returned, Faulted, Stuck}
use Rattle.eager_rules.specs.Running.{meanings}
use Rattle.eager_rules.specs.Works.{Done, numbers_from}
use Rattle.eager_rules.specs.Works.{Made as MadeOf, Failed as FailedBy, Blocked as BlockedAt}
use Rattle.loop_prog.specs.State.{State}
use Rattle.loop_exec.specs.Banks.{state_of, view_bound, word_bound}
use Rattle.loop_exec.specs.declared.running.Ending.{Ending}
use Rattle.loop_exec.specs.declared.running.Ending.TheVariants as ending
use Rattle.loop_exec.specs.declared.running.Running.{Running}
use Rattle.loop_exec.specs.declared.running.Trouble.{Trouble}
use Rattle.loop_exec.specs.declared.running.Trouble.TheVariants as trouble
use Rattle.view_places.specs.declared.view.View.{View}
use Rattle.loop_exec.specs.declared.turns.Turns.{Turns}

abbrev pub reached : Running → State
reached run = state_of run.counts run.bank

abbrev pub end_of : Ending → End
end_of ending.GoesOn = GoesOn
end_of (ending.Returned values) = Returned (meanings values)
end_of (ending.Faulted fault at) = Faulted fault at
end_of ending.Stuck = Stuck

abbrev pub troubled : List (List ℤ) → Trouble → Done
troubled buffers (trouble.Failed fault at) = FailedBy buffers fault at
troubled buffers trouble.Blocked = BlockedAt buffers

-- what work comes to, with the buffers as it leaves them
abbrev pub word_done : List (List ℤ) → Result (Option ℤ) Trouble → Done
word_done buffers (Ok x) = MadeOf buffers (word_bound x ∷ [])
word_done buffers (Err e) = troubled buffers e

abbrev pub view_done : List (List ℤ) → Result (Option View) Trouble → Done
view_done buffers (Ok x) = MadeOf buffers (view_bound x ∷ [])
view_done buffers (Err e) = troubled buffers e

abbrev pub nothing_done : List (List ℤ) → Result (Unit {0}) Trouble → Done
nothing_done buffers (Ok u) = MadeOf buffers []
nothing_done buffers (Err e) = troubled buffers e

-- the numbers of a range that are left
abbrev pub numbers_of : Turns → List ℤ
numbers_of t = numbers_from t.most t.next t.hi t.step

-- what there was before the next number was taken
abbrev pub taken : Option ℤ → List ℤ → List ℤ
taken None rest = []
taken (Some z) rest = z ∷ rest

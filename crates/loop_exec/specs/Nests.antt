-- What a nest leaves.
use Rattle.krn_base.specs.declared.fault.Fault.TheVariants.{ValueError}
use Rattle.krn_base.specs.declared.place.Loc.{Loc}
use Rattle.eager_rules.specs.Blocks.{End, Faulted, GoesOn}
use Rattle.eager_rules.specs.declared.outcome.Counts.{Counts}
use Rattle.loop_prog.specs.State.{State, count_nest}
use Rattle.loop_exec.specs.Banks.{state_of}
use Rattle.loop_exec.specs.declared.bank.Bank.{Bank}
use Rattle.loop_exec.specs.declared.nested.Nested.{Nested}
use Rattle.loop_exec.specs.declared.nested.Nested.TheVariants.{Direct, Temporary, Unfit}
use Rattle.std.specs.Prelude.{Bool, true, false}

-- the state and the end behind a nest at a place, which is counted where it ran
abbrev pub behind : Nested → Loc → Counts → Bank → State × End
behind Direct at counts bank = (state_of (count_nest false counts) bank, GoesOn)
behind Temporary at counts bank = (state_of (count_nest true counts) bank, GoesOn)
behind Unfit at counts bank = (state_of counts bank, Faulted ValueError at)

-- how a nest ends, by whether its leaves spread and whether one of them clashes
abbrev pub nested_by : Bool → Bool → Nested
nested_by false clash = Unfit
nested_by true true = Temporary
nested_by true false = Direct

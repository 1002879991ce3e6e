-- Which programs may run, and what is answered for one that may not.
use Rattle.std.specs.Prelude.{◌≡◌, ℕ, true, Option, Some, None, Result, Ok, Err}
use Rattle.krn_base.specs.declared.place.Loc.{Loc}
use Rattle.krn_base.specs.declared.refusal.Refusal.{Refusal}
use Rattle.krn_base.specs.declared.refusal.Rule.TheVariants.{LoopForm}
use Rattle.krn_base.specs.declared.refusal.Stop.{Stop}
use Rattle.krn_base.specs.declared.refusal.Stop.TheVariants as ends
use Rattle.loop_prog.specs.Check.{flaw_of}
use Rattle.loop_prog.specs.declared.invalid.CheckStop.{CheckStop}
use Rattle.loop_prog.specs.declared.invalid.CheckStop.TheVariants as stop
use Rattle.loop_prog.specs.declared.invalid.InvalidRule.{InvalidRule}
use Rattle.loop_prog.specs.declared.invalid.InvalidRule.TheVariants as rule
use Rattle.loop_prog.specs.declared.program.LoopProgram.{LoopProgram}
use Rattle.omp_loops.specs.Loops.{loop_of}
use Rattle.omp_loops.specs.Serial.{kernels_serial}

pub record IsValid (program : LoopProgram) : Type 0 where
  pub checked : flaw_of program ≡ None
  pub serial : kernels_serial program.kernels ≡ true

-- the refusal of a program that the check takes: its first parallel loop, at the loop's place
abbrev pub refusal_of : Option (ℕ × Loc) → Option Refusal
refusal_of None = None
refusal_of (Some (n, at)) = Some (record { rule = LoopForm; loc = at })

-- what placing the loops of a program comes to
abbrev pub IsPlaced : LoopProgram → Result LoopProgram Stop → Type 0
IsPlaced program (Ok valid) = (valid ≡ program) × (loop_of program ≡ None)
IsPlaced program (Err (ends.Refused refusal)) = refusal_of (loop_of program) ≡ Some refusal
IsPlaced program (Err ends.Memory) = Unit {0}

-- the check's flaw; where it has none, the first parallel loop by its number
abbrev pub flaw_or_loop : Option (ℕ × InvalidRule) → Option (ℕ × Loc) → Option (ℕ × InvalidRule)
flaw_or_loop (Some flaw) loop = Some flaw
flaw_or_loop None None = None
flaw_or_loop None (Some (n, at)) = Some (n, rule.Loop)

abbrev pub fault_of : LoopProgram → Option (ℕ × InvalidRule)
fault_of program = flaw_or_loop (flaw_of program) (loop_of program)

-- what the validation of a program comes to
abbrev pub IsValidated : LoopProgram → Result LoopProgram CheckStop → Type 0
IsValidated program (Ok valid) = (valid ≡ program) × (fault_of program ≡ None)
IsValidated program (Err (stop.Invalid at broken)) = fault_of program ≡ Some (at, broken)
IsValidated program (Err stop.Memory) = Unit {0}

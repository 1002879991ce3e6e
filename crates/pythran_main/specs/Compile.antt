-- What compiling a module's text gives: one loop program that keeps what each call of a kernel gives, or a refusal.
use Rattle.std.specs.Prelude.{◌≡◌, ℕ, List, None, Result, Ok, Err}
use Rattle.krn_base.specs.declared.refusal.Stop.{Stop}
use Rattle.krn_base.specs.declared.refusal.Stop.TheVariants as stop
use Rattle.lazy_expr.specs.Promise.{ProgramKeepsOutcomes, plain_program}
use Rattle.loop_prog.specs.Check.{flaw_of}
use Rattle.loop_prog.specs.declared.program.LoopProgram.{LoopProgram}
use Rattle.pythran_main.specs.Reading.{IsOneReading}
use Rattle.pythran_main.specs.declared.flattening.Flattened.{Flattened}

-- the plain form of a program's flat form, which breaks no rule of loop programs and has the outcome of eager
-- evaluation of the program for each call that fits
abbrev pub IsForm : Flattened → LoopProgram → Type 0
IsForm found loops =
    (loops ≡ plain_program found.flat) × ((flaw_of loops ≡ None) × ProgramKeepsOutcomes found.program loops)

-- A text is compiled as each command reads it.
abbrev pub IsCompiled : List ℕ → Result LoopProgram Stop → Type 0
IsCompiled source (Ok loops) =
    (found : Flattened) × (IsOneReading source (Ok found) × IsForm found loops)
IsCompiled source (Err (stop.Refused r)) = IsOneReading source (Err r)
IsCompiled source (Err stop.Memory) = Unit {0}

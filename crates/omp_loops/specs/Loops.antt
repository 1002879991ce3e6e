-- The first parallel loop of a program: its number among all statements in the order of lines, and its place.
use Rattle.std.specs.Prelude.{ℕ, ◌+◌, List, [], ◌∷◌, Option, Some, None}
use Rattle.std.specs.List.{flat_map}
use Rattle.krn_base.specs.declared.place.Loc.{Loc}
use Rattle.loop_prog.specs.Statements.{statements}
use Rattle.loop_prog.specs.declared.program.Kernel.{Kernel}
use Rattle.loop_prog.specs.declared.program.LoopProgram.{LoopProgram}
use Rattle.loop_prog.specs.declared.program.Statement.{Statement, out-Statement}
use Rattle.loop_prog.specs.declared.program.Statement.TheOpen as l

-- the place of a parallel loop
abbrev pub place_of : {A : Type 0} → l.Statement-F A → Option Loc
place_of (l.ParFor var lo hi by at guard reductions privates body) = Some at
place_of _ = None

abbrev pub loop_or : ℕ → Option Loc → Option (ℕ × Loc) → Option (ℕ × Loc)
loop_or n None rest = rest
loop_or n (Some at) rest = Some (n, at)

-- the first parallel loop of a list of statements that are numbered from n on
abbrev pub first_loop : ℕ → List Statement → Option (ℕ × Loc)
first_loop n [] = None
first_loop n (s ∷ rest) = loop_or n (place_of (out-Statement s)) (first_loop (n + 1) rest)

-- all statements of kernels, those in blocks too
abbrev pub all_statements : List Kernel → List Statement
all_statements kernels = flat_map (λ k. statements k.body) kernels

-- The first parallel loop of a program.
abbrev pub loop_of : LoopProgram → Option (ℕ × Loc)
loop_of program = first_loop 0 (all_statements program.kernels)

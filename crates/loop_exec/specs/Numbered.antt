-- The statement with a number, and a nest by its number.
use Rattle.std.specs.Prelude.{◌≡◌, ℕ, List, Bool, true, false, slice_get, Option, Some, None}
use Rattle.std.specs.List.{flat_map, list_all}
use Rattle.array_ops.specs.Elements.{extents_of, spreads_to}
use Rattle.eager_rules.specs.Blocks.{End, GoesOn}
use Rattle.eager_rules.specs.Works.{array_in}
use Rattle.loop_prog.specs.Conditions.{steps_fit}
use Rattle.loop_prog.specs.Serial.{meaning}
use Rattle.loop_prog.specs.State.{State, view}
use Rattle.loop_prog.specs.Statements.{statements}
use Rattle.loop_prog.specs.Templates.{leaf_values, some_clash}
use Rattle.loop_prog.specs.declared.program.Kernel.{Kernel}
use Rattle.loop_prog.specs.declared.program.Statement.{Statement, out-Statement}
use Rattle.loop_prog.specs.declared.program.Statement.TheOpen as l
use Rattle.loop_prog.specs.declared.program.TemplateStep.{TemplateStep}

abbrev pub statement_at : Kernel → ℕ → Option Statement
statement_at kernel at = slice_get (statements kernel.body) at

-- whether the leaves of a template spread to the shape of a view register
abbrev pub leaves_spread : ℕ → List TemplateStep → State → Bool
leaves_spread to steps t =
    list_all (λ from. spreads_to from (array_in (view t to)).extents) (flat_map extents_of (leaf_values t.views steps))

-- whether one of them clashes with it
abbrev pub leaves_clash : ℕ → List TemplateStep → State → Bool
leaves_clash to steps t = some_clash (array_in (view t to)) (leaf_values t.views steps)

-- a nest of a checked template whose leaves spread
abbrev pub IsReadyNest : {A : Type 0} → l.Statement-F A → State → Type 0
IsReadyNest (l.Nest to template at) t = (steps_fit template.steps ≡ true) × (leaves_spread to template.steps t ≡ true)
IsReadyNest _ t = ⊥

-- whether some verdict of a nest is Clash
abbrev pub clash_in : {A : Type 0} → l.Statement-F A → State → Bool
clash_in (l.Nest to template at) t = leaves_clash to template.steps t
clash_in _ t = false

-- the statement with this number is such a nest
abbrev pub IsNestIn : Option Statement → State → Type 0
IsNestIn None t = ⊥
IsNestIn (Some s) t = IsReadyNest (out-Statement s) t

abbrev pub IsNestAt : Kernel → ℕ → State → Type 0
IsNestAt kernel at t = IsNestIn (statement_at kernel at) t

abbrev pub clash_of : Option Statement → State → Bool
clash_of None t = false
clash_of (Some s) t = clash_in (out-Statement s) t

abbrev pub clash_at : Kernel → ℕ → State → Bool
clash_at kernel at t = clash_of (statement_at kernel at) t

-- what it does
abbrev pub does : Kernel → Option Statement → State → State × End
does kernel None t = (t, GoesOn)
does kernel (Some s) t = meaning kernel.regs s t

abbrev pub does_at : Kernel → ℕ → State → State × End
does_at kernel at t = does kernel (statement_at kernel at) t

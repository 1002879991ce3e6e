-- Which registers are assigned wherever a path comes to a place. A list of tests has one for each register: those of
-- scalar ones at the even places, those of view ones at the odd ones. Where no path comes, as behind a Return, the
-- place isn't reached, and nothing is asked.
use Rattle.std.specs.Prelude.{ℕ, ◌+◌, ◌*◌, ◌&&◌, Bool, true, false, max, List, [], ◌∷◌, map, length, replicate}
use Rattle.std.specs.Prelude.{slice_index_or, slice_set, not, ◌||◌, if◌then◌else◌}
use Rattle.std.specs.List.{list_all, zip}
use Rattle.loop_prog.specs.Serial.{param_regs, types_of_params}
use Rattle.loop_prog.specs.Statements.{binds_of}
use Rattle.loop_prog.specs.declared.paths.Paths.{Paths}
use Rattle.loop_prog.specs.declared.program.Kernel.{Kernel}
use Rattle.loop_prog.specs.declared.program.Reg.{Reg}
use Rattle.loop_prog.specs.declared.program.Reg.TheVariants as reg
use Rattle.loop_prog.specs.declared.program.Statement.{Statement}
use Rattle.loop_prog.specs.declared.program.Statement.TheOpen as l
use Rattle.loop_prog.specs.declared.program.Statement.TheFolds.{fold-Statement}

-- the place of a register's test
abbrev pub slot : Reg → ℕ
slot (reg.Word r) = 2 * r
slot (reg.View v) = 2 * v + 1

abbrev pub is_assigned : Paths → Reg → Bool
is_assigned paths register = slice_index_or paths.slots (slot register) false

abbrev pub all_assigned : Paths → List Reg → Bool
all_assigned paths registers = not paths.reached || list_all (is_assigned paths) registers

abbrev pub with_slot : ℕ → Bool → Paths → Paths
with_slot n assigned paths = record { reached = paths.reached; slots = slice_set paths.slots n assigned }

abbrev pub assign : List Reg → Paths → Paths
assign [] paths = paths
assign (register ∷ rest) paths = assign rest (with_slot (slot register) true paths)

abbrev pub both_slots : List Bool → List Bool → List Bool
both_slots slots others = map (λ p. p.0 && p.1) (zip slots others)

abbrev pub both_paths : Paths → Paths → Paths
both_paths paths others = record { reached = paths.reached; slots = both_slots paths.slots others.slots }

-- where two paths meet
abbrev pub meet : Paths → Paths → Paths
meet paths others =
    if not others.reached then paths
    else (if not paths.reached then others
    else both_paths paths others)

abbrev pub Flow : Type 0
Flow = Paths → Paths

-- statements one after another
abbrev pub in_flow : List Flow → Flow
in_flow [] paths = paths
in_flow (first ∷ rest) paths = in_flow rest (first paths)

-- What is assigned at a loop's head: what was before it, and still is behind each turn. From there the body begins,
-- with the variable assigned, and the loop ends.
abbrev pub kept_by : Paths → Paths → Paths
kept_by paths behind = if not behind.reached then paths else both_paths paths behind

abbrev pub head : ℕ → Flow → Flow
head var body paths = kept_by paths (body (assign (reg.Word var ∷ []) paths))

abbrev pub body_start : ℕ → Flow → Flow
body_start var body paths = assign (reg.Word var ∷ []) (head var body paths)

-- A statement, by those of its blocks. A parallel loop counts as a loop.
abbrev pub flow_step : l.Statement-F Flow → Flow
flow_step (l.If cond part other) paths = meet (in_flow part paths) (in_flow other paths)
flow_step (l.For var lo hi by at body) paths = head var (in_flow body) paths
flow_step (l.ParFor var lo hi by at guard reductions privates body) paths = head var (in_flow body) paths
flow_step (l.Release v) paths = with_slot (slot (reg.View v)) false paths
flow_step (l.Return values) paths = record { reached = false; slots = paths.slots }
flow_step y paths = assign (binds_of y) paths

abbrev pub flow : Statement → Flow
flow = fold-Statement Flow flow_step

abbrev pub block_flow : List Statement → Flow
block_flow body = in_flow (map flow body)

-- at the start the parameters are assigned
abbrev pub slot_count : Kernel → ℕ
slot_count kernel = 2 * max (length kernel.regs) (length kernel.views)

abbrev pub at_start : Kernel → Paths
at_start kernel =
    assign (param_regs 0 0 (types_of_params kernel))
    (record { reached = true; slots = replicate (slot_count kernel) false })

-- Two groups of the rules for loop programs. Whether a statement keeps the first, on registers, kinds, ranks and
-- templates, goes by the statement alone; the others go by where it stands and by the paths to it.
use Rattle.std.specs.Prelude.{◌&&◌, Bool, List}
use Rattle.std.specs.List.{list_all}
use Rattle.loop_prog.specs.Conditions.{kinds_fit, ranks_fit, registers_fit, templates_fit}
use Rattle.loop_prog.specs.Statements.{blocks_of}
use Rattle.loop_prog.specs.declared.kept.Kept.{Kept}
use Rattle.loop_prog.specs.declared.program.Kernel.{Kernel}
use Rattle.loop_prog.specs.declared.program.Statement.{Statement}
use Rattle.loop_prog.specs.declared.program.Statement.TheOpen as l
use Rattle.loop_prog.specs.declared.program.Statement.TheFolds.{fold-Statement}

abbrev pub keeps_local : Kept → Bool
keeps_local kept = (kept.register && kept.kind) && (kept.rank && kept.template)

abbrev pub keeps_paths : Kept → Bool
keeps_paths kept = kept.assigned && (kept.nesting && kept.returns)

-- the first group, of one statement and those of its blocks
abbrev pub local_at : {A : Type 0} → Kernel → l.Statement-F A → Bool
local_at kernel y = (registers_fit kernel y && kinds_fit kernel y) && (ranks_fit kernel y && templates_fit y)

abbrev pub local_step : Kernel → l.Statement-F Bool → Bool
local_step kernel y = local_at kernel y && list_all (λ b. b) (blocks_of y)

abbrev pub is_local : Kernel → Statement → Bool
is_local kernel = fold-Statement Bool (local_step kernel)

abbrev pub all_local : Kernel → List Statement → Bool
all_local kernel body = list_all (is_local kernel) body

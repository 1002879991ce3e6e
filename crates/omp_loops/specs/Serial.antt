-- Programs without a parallel loop.
use Rattle.std.specs.Prelude.{◌&&◌, Bool, true, false, List, map}
use Rattle.std.specs.List.{list_all}
use Rattle.eager_rules.specs.Small.{all_true}
use Rattle.loop_prog.specs.declared.program.Kernel.{Kernel}
use Rattle.loop_prog.specs.declared.program.Statement.{Statement}
use Rattle.loop_prog.specs.declared.program.Statement.TheOpen as l
use Rattle.loop_prog.specs.declared.program.Statement.TheFolds.{fold-Statement}

-- neither a statement nor one of those in its blocks is a parallel loop
abbrev pub serial_step : l.Statement-F Bool → Bool
serial_step (l.If cond part other) = all_true part && all_true other
serial_step (l.For var lo hi by at body) = all_true body
serial_step (l.ParFor var lo hi by at guard reductions privates body) = false
serial_step _ = true

abbrev pub is_serial : Statement → Bool
is_serial = fold-Statement Bool serial_step

abbrev pub all_serial : List Statement → Bool
all_serial body = all_true (map is_serial body)

abbrev pub kernels_serial : List Kernel → Bool
kernels_serial kernels = list_all (λ k. all_serial k.body) kernels

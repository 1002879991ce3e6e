use Rattle.std.proofs.Common.{◌≡◌, drop}
use Rattle.array_ops.specs.Arrays.{array_of}
use Rattle.loop_prog.specs.Templates.{leaf_values, some_clash}
use Rattle.loop_exec.specs.Banks.{views_bound}
use Rattle.loop_exec.proofs.nest.some_clash.Given as goal

-- what is left clashes exactly where some of it does
abbrev pub invariant-loop-i : goal.invariant-loop-i
invariant-loop-i l =
    some_clash (array_of l.e.frame.now) (leaf_values (views_bound l.e.views.now) (drop l.i l.e.steps.now)) ≡
    some_clash (array_of l.e.frame.now) (leaf_values (views_bound l.e.views.now) l.e.steps.now)

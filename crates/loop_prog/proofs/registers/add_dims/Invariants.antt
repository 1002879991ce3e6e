use Rattle.std.proofs.Common.{◌≡◌, ◌++◌, drop}
use Rattle.std.specs.List.{flat_map}
use Rattle.loop_prog.specs.Conditions.{axis_regs}
use Rattle.loop_prog.proofs.registers.add_dims.Given as goal

abbrev pub invariant-loop-axis : goal.invariant-loop-axis
invariant-loop-axis l =
    l.regs ++ flat_map axis_regs (drop l.axis-index l.dims.axes) ≡ l.fn.regs ++ flat_map axis_regs l.dims.axes

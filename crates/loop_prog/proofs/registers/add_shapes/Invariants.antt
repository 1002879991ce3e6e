use Rattle.std.proofs.Common.{◌≡◌, ◌++◌, drop}
use Rattle.std.specs.List.{flat_map}
use Rattle.loop_prog.specs.Conditions.{dims_regs}
use Rattle.loop_prog.proofs.registers.add_shapes.Given as goal

abbrev pub invariant-loop-dims : goal.invariant-loop-dims
invariant-loop-dims l =
    l.regs ++ flat_map dims_regs (drop l.dims-index l.shapes) ≡ l.fn.regs ++ flat_map dims_regs l.shapes

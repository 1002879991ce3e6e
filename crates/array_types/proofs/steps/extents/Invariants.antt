use Rattle.std.proofs.Common.{◌≡◌, ◌-◌, []}
use Rattle.array_types.specs.Forms.{extents_from}
use Rattle.array_types.proofs.steps.extents.Given as goal

-- the extents that are left come to what all of them come to
abbrev pub invariant-loop-axis : goal.invariant-loop-axis
invariant-loop-axis l =
    extents_from l.found l.of l.axis (l.rank - l.axis) l.state ≡ extents_from [] l.of 0 l.rank l.fn.state

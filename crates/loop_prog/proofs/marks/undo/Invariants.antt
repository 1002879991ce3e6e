use Rattle.std.proofs.Common.{◌≡◌, ◌≤◌, length, take}
use Rattle.loop_prog.specs.Undo.{undone}
use Rattle.loop_prog.proofs.marks.undo.Given as goal

abbrev pub decreases-loop-left : goal.decreases-loop-left
decreases-loop-left l = l.left

-- what is left of the changes leads from here to where all of them lead from the start
abbrev pub invariant-loop-left : goal.invariant-loop-left
invariant-loop-left l =
    (l.left ≤ length l.changes) × (undone (take l.left l.changes) l.slots ≡ undone l.changes l.fn.slots) ×
    (undone l.log l.slots ≡ undone l.fn.log l.fn.slots)

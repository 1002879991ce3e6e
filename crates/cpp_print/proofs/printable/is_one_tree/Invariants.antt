use Rattle.std.proofs.Common.{◌≡◌, ◌≤◌, drop}
use Rattle.loop_prog.specs.Conditions.{depth_after, is_one}
use Rattle.cpp_print.specs.Trees.{is_tree, tree_of}
use Rattle.cpp_print.proofs.printable.is_one_tree.Given as goal

-- with so many trees the steps that are left come to one tree where all do
abbrev pub invariant-loop-step : goal.invariant-loop-step
invariant-loop-step l = (is_one (depth_after (drop l.step-index l.steps) l.trees) ≡ is_tree (tree_of l.steps))
    × (l.trees ≤ l.step-index)

use Rattle.std.proofs.Common.{◌≡◌, ◌++◌, drop}
use Rattle.cpp_print.specs.Programs.{is_array, names_of, view_lines}
use Rattle.cpp_print.proofs.programs.put_view_lines.Given as goal

-- the lines so far, and those of the registers and names that are left
abbrev pub invariant-loop-v : goal.invariant-loop-v
invariant-loop-v l = l.out ++ view_lines l.v (drop l.v l.views) (names_of is_array l.left) ≡
    l.fn.out ++ view_lines 0 l.views (names_of is_array l.params)

use Rattle.std.proofs.Common.{◌≡◌, ◌++◌, drop}
use Rattle.cpp_print.specs.Programs.{is_scalar, names_of, word_lines}
use Rattle.cpp_print.proofs.programs.put_word_lines.Given as goal

-- the lines so far, and those of the registers and names that are left
abbrev pub invariant-loop-r : goal.invariant-loop-r
invariant-loop-r l = l.out ++ word_lines l.r (drop l.r l.kinds) (names_of is_scalar l.left) ≡
    l.fn.out ++ word_lines 0 l.kinds (names_of is_scalar l.params)

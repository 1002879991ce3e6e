use Rattle.std.proofs.Common.{◌≡◌, ◌++◌, take, drop, true}
use Rattle.std.specs.List.{flat_map, list_all}
use Rattle.cpp_print.specs.Printable.{kernel_printable}
use Rattle.cpp_print.specs.Programs.{kernel_text}
use Rattle.cpp_print.proofs.printing.put_kernels.Given as goal

-- the kernels so far stand behind what was there, and the others are printable
abbrev pub invariant-loop-kernel : goal.invariant-loop-kernel
invariant-loop-kernel l = record {
  text : l.out ≡ l.fn.out ++ flat_map kernel_text (take l.kernel-index l.kernels);
  others : list_all kernel_printable (drop l.kernel-index l.kernels) ≡ true;
}

use Rattle.std.proofs.Common.{◌≡◌, drop}
use Rattle.std.specs.List.{list_all}
use Rattle.cpp_print.specs.Printable.{kernel_printable}
use Rattle.cpp_print.proofs.printable.kernels_printable.Given as goal

abbrev pub invariant-loop-kernel : goal.invariant-loop-kernel
invariant-loop-kernel l =
    list_all kernel_printable (drop l.kernel-index l.kernels) ≡ list_all kernel_printable l.kernels

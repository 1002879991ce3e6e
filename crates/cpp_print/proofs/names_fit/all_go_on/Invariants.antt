use Rattle.std.proofs.Common.{◌≡◌, drop}
use Rattle.std.specs.List.{list_all}
use Rattle.cpp_print.specs.Printable.{goes_on}
use Rattle.cpp_print.proofs.names_fit.all_go_on.Given as goal

abbrev pub invariant-loop-byte : goal.invariant-loop-byte
invariant-loop-byte l = list_all goes_on (drop l.byte-index l.bytes) ≡ list_all goes_on l.bytes
